-- A `&mut [T; n]` in hand is lent as a `&mut [T]`, for a lifetime that is made for it, and comes back at the slice's last list: a local array is lent first
-- (`Holes`), and then so. T has one MIR type.
--     span_of h n ν δ   the slice of the n elements at h's place, lent for ν under the name δ
--     lends-array, back-array      the borrow becomes the slice, and comes back.        WaitsArray       what waits meanwhile
--     lends-span, back-span        both steps at once: local i, an array of n data, is lent as a `&mut [T]`, and comes back as some array of n.        span_at
--         the borrow.        Span         its two lifetimes and names
--     leaves-unsaid    the way out (`Functions`) of a function that has no `ensures`
-- Assumes `Logic`.
use Rattle.std.specs.Prelude.{◌≡◌, refl, ℕ, List, [], ◌∷◌, length}
use Rattle.std.proofs.Common.{sym, subst}
use Rattle.std.proofs.Math.Option.{some as just}
use seplogic.Ra.Ura.{Ura}
use base.Fraction.{full_share}
use mir.Syntax.{named, Ty}
use base.Logic.{SProp, ent, sep, emp, via, mono_r, emp∗, fst∗}
use base.Fml.{GName, Fml, fsep, flent}
use types.Logic.{Logic, sem}
use contract.Monad.{fact}
use types.Kit.{Item, ‵, ◌⊛◌, some, later, ⋆, nth, put, Goal, Soaks, Seq, Step, step, ◌$◌, move, drop, use1, use3, split, pick, rewrite, fsplit, fjoin, feq_l, await}
use types.Tokens.{lft_new, lft_end}
use types.SemTy.{cells, Arr}
use types.Share.{arr_parts}
use Rattle.std.specs.Borrow.{RattleType, Array}
use denote.ArrayMemory.{Single, Array-apart, Array-whole}
use denote.Index.{row, whole_out, whole_in}
use denote.Lend.{Held, lends_slice as slice-lent, slice_back}
use denote.Memory.{mem, shares, part_at}
use denote.Ref.{MutBor, mut_vals}
use denote.Slice.{slice_val, MutSlice, Room}
use Rattle.walks.specs.Data.{Datum, Good}
use Rattle.walks.specs.Loans.{Loan, mut_ref, mut_slice, In, Out, gives}
use Rattle.walks.specs.Params.{Par, Bounds, outs, Goods, alive}
use Rattle.walks.specs.Functions.{has, leaves-with}
use Rattle.walks.specs.Lends.{OpenRef, opened-ref, closed-ref}
use Rattle.walks.specs.Frames.{Among, type_of, block_of}
use Rattle.walks.specs.Holes.{Slot, kept, away, slot, set_slot, hol, loan_at, WaitsLocal, lends_local, back-local, arrays}

abbrev pub span_of : Loan → ℕ → ℕ → GName → Loan
span_of h n ν δ = record {
  lft = ν ∷ [];
  share = full_share;
  block = h.block;
  off = h.off;
  name = δ;
  val = slice_val (h.block, h.off) n;
}

abbrev at : {X : Type 0} → Loan → X → MutBor X
at h y = record { ref_ptr = (h.block, h.off); ghost_name = h.name; now = y }

abbrev pub WaitsArray : (R : RattleType) (n : ℕ) (h : Loan) → List R.Denot → ℕ → GName → Fml
WaitsArray R n h xs ν δ = fsep (flent (ν ∷ []) (Held R n h.block h.off δ)) (OpenRef (Array R n) h xs)

module _ {M : Type 1} {𝓤 : Ura M} {𝓛 : Logic 𝓤} {K : Type 0} {Γ : List (Item 𝓤)} {G : Goal 𝓤 𝓛.H} where
  pub lends-array : K → Soaks G → (R : RattleType) → Single R.mir → (n : ℕ) → Room R n → (h : Loan) (xs : List R.Denot)
      → (h.val ∷ [] ≡ mut_vals (at h xs) → length xs ≡ n → (ν : ℕ) (δ : GName)
      → Seq K 𝓛 (‵ (In (mut_slice R) (span_of h n ν δ) xs) ∷ ‵ (WaitsArray R n h xs ν δ) ∷ Γ) G)
      → Seq K 𝓛 (‵ (In (mut_ref (Array R n)) h xs) ∷ Γ) G
  lends-array t z R one n room h xs k =
      opened-ref t z (Array R n) h xs (λ p. use1 𝓛 (‵ ((arr_parts (shares R) n).part full_share xs h.block h.off))
      (Array-apart 𝓛 R full_share one n xs h.block h.off) $ fsplit t $ feq_l t (λ l.
      use1 𝓛 (‵ (cells (mem R) xs h.block h.off)) (whole_in 𝓛 R xs h.block h.off) $
      lft_new t z (λ ν. move t (1 ∷ []) $
      use1 𝓛 (later (some (λ (δ : GName). ‵ ((MutSlice (named 0) (ν ∷ []) R).own_val (at (span_of h n ν δ) xs) (slice_val (h.block, h.off) (length xs) ∷ [])) ⊛ ‵
      (flent (ν ∷ []) (Held R (length xs) h.block h.off δ)))))
      (slice-lent 𝓛 R (named 0) (ν ∷ []) xs h.block h.off (subst (Room R) (sym l) room)) $ await t z $ pick t (λ δ. split t $
      -- [the slice; the lender's part; the new token; the open borrow]
      rewrite t 0 (λ (m : ℕ). ‵ ((MutSlice (named 0) (ν ∷ []) R).own_val (at (span_of h n ν δ) xs) (slice_val (h.block, h.off) m ∷ []))) l refl $
      rewrite t 1 (λ (m : ℕ). ‵ (flent (ν ∷ []) (Held R m h.block h.off δ))) l refl $ move t (1 ∷ 3 ∷ []) $ fjoin t $
      move t (1 ∷ 2 ∷ []) $ fjoin t $ k p l ν δ))))

  pub back-array : K → Soaks G → (R : RattleType) (n : ℕ) (h : Loan) (xs ys : List R.Denot) (ν : ℕ) (δ : GName) → h.val ∷ [] ≡ mut_vals (at h xs)
      → Step K 𝓛 (‵ (In (mut_ref (Array R n)) h ys) ∷ Γ) G (‵ (Out (mut_slice R) (span_of h n ν δ) ys) ∷ ‵ (WaitsArray R n h xs ν δ) ∷ Γ) G
  back-array t z R n h xs ys ν δ p = step (λ s. fsplit t $ fsplit t $ move t (1 ∷ []) $ drop t $ move t (1 ∷ 0 ∷ []) $ lft_end t z $ move t (2 ∷ []) $ fsplit t $ move t (2 ∷ 0 ∷ 3 ∷ []) $
      use3 𝓛 (later (‵ ((Arr (mem R) n).own_at ys h.block h.off))) (slice_back 𝓛 R (ν ∷ []) δ ys n h.block h.off) $
      await t z $ fsplit t $ move t (1 ∷ []) $ use1 𝓛 (‵ (row R full_share ys h.block h.off)) (whole_out 𝓛 R ys h.block h.off) $
      move t (1 ∷ 0 ∷ []) $ fjoin t $
      use1 𝓛 (‵ (part_at (Array R n) full_share ys h.block h.off)) (Array-whole 𝓛 R full_share n ys h.block h.off) $
      closed-ref t z (Array R n) h xs ys p $ s)

-- ---- a local array
pub record Span : Type 0 where
  pub outer : ℕ
  pub outer_name : GName
  pub inner : ℕ
  pub inner_name : GName

abbrev pub span_at : ℕ → ℕ → Span → Loan
span_at b n s = record { lft = s.inner ∷ []; share = full_share; block = b; off = 0; name = s.inner_name; val = slice_val (b, 0) n }

abbrev pub WaitsSpan : (D : Datum) (n b : ℕ) → List D.type.Denot → Span → Fml
WaitsSpan D n b xs s = fsep (WaitsArray D.type n (loan_at b s.outer s.outer_name) xs s.inner s.inner_name)
    (WaitsLocal (arrays D n) b s.outer s.outer_name)

module _ {M : Type 1} {𝓤 : Ura M} {𝓛 : Logic 𝓤} {K : Type 0} {Γ : List (Item 𝓤)} {G : Goal 𝓤 𝓛.H} where
  open 𝓛 use {H}

  pub lends-span : K → Soaks G → (D : Datum) (n : ℕ) → Room D.type n → (m i : ℕ) (xs : List D.type.Denot) → Good (arrays D n) xs
      → {τs : List Ty} {β : ℕ → ℕ} {ss : List Slot} → nth 𝓛 m Γ ≡ hol 𝓤 H τs β ss → slot ss i ≡ kept (just ((arrays D n).val xs)) → Among τs i
      → type_of 𝓤 H τs β i ≡ (arrays D n).mir
      → (length xs ≡ n → (s : Span) → Seq K 𝓛 (‵ (In (mut_slice D.type) (span_at (block_of 𝓤 H τs β i) n s) xs) ∷ ‵ (WaitsSpan D n (block_of 𝓤 H τs β i) xs s)
      ∷ put 𝓛 m (hol 𝓤 H τs β (set_slot ss i away)) Γ) G) → Seq K 𝓛 Γ G
  lends-span t z D n room m i xs good {τs} {β} {ss} e g a q k =
      lends_local t z (arrays D n) m i xs good e g a q (λ ν δ.
      lends-array t z D.type (subst Single (sym D.one) tt) n room (loan_at (block_of 𝓤 H τs β i) ν δ) xs (λ _ l ν' δ'.
      move t (1 ∷ 2 ∷ []) $ fjoin t $ move t (1 ∷ 0 ∷ []) $ k l (record { outer = ν; outer_name = δ; inner = ν'; inner_name = δ' })))

  pub back-span : K → Soaks G → (D : Datum) (n m i b : ℕ) (xs ys : List D.type.Denot) (s : Span) → {τs : List Ty} {β : ℕ → ℕ} {ss : List Slot}
      → nth 𝓛 m Γ ≡ hol 𝓤 H τs β ss → slot ss i ≡ away → Among τs i → type_of 𝓤 H τs β i ≡ (arrays D n).mir → block_of 𝓤 H τs β i ≡ b
      → (Good (arrays D n) ys → Seq K 𝓛 (put 𝓛 m (hol 𝓤 H τs β (set_slot ss i (kept (just ((arrays D n).val ys))))) Γ) G)
      → Seq K 𝓛 (‵ (Out (mut_slice D.type) (span_at b n s) ys) ∷ ‵ (WaitsSpan D n b xs s) ∷ Γ) G
  back-span t z D n m i b xs ys s e g a q there k =
      move t (1 ∷ []) $ fsplit t $ move t (2 ∷ 0 ∷ 1 ∷ []) $
      back-array t z D.type n (loan_at b s.outer s.outer_name) xs ys s.inner s.inner_name refl $
      gives t (mut_ref (Array D.type n)) (loan_at b s.outer s.outer_name) ys $
      back-local t z (arrays D n) m i b ys s.outer s.outer_name e g a q there k

-- ---- no `ensures`
pub leaves-unsaid : {M : Type 1} {𝓤 : Ura M} (𝓛 : Logic 𝓤) (ps : List Par) (ws : Bounds 0 ps) → Goods ps → (D : Datum)
    (r : D.type.Denot) → Good D r
    → ent 𝓤 (⋆ 𝓛 (outs 𝓤 0 ps ws)) (sep 𝓤 (sep 𝓤 (alive 𝓛 ps) (sep 𝓤 (sem 𝓛 (has 0 ps ws)) (sem 𝓛 (D.type.own_val r (D.val r ∷ []))))) (emp 𝓤))
leaves-unsaid {𝓤 = 𝓤} 𝓛 ps ws goods D r good =
    let P : SProp 𝓤 = sep 𝓤 (alive 𝓛 ps) (sep 𝓤 (sem 𝓛 (has 0 ps ws)) (sem 𝓛 (D.type.own_val r (D.val r ∷ [])))) in
    let Q : SProp 𝓤 = fact 𝓤 (Unit {0}) in
    via 𝓤 (sep 𝓤 P Q) (leaves-with 𝓛 ps ws goods D r good (Unit {0}) tt) (mono_r 𝓤 P (via 𝓤 (sep 𝓤 (emp 𝓤) Q) (emp∗ 𝓤 Q) (fst∗ 𝓤 (emp 𝓤) Q)))
