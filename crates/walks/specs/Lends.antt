-- A `&mut` in hand is lent again, for a lifetime that is made for it, and comes back: what stands in hand meanwhile is a borrow like any other, which a call
-- may use up.
--     relent h ν δ     the same place, lent again for ν under the name δ
--     lends_slice, back-slice      a `&mut [T]` as a `&mut [T]`.        shares-slice, unshares-slice     as a `&[T]`
--     lends_ref, back-ref          a `&mut T` as a `&mut T`.            shares-ref, unshares-ref         as a `&T`
--     Waits…           what waits meanwhile
--     shares-…-lent    the same by the one law of T that it needs.        shares-…-by      by `denote.Shares`'s law at a lifetime l, with tokens ts whose meet is
--         within l, which come back: so of each declared type, also of one that can't be copied
-- A `&T` is made by T's own law, so T is a `Row` there. A `&` has no ghost name, so there δ is any.
-- Assumes `Logic`.
use Rattle.std.specs.Prelude.{◌≡◌, refl, ℕ, List, [], ◌∷◌, length}
use Rattle.std.proofs.Common.{sym, ◌∙◌, ap, subst}
use seplogic.Ra.Ura.{Ura}
use base.Fraction.{full_share}
use mir.Syntax.{named}
use mir.Val.{Val}
use base.Logic.{ent, sep, emp, id⊢, via, fst∗, emp∗, comm∗}
use base.Fml.{Lft, GName, Fml, Incl, Incl-refl, Incl-trans, fsep, flft, fobs, fauth, flent, fobor, fhide}
use contract.BorrowLft.{⊑_static, meet_⊑_left, meet_⊑_right}
use ghost.Rules.{Toks, span}
use types.Logic.{Logic, sem, lfts}
use types.Kit.{Item, ‵, raw, ◌⊛◌, some, later, Goal, Soaks, Seq, Step, step, ◌$◌, ◌∵◌, !, qed, updating, now, keep, done, move, use1, use2, use3, drop, split, pick, rewrite, fsplit, fsplit3, fjoin, fjoin3, feq_l, feq_i, await}
use types.Mut.{open_ref, close_ref}
use types.Tokens.{lft_new, lft_end, lent_back}
use types.SemTy.{cells, Arr, Body}
use types.Share.{arr_parts}
use denote.RattleType.{RattleType, RowLaws}
use denote.Shadow.{pure_l, pure_i}
use denote.Shares.{Shares}
use denote.Memory.{mem, shares, part_at}
use denote.Ref.{MutRef, ShrRef, mut_vals}
use denote.Slice.{slice_val, MutSlice, ShrSlice, heres, Room, mut_slice_at, shr_slice_at, mut_slice_vals, coded_holeys, elements_shared}
use denote.Lend.{Held, LentShrs, lends_slice as slice-lent, slice_back, lends_shr_slice, lends_shr, lends_free, lends_ref as ref-lent, ref_back}
use denote.Lends.{Lent-map}
use denote.Index.{row, whole_out, whole_in, opens_slice, closes_slice}
use Rattle.walks.specs.Rows.{Row, LentWhole, rows-lent}
use Rattle.walks.specs.Loans.{Loan, mut_ref, shr_ref, mut_slice, shr_slice, mut_at, shr_at, In, Out}

abbrev pub relent : Loan → ℕ → GName → Loan
relent h ν δ = record { lft = ν ∷ []; share = full_share; block = h.block; off = h.off; name = δ; val = h.val }

-- a new lifetime's token, beside others
abbrev beside-new : ℕ → Toks → Toks
beside-new ν ts = (ν ∷ [], full_share) ∷ ts

new-within : (ν : ℕ) (ts : Toks) → Incl (span (beside-new ν ts)) (ν ∷ [])
new-within ν [] = Incl-refl (ν ∷ [])
new-within ν (t ∷ ts) = meet_⊑_left (ν ∷ []) (span (t ∷ ts))

others-within : (ν : ℕ) (ts : Toks) → Incl (span (beside-new ν ts)) (span ts)
others-within ν [] = ⊑_static (ν ∷ [])
others-within ν (t ∷ ts) = meet_⊑_right (ν ∷ []) (span (t ∷ ts))

module _ {M : Type 1} {𝓤 : Ura M} (𝓛 : Logic 𝓤) where
  open 𝓛 use {A}

  joins-new : (ν : ℕ) (ts : Toks) → ent 𝓤 (sep 𝓤 (A.lft (ν ∷ []) full_share) (lfts 𝓛 ts)) (lfts 𝓛 (beside-new ν ts))
  joins-new ν [] = fst∗ 𝓤 (A.lft (ν ∷ []) full_share) (lfts 𝓛 [])
  joins-new ν (t ∷ ts) = id⊢ 𝓤 (lfts 𝓛 (beside-new ν (t ∷ ts)))

  parts-new : (ν : ℕ) (ts : Toks) → ent 𝓤 (lfts 𝓛 (beside-new ν ts)) (sep 𝓤 (A.lft (ν ∷ []) full_share) (lfts 𝓛 ts))
  parts-new ν [] = via 𝓤 (sep 𝓤 (emp 𝓤) (A.lft (ν ∷ []) full_share)) (emp∗ 𝓤 (A.lft (ν ∷ []) full_share)) (comm∗ 𝓤 (emp 𝓤) (A.lft (ν ∷ []) full_share))
  parts-new ν (t ∷ ts) = id⊢ 𝓤 (lfts 𝓛 (beside-new ν (t ∷ ts)))

-- ---- slices
module _ (R : RattleType) (h : Loan) (ys : List R.Denot) where
  -- the borrow, open, with both halves of its ghost variable, and that its machine value is what it is
  abbrev pub Open : Fml
  Open = fsep (mut_slice_at R (mut_at h ys) (h.val ∷ [])) (fsep (fobor h.lft h.share (Held R (length ys) h.block h.off h.name))
      (fsep (fobs h.name ((coded_holeys R).code (heres R ys))) (fauth h.name ((coded_holeys R).code (heres R ys)))))

  abbrev pub WaitsSlice : ℕ → GName → Fml
  WaitsSlice ν δ = fsep (flent (ν ∷ []) (Held R (length ys) h.block h.off δ)) Open

  abbrev pub WaitsShared : ℕ → Fml
  WaitsShared ν = fsep (flent (ν ∷ []) ((arr_parts (shares R) (length ys)).part full_share ys h.block h.off)) Open

module _ {M : Type 1} {𝓤 : Ura M} {𝓛 : Logic 𝓤} {K : Type 0} {Γ : List (Item 𝓤)} {G : Goal 𝓤 𝓛.H} where
  -- the borrow is opened: its row of elements is in hand
  pub opened : K → Soaks G → (R : RattleType) (h : Loan) (ys : List R.Denot) → (Room R (length ys) × (h.val ∷ [] ≡ mut_slice_vals (mut_at h ys))
      → Seq K 𝓛 (‵ (row R full_share ys h.block h.off) ∷ ‵ (Open R h ys) ∷ Γ) G)
      → Seq K 𝓛 (‵ (In (mut_slice R) h ys) ∷ Γ) G
  opened t z R h ys k =
      fsplit t $ fsplit t $ pure_l t (mut_slice_at R (mut_at h ys) (h.val ∷ [])) (λ p. fsplit t $ opens_slice t z R ys h.block h.off $
      -- [the row; the open borrow; obs; auth]
      move t (2 ∷ 3 ∷ []) $ fjoin t $ move t (2 ∷ 0 ∷ []) $ fjoin t $ pure_i t (mut_slice_at R (mut_at h ys) (h.val ∷ [])) (tt, (tt, tt)) p $ fjoin t $
      move t (1 ∷ 0 ∷ []) $ k (p.1, p.0))

  -- and closed, at a list as long
  pub closed : K → Soaks G → (R : RattleType) (h : Loan) (ys zs : List R.Denot) → length zs ≡ length ys
      → Step K 𝓛 (‵ (In (mut_slice R) h zs) ∷ Γ) G (‵ (row R full_share zs h.block h.off) ∷ ‵ (Open R h ys) ∷ Γ) G
  closed t z R h ys zs e = step (λ s. move t (1 ∷ []) $ fsplit t $ pure_l t (mut_slice_at R (mut_at h ys) (h.val ∷ [])) (λ p. fsplit t $ move t (1 ∷ []) $ fsplit t $
      move t (3 ∷ 2 ∷ 0 ∷ 1 ∷ []) $
      closes_slice t z R ys zs e h.block h.off $ fjoin t $
      pure_i t (mut_slice_at R (mut_at h zs) (h.val ∷ [])) (tt, (tt, tt)) (
        p.0 ∙ ap (λ (m : ℕ). slice_val (h.block, h.off) m ∷ []) (sym e),
        subst (Room R) (sym e)
            p.1,
      ) $ fjoin t $ fjoin t $ s))

  pub lends_slice : K → Soaks G → (R : RattleType) (h : Loan) (ys : List R.Denot)
      → ((ν : ℕ) (δ : GName) → Seq K 𝓛 (‵ (In (mut_slice R) (relent h ν δ) ys) ∷ ‵ (WaitsSlice R h ys ν δ) ∷ Γ) G) → Seq K 𝓛 (‵ (In (mut_slice R) h ys) ∷ Γ) G
  lends_slice t z R h ys k =
      opened t z R h ys (λ p. use1 𝓛 (‵ (cells (mem R) ys h.block h.off)) (whole_in 𝓛 R ys h.block h.off) $
      lft_new t z (λ ν. move t (1 ∷ []) $
      use1 𝓛 (later (some (λ (δ : GName). ‵ ((MutSlice (named 0) (ν ∷ []) R).own_val (mut_at (relent h ν δ) ys) (mut_slice_vals (mut_at h ys))) ⊛ ‵
      (flent (ν ∷ []) (Held R (length ys) h.block h.off δ)))))
      (slice-lent 𝓛 R (named 0) (ν ∷ []) ys h.block h.off p.0) $ await t z $ pick t (λ δ. split t $
      -- [the new slice; the lender's part; the new token; the open borrow]
      rewrite t 0 (λ (vs : List Val). ‵ ((MutSlice (named 0) (ν ∷ []) R).own_val (mut_at (relent h ν δ) ys) vs)) (sym p.1) refl $ move t (1 ∷ 3 ∷ []) $ fjoin t $
      move t (1 ∷ 2 ∷ []) $ fjoin t $ k ν δ)))

  pub back-slice : K → Soaks G → (R : RattleType) (h : Loan) (ys zs : List R.Denot) (ν : ℕ) (δ : GName) → length zs ≡ length ys
      → Step K 𝓛 (‵ (In (mut_slice R) h zs) ∷ Γ) G (‵ (Out (mut_slice R) (relent h ν δ) zs) ∷ ‵ (WaitsSlice R h ys ν δ) ∷ Γ) G
  back-slice t z R h ys zs ν δ e = step (λ s. fsplit t $ fsplit t $ move t (1 ∷ []) $ drop t $ move t (1 ∷ 0 ∷ []) $ lft_end t z $ move t (2 ∷ []) $ fsplit t $ move t (2 ∷ 0 ∷ 3 ∷ []) $
      use3 𝓛 (later (‵ ((Arr (mem R) (length ys)).own_at zs h.block h.off))) (slice_back 𝓛 R (ν ∷ []) δ zs (length ys) h.block h.off) $
      await t z $ fsplit t $ drop t $
      use1 𝓛 (‵ (row R full_share zs h.block h.off)) (whole_out 𝓛 R zs h.block h.off) $ closed t z R h ys zs e $ s)

module _ {M : Type 1} {𝓤 : Ura M} (𝓛 : Logic 𝓤) (R : RattleType) (ln : LentWhole 𝓛 R) where
  open 𝓛 use {H, A}

  -- the row of a slice, with what its machine value says, is lent
  shared-slice : (κ : Lft) (ys : List R.Denot) (b o : ℕ) → Room R (length ys)
      → ent 𝓤 (sem 𝓛 ((arr_parts (shares R) (length ys)).part full_share ys b o)) (H.⇛ (LentShrs 𝓛 R (named 0) κ full_share ys b o))
  shared-slice κ ys b o g =
      let P : Fml = (arr_parts (shares R) (length ys)).part full_share ys b o in
      qed 𝓛 (‵ P ∷ []) ∵ updating ! $ use1 𝓛 (later (‵ (fhide (elements_shared R ys b o κ)) ⊛ ‵ (flent κ P)))
      (Lent-map 𝓛 P (row R full_share ys b o) (elements_shared R ys b o) (qed 𝓛 (‵ P ∷ []) ∵ fsplit ! $ drop ! $ done !)
      (qed 𝓛 (‵ (row R full_share ys b o) ∷ []) ∵ feq_i ! ℕ (length ys) (length ys) refl $ done !)
      (rows-lent 𝓛 R ln ys b o) κ) $ await ! tt $ split ! $ now ! $ keep ! (0 ∷ 1 ∷ []) $
      pure_i ! (shr_slice_at R (record { ref_ptr = (b, o); now = ys }) (slice_val (b, o) (length ys) ∷ [])) (tt, (tt, tt)) (refl, g) $ fjoin ! $ done !

module _ {M : Type 1} {𝓤 : Ura M} {𝓛 : Logic 𝓤} {K : Type 0} {Γ : List (Item 𝓤)} {G : Goal 𝓤 𝓛.H} where
  pub shares-slice-lent : K → Soaks G → (R : RattleType) (L : RowLaws R) → LentWhole 𝓛 R → (h : Loan) (ys : List R.Denot)
      → ((ν : ℕ) (δ : GName) → Seq K 𝓛 (‵ (In (shr_slice R L) (relent h ν δ) ys) ∷ ‵ (WaitsShared R h ys ν) ∷ Γ) G)
      → Seq K 𝓛 (‵ (In (mut_slice R) h ys) ∷ Γ) G
  shares-slice-lent t z R L ln h ys k =
      opened t z R h ys (λ p. feq_i t ℕ (length ys) (length ys) refl $ fjoin t $ lft_new t z (λ ν. move t (1 ∷ []) $
      use1 𝓛 (later (‵ ((ShrSlice (named 0) (ν ∷ []) R).own_val (shr_at h ys) (mut_slice_vals (mut_at h ys))) ⊛ ‵
      (flent (ν ∷ []) ((arr_parts (shares R) (length ys)).part full_share ys h.block h.off))))
      (shared-slice 𝓛 R ln (ν ∷ []) ys h.block h.off p.0) $ await t z $ split t $
      -- [the slice; the lender's part; the new token; the open borrow]
      rewrite t 0 (λ (vs : List Val). ‵ ((ShrSlice (named 0) (ν ∷ []) R).own_val (shr_at h ys) vs)) (sym p.1) refl $ move t (1 ∷ 3 ∷ []) $ fjoin t $
      move t (1 ∷ 2 ∷ []) $ fjoin t $ k ν h.name))

  pub shares-slice : K → Soaks G → (R : Row) (h : Loan) (ys : List R.type.Denot)
      → ((ν : ℕ) (δ : GName) → Seq K 𝓛 (‵ (In (shr_slice R.type R.laws) (relent h ν δ) ys) ∷ ‵ (WaitsShared R.type h ys ν) ∷ Γ) G)
      → Seq K 𝓛 (‵ (In (mut_slice R.type) h ys) ∷ Γ) G
  shares-slice t z R = shares-slice-lent t z R.type R.laws (R.lends M 𝓤 𝓛)

module _ {M : Type 1} {𝓤 : Ura M} {𝓛 : Logic 𝓤} {K : Type 0} {Γ : List (Item 𝓤)} {G : Goal 𝓤 𝓛.H} where
  pub shares-slice-by : K → Soaks G → (R : RattleType) (L : RowLaws R) (l : Lft) → Shares 𝓛 R l → (ts : Toks) → Incl (span ts) l → (h : Loan) (ys : List R.Denot)
      → ((ν : ℕ) (δ : GName) → Seq K 𝓛 (‵ (In (shr_slice R L) (relent h ν δ) ys) ∷ ‵ (WaitsShared R h ys ν) ∷ raw (lfts 𝓛 ts) ∷ Γ) G)
      → Seq K 𝓛 (‵ (In (mut_slice R) h ys) ∷ raw (lfts 𝓛 ts) ∷ Γ) G
  shares-slice-by t z R L l sh ts inc h ys k =
      opened t z R h ys (λ p. feq_i t ℕ (length ys) (length ys) refl $ fjoin t $ lft_new t z (λ ν. move t (0 ∷ 3 ∷ []) $
      use2 𝓛 (raw (lfts 𝓛 (beside-new ν ts))) (joins-new 𝓛 ν ts) $ move t (1 ∷ 0 ∷ []) $
      use2 𝓛 (later ((‵ ((ShrSlice (named 0) (ν ∷ []) R).own_val (shr_at h ys) (mut_slice_vals (mut_at h ys))) ⊛ ‵
      (flent (ν ∷ []) ((arr_parts (shares R) (length ys)).part full_share ys h.block h.off))) ⊛ raw (lfts 𝓛 (beside-new ν ts))))
      (lends_shr_slice 𝓛 R (named 0) (ν ∷ []) full_share ys h.block h.off p.0 l sh (beside-new ν ts) (Incl-trans (others-within ν ts) inc) (new-within ν ts)) $
      await t z $ split t $ split t $ move t (2 ∷ []) $
      use1 𝓛 (‵ (flft (ν ∷ []) full_share) ⊛ raw (lfts 𝓛 ts)) (parts-new 𝓛 ν ts) $ split t $
      -- [the new token; the other tokens; the slice; the lender's part; the open borrow]
      move t (2 ∷ 0 ∷ []) $
      rewrite t 0 (λ (vs : List Val). ‵ ((ShrSlice (named 0) (ν ∷ []) R).own_val (shr_at h ys) vs)) (sym p.1) refl $ fjoin t $
      move t (2 ∷ 3 ∷ []) $ fjoin t $ move t (1 ∷ 0 ∷ []) $ k ν h.name))

  pub unshares-slice : K → Soaks G → (R : RattleType) (L : RowLaws R) (h : Loan) (ys : List R.Denot) (ν : ℕ) (δ : GName)
      → Step K 𝓛 (‵ (In (mut_slice R) h ys) ∷ Γ) G (‵ (Out (shr_slice R L) (relent h ν δ) ys) ∷ ‵ (WaitsShared R h ys ν) ∷ Γ) G
  unshares-slice t z R L h ys ν δ = step (λ s. fsplit t $ drop t $ lft_end t z $ move t (1 ∷ []) $ fsplit t $ move t (2 ∷ 0 ∷ []) $ lent_back t z $ fsplit t $
      drop t $ closed t z R h ys ys refl $ s)

-- ---- references to one value
module _ (R : RattleType) (h : Loan) (x : R.Denot) where
  abbrev pub OpenRef : Fml
  OpenRef = fsep (fobor h.lft h.share (Body (mem R) h.block h.off h.name)) (fsep (fobs h.name (R.coded.code x))
      (fauth h.name (R.coded.code x)))

  abbrev pub WaitsRef : ℕ → GName → Fml
  WaitsRef ν δ = fsep (flent (ν ∷ []) (Body (mem R) h.block h.off δ)) OpenRef

  abbrev pub WaitsSharedRef : ℕ → Fml
  WaitsSharedRef ν = fsep (flent (ν ∷ []) (part_at R full_share x h.block h.off)) OpenRef

module _ {M : Type 1} {𝓤 : Ura M} {𝓛 : Logic 𝓤} {K : Type 0} {Γ : List (Item 𝓤)} {G : Goal 𝓤 𝓛.H} where
  pub opened-ref : K → Soaks G → (R : RattleType) (h : Loan) (x : R.Denot) → (h.val ∷ [] ≡ mut_vals (mut_at h x)
      → Seq K 𝓛 (‵ ((mem R).own_at x h.block h.off) ∷ ‵ (OpenRef R h x) ∷ Γ) G)
      → Seq K 𝓛 (‵ (In (mut_ref R) h x) ∷ Γ) G
  opened-ref t z R h x k = fsplit t $ fsplit3 t $ feq_l t (λ p. open_ref t z (mem R) $ move t (2 ∷ 3 ∷ []) $ fjoin t $ move t (2 ∷ 0 ∷ []) $ fjoin t $
      move t (1 ∷ 0 ∷ []) $ k p)

  pub closed-ref : K → Soaks G → (R : RattleType) (h : Loan) (x y : R.Denot) → h.val ∷ [] ≡ mut_vals (mut_at h x)
      → Step K 𝓛 (‵ (In (mut_ref R) h y) ∷ Γ) G (‵ ((mem R).own_at y h.block h.off) ∷ ‵ (OpenRef R h x) ∷ Γ) G
  closed-ref t z R h x y p = step (λ s. move t (1 ∷ []) $ fsplit3 t $ move t (3 ∷ 0 ∷ 1 ∷ 2 ∷ []) $ close_ref t z (mem R) y $ feq_i t (List Val) (h.val ∷ [])
      (mut_vals (mut_at h y)) p $ fjoin3 t $ fjoin t $ s)

  pub lends_ref : K → Soaks G → (R : RattleType) (h : Loan) (x : R.Denot)
      → (h.val ∷ [] ≡ mut_vals (mut_at h x) → (ν : ℕ) (δ : GName) → Seq K 𝓛 (‵ (In (mut_ref R) (relent h ν δ) x) ∷ ‵ (WaitsRef R h x ν δ) ∷ Γ) G)
      → Seq K 𝓛 (‵ (In (mut_ref R) h x) ∷ Γ) G
  lends_ref t z R h x k =
      opened-ref t z R h x (λ p. lft_new t z (λ ν. move t (1 ∷ []) $
      use1 𝓛 (later (some (λ (δ : GName). ‵ ((MutRef (named 0) (ν ∷ []) R).own_val (mut_at (relent h ν δ) x) (mut_vals (mut_at h x))) ⊛ ‵
      (flent (ν ∷ []) (Body (mem R) h.block h.off δ)))))
      (ref-lent 𝓛 R (named 0) (ν ∷ []) x h.block h.off) $ await t z $ pick t (λ δ. split t $
      rewrite t 0 (λ (vs : List Val). ‵ ((MutRef (named 0) (ν ∷ []) R).own_val (mut_at (relent h ν δ) x) vs)) (sym p) refl $ move t (1 ∷ 3 ∷ []) $ fjoin t $
      move t (1 ∷ 2 ∷ []) $ fjoin t $ k p ν δ)))

  pub back-ref : K → Soaks G → (R : RattleType) (h : Loan) (x y : R.Denot) (ν : ℕ) (δ : GName) → h.val ∷ [] ≡ mut_vals (mut_at h x)
      → Step K 𝓛 (‵ (In (mut_ref R) h y) ∷ Γ) G (‵ (Out (mut_ref R) (relent h ν δ) y) ∷ ‵ (WaitsRef R h x ν δ) ∷ Γ) G
  back-ref t z R h x y ν δ p = step (λ s. fsplit t $ fsplit t $ move t (1 ∷ []) $ drop t $ move t (1 ∷ 0 ∷ []) $ lft_end t z $ move t (2 ∷ []) $ fsplit t $ move t (2 ∷ 0 ∷ 3 ∷ []) $
      use3 𝓛 (later (‵ ((mem R).own_at y h.block h.off))) (ref_back 𝓛 R (ν ∷ []) δ y h.block h.off) $ await t z $ closed-ref t z R h x y p $ s)

module _ {M : Type 1} {𝓤 : Ura M} {𝓛 : Logic 𝓤} {K : Type 0} {Γ : List (Item 𝓤)} {G : Goal 𝓤 𝓛.H} where
  pub shares-ref-lent : K → Soaks G → (R : RattleType) (L : RowLaws R) → LentWhole 𝓛 R → (h : Loan) (x : R.Denot)
      → (h.val ∷ [] ≡ mut_vals (mut_at h x) → (ν : ℕ) (δ : GName) → Seq K 𝓛 (‵ (In (shr_ref R L) (relent h ν δ) x) ∷ ‵ (WaitsSharedRef R h x ν) ∷ Γ) G)
      → Seq K 𝓛 (‵ (In (mut_ref R) h x) ∷ Γ) G
  shares-ref-lent t z R L ln h x k =
      opened-ref t z R h x (λ p. lft_new t z (λ ν. move t (1 ∷ []) $
      use1 𝓛 (later (‵ ((ShrRef (named 0) (ν ∷ []) R).own_val (shr_at h x) (mut_vals (mut_at h x))) ⊛ ‵
      (flent (ν ∷ []) (part_at R full_share x h.block h.off))))
      (lends_free 𝓛 R (named 0) (ν ∷ []) full_share x h.block h.off (ln x h.block h.off)) $ await t z $ split t $
      rewrite t 0 (λ (vs : List Val). ‵ ((ShrRef (named 0) (ν ∷ []) R).own_val (shr_at h x) vs)) (sym p) refl $ move t (1 ∷ 3 ∷ []) $ fjoin t $
      move t (1 ∷ 2 ∷ []) $ fjoin t $ k p ν h.name))

  pub shares-ref : K → Soaks G → (R : Row) (h : Loan) (x : R.type.Denot)
      → (h.val ∷ [] ≡ mut_vals (mut_at h x) → (ν : ℕ) (δ : GName)
      → Seq K 𝓛 (‵ (In (shr_ref R.type R.laws) (relent h ν δ) x) ∷ ‵ (WaitsSharedRef R.type h x ν) ∷ Γ) G)
      → Seq K 𝓛 (‵ (In (mut_ref R.type) h x) ∷ Γ) G
  shares-ref t z R = shares-ref-lent t z R.type R.laws (R.lends M 𝓤 𝓛)

  pub shares-ref-by : K → Soaks G → (R : RattleType) (L : RowLaws R) (l : Lft) → Shares 𝓛 R l → (ts : Toks) → Incl (span ts) l → (h : Loan) (x : R.Denot)
      → (h.val ∷ [] ≡ mut_vals (mut_at h x) → (ν : ℕ) (δ : GName)
      → Seq K 𝓛 (‵ (In (shr_ref R L) (relent h ν δ) x) ∷ ‵ (WaitsSharedRef R h x ν) ∷ raw (lfts 𝓛 ts) ∷ Γ) G)
      → Seq K 𝓛 (‵ (In (mut_ref R) h x) ∷ raw (lfts 𝓛 ts) ∷ Γ) G
  shares-ref-by t z R L l sh ts inc h x k =
      opened-ref t z R h x (λ p. lft_new t z (λ ν. move t (0 ∷ 3 ∷ []) $
      use2 𝓛 (raw (lfts 𝓛 (beside-new ν ts))) (joins-new 𝓛 ν ts) $ move t (1 ∷ 0 ∷ []) $
      use2 𝓛 (later ((‵ ((ShrRef (named 0) (ν ∷ []) R).own_val (shr_at h x) (mut_vals (mut_at h x))) ⊛ ‵
      (flent (ν ∷ []) (part_at R full_share x h.block h.off))) ⊛ raw (lfts 𝓛 (beside-new ν ts))))
      (lends_shr 𝓛 R (named 0) (ν ∷ []) full_share x h.block h.off l (sh x) (beside-new ν ts) (Incl-trans (others-within ν ts) inc) (new-within ν ts)) $
      await t z $ split t $ split t $ move t (2 ∷ []) $
      use1 𝓛 (‵ (flft (ν ∷ []) full_share) ⊛ raw (lfts 𝓛 ts)) (parts-new 𝓛 ν ts) $ split t $
      move t (2 ∷ 0 ∷ []) $
      rewrite t 0 (λ (vs : List Val). ‵ ((ShrRef (named 0) (ν ∷ []) R).own_val (shr_at h x) vs)) (sym p) refl $ fjoin t $
      move t (2 ∷ 3 ∷ []) $ fjoin t $ move t (1 ∷ 0 ∷ []) $ k p ν h.name))

  pub unshares-ref : K → Soaks G → (R : RattleType) (L : RowLaws R) (h : Loan) (x : R.Denot) (ν : ℕ) (δ : GName) → h.val ∷ [] ≡ mut_vals (mut_at h x)
      → Step K 𝓛 (‵ (In (mut_ref R) h x) ∷ Γ) G (‵ (Out (shr_ref R L) (relent h ν δ) x) ∷ ‵ (WaitsSharedRef R h x ν) ∷ Γ) G
  unshares-ref t z R L h x ν δ p = step (λ s. fsplit t $ drop t $ lft_end t z $ move t (1 ∷ []) $ fsplit t $ move t (2 ∷ 0 ∷ []) $ lent_back t z $
      closed-ref t z R h x x p $ s)
