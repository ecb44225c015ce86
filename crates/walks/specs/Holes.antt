-- Locals that are lent: a frame (`Frames`) some of whose cells are away. The others are read as ever, and what was lent comes back with another value.
--     Slot             what a frame has of a local: its cell, `kept o`, with what it holds, or that the cell is `away`
--     hol τs β ss      the entry.        keeps vs     a whole frame's slots.        contents ss      what the locals hold once all are back
--     lends_out        a whole frame becomes such an entry.        whole_again  and the way back, where no cell is away
--     var-in, part_in  the operands `x` and `x.k`, of a local that is not away
--     loan_at b ν δ     the borrow of the local at the block b, for the lifetime ν, under the name δ
--     lends_local      local i, which holds the datum x, is lent as a `&mut`, for a lifetime that is made for it: a borrow like any other.        back-local   it
--              comes back, with its last value
--     arrays D n       an array of n data, as a datum.        repeats      the right side `[x; n]`
-- Assumes `Logic`.
use Rattle.std.specs.Prelude.{◌≡◌, replicate}
use Rattle.std.proofs.Math.Path.{refl}
use Rattle.std.proofs.Common.{sym, ◌∙◌, ap, subst, arith}
use Prim.Native.Nat.{ℕ, zero, suc}
use mathlib.Core.List.{List, [], ◌∷◌, map}
use Rattle.std.proofs.Math.Option.{Option, some, none}
use Rattle.std.proofs.lemmas.List.{length-replicate}
use seplogic.Ra.Ura.{Ura}
use base.Fraction.{full_share}
use mir.Syntax.{Sym, named, Ty, Tys, ty_array, ty_struct, field, Opd as Operand, copy, place, repeat}
use mir.Val.{Val, Vals, vptr, vstruct}
use mir.Fields.{get_v}
use base.Logic.{SProp, ent, sep, wand, all, emp, guard, id⊢, via, mono_l, mono_r, assoc∗, wand_i, apply∗, all_i, all_e, guard_i, guard_e}
use base.Fml.{GName, Fml, fsep, fat, flent}
use prog.Memory.{field_at, field_of}
use prog.Wp.{Heap}
use types.Logic.{Logic, sem}
use types.Kit.{Item, ‵, raw, ◌⊛◌, some as any_of, later, given, mean, ⋆, nth, del, put, pull, fill, push, pop, Goal, Soaks, Seq, Step, step, by, ◌$◌, ◌∵◌, !, qed, move, drop, split, join, pick, learn, use1, use2, use3, await, rewrite, fsplit, fjoin, fpick, fpack, check, done}
use types.Part.{Part, rep, sub, look_in}
use types.Run.{Opd, Rv, load, from, stop, fld}
use types.SemTy.{Body}
use types.Tokens.{lft_new, lft_end}
use denote.Laws.{Is, shows}
use denote.Memory.{lone, cell_at, part_of, mem}
use denote.Array.{Array, each, array_val, Array-Tells, Array-Makes, Array-Lawful}
use denote.Shadow.{shadow}
use denote.Ref.{MutRef}
use denote.Lend.{lends_ref as ref-lent, ref_back}
use denote.Steps.{facts, owned}
use Rattle.walks.specs.Data.{Datum, Good}
use Rattle.walks.specs.Loans.{Loan, mut_ref, In, Out}
use Rattle.walks.specs.Frames.{Among, env_at, Cell, Frame, fr, Holds, holds, type_of, block_of, under, first_out}

pub data Slot : Type 0 where
  kept : Option Val → Slot
  away : Slot

abbrev pub slot : List Slot → ℕ → Slot
slot [] i = kept none
slot (s ∷ ss) zero = s
slot (s ∷ ss) (suc i) = slot ss i

abbrev pub set_slot : List Slot → ℕ → Slot → List Slot
set_slot [] zero r = r ∷ []
set_slot [] (suc i) r = kept none ∷ set_slot [] i r
set_slot (s ∷ ss) zero r = r ∷ ss
set_slot (s ∷ ss) (suc i) r = s ∷ set_slot ss i r

abbrev pub keeps : List (Option Val) → List Slot
keeps [] = []
keeps (o ∷ vs) = kept o ∷ keeps vs

abbrev held_in : Slot → Option Val
held_in (kept o) = o
held_in away = none

abbrev pub contents : List Slot → List (Option Val)
contents [] = []
contents (s ∷ ss) = held_in s ∷ contents ss

abbrev pub Whole : List Slot → Type 0
Whole [] = Unit {0}
Whole (kept o ∷ ss) = Whole ss
Whole (away ∷ ss) = ⊥

set-slot : (ss : List Slot) (i : ℕ) (v : Val) → slot ss i ≡ kept (some v) → set_slot ss i (kept (some v)) ≡ ss
set-slot [] i v e = absurd (let z : ◌≡◌ {A = ℕ} 0 1 = cc in none-some z)
  where
    none-some : ◌≡◌ {A = ℕ} 0 1 → ⊥
    none-some z = omega arith
set-slot (s ∷ ss) zero v e = ap (λ (r : Slot). r ∷ ss) (sym e)
set-slot (s ∷ ss) (suc i) v e = ap (λ (rs : List Slot). s ∷ rs) (set-slot ss i v e)

-- says nothing: by it a rule reads off an entry what its slots are
pub data Lending (τs : List Ty) (β : ℕ → ℕ) (ss : List Slot) : Type 0 where
  lending : Lending τs β ss

module _ {M : Type 1} (𝓤 : Ura M) (H : Heap 𝓤) where
  -- of a cell that is away stays that it is freed with the function
  abbrev SlotAt : Ty → ℕ → Slot → SProp 𝓤
  SlotAt τ b (kept o) = Cell 𝓤 H τ b o
  SlotAt τ b away = H.dies τ b

  unfoldable pub Holed : List Ty → (ℕ → ℕ) → List Slot → SProp 𝓤
  Holed [] β ss = emp 𝓤
  Holed (τ ∷ τs) β [] = sep 𝓤 (SlotAt τ (β 0) (kept none)) (Holed τs (λ i. β (suc i)) [])
  Holed (τ ∷ τs) β (s ∷ ss) = sep 𝓤 (SlotAt τ (β 0) s) (Holed τs (λ i. β (suc i)) ss)

  abbrev pub hol : List Ty → (ℕ → ℕ) → List Slot → Item 𝓤
  hol τs β ss = given (Lending τs β ss) (raw (Holed τs β ss))

  into-holed : (τs : List Ty) (β : ℕ → ℕ) (vs : List (Option Val)) → ent 𝓤 (Frame 𝓤 H τs β vs) (Holed τs β (keeps vs))
  unfolding Frame Holed
  into-holed [] β vs = id⊢ 𝓤 (emp 𝓤)
  into-holed (τ ∷ τs) β [] = mono_r 𝓤 (Cell 𝓤 H τ (β 0) none) (into-holed τs (λ i. β (suc i)) [])
  into-holed (τ ∷ τs) β (o ∷ vs) = mono_r 𝓤 (Cell 𝓤 H τ (β 0) o) (into-holed τs (λ i. β (suc i)) vs)

  out-holed : (τs : List Ty) (β : ℕ → ℕ) (ss : List Slot) → Whole ss → ent 𝓤 (Holed τs β ss) (Frame 𝓤 H τs β (contents ss))
  unfolding Frame Holed
  out-holed [] β ss w = id⊢ 𝓤 (emp 𝓤)
  out-holed (τ ∷ τs) β [] w = mono_r 𝓤 (Cell 𝓤 H τ (β 0) none) (out-holed τs (λ i. β (suc i)) [] w)
  out-holed (τ ∷ τs) β (kept o ∷ ss) w = mono_r 𝓤 (Cell 𝓤 H τ (β 0) o) (out-holed τs (λ i. β (suc i)) ss w)
  out-holed (τ ∷ τs) β (away ∷ ss) w = absurd w

  abbrev Others : List Ty → (ℕ → ℕ) → List Slot → ℕ → SProp 𝓤
  Others τs β ss i = all 𝓤 (λ (r : Slot). wand 𝓤 (SlotAt (type_of 𝓤 H τs β i) (block_of 𝓤 H τs β i) r) (Holed τs β (set_slot ss i r)))

  slot-out : (τs : List Ty) (β : ℕ → ℕ) (ss : List Slot) (i : ℕ) → Among τs i
      → ent 𝓤 (Holed τs β ss) (sep 𝓤 (SlotAt (type_of 𝓤 H τs β i) (block_of 𝓤 H τs β i) (slot ss i)) (Others τs β ss i))
  unfolding Holed
  slot-out [] β ss i a = absurd a
  slot-out (τ ∷ τs) β [] zero a = first_out 𝓤 H (Cell 𝓤 H τ (β 0) none) (Holed τs (λ i. β (suc i)) []) (SlotAt τ (β 0))
  slot-out (τ ∷ τs) β (s ∷ ss) zero a = first_out 𝓤 H (SlotAt τ (β 0) s) (Holed τs (λ i. β (suc i)) ss) (SlotAt τ (β 0))
  slot-out (τ ∷ τs) β [] (suc i) a =
      via 𝓤 (sep 𝓤 (Cell 𝓤 H τ (β 0) none) (sep 𝓤 (SlotAt (type_of 𝓤 H τs (λ j. β (suc j)) i) (block_of 𝓤 H τs (λ j. β (suc j)) i) (kept none))
      (Others τs (λ j. β (suc j)) [] i)))
      (mono_r 𝓤 (Cell 𝓤 H τ (β 0) none) (slot-out τs (λ j. β (suc j)) [] i a))
      (under 𝓤 H (Cell 𝓤 H τ (β 0) none) (SlotAt (type_of 𝓤 H τs (λ j. β (suc j)) i) (block_of 𝓤 H τs (λ j. β (suc j)) i) (kept none))
      (SlotAt (type_of 𝓤 H τs (λ j. β (suc j)) i) (block_of 𝓤 H τs (λ j. β (suc j)) i)) (λ r. Holed τs (λ j. β (suc j)) (set_slot [] i r)))
  slot-out (τ ∷ τs) β (s ∷ ss) (suc i) a =
      via 𝓤 (sep 𝓤 (SlotAt τ (β 0) s) (sep 𝓤 (SlotAt (type_of 𝓤 H τs (λ j. β (suc j)) i) (block_of 𝓤 H τs (λ j. β (suc j)) i) (slot ss i))
      (Others τs (λ j. β (suc j)) ss i)))
      (mono_r 𝓤 (SlotAt τ (β 0) s) (slot-out τs (λ j. β (suc j)) ss i a))
      (under 𝓤 H (SlotAt τ (β 0) s) (SlotAt (type_of 𝓤 H τs (λ j. β (suc j)) i) (block_of 𝓤 H τs (λ j. β (suc j)) i) (slot ss i))
      (SlotAt (type_of 𝓤 H τs (λ j. β (suc j)) i) (block_of 𝓤 H τs (λ j. β (suc j)) i)) (λ r. Holed τs (λ j. β (suc j)) (set_slot ss i r)))

module _ {M : Type 1} {𝓤 : Ura M} (𝓛 : Logic 𝓤) (τs : List Ty) (β : ℕ → ℕ) (ss : List Slot) (i : ℕ) (a : Among τs i) where
  open 𝓛 use {H}

  abbrev at : Val → SProp 𝓤
  at u = H.at full_share (type_of 𝓤 H τs β i) (block_of 𝓤 H τs β i) zero u

  abbrev dies : SProp 𝓤
  dies = H.dies (type_of 𝓤 H τs β i) (block_of 𝓤 H τs β i)

  abbrev Rest : SProp 𝓤
  Rest = Others 𝓤 H τs β ss i

  abbrev holed : Slot → SProp 𝓤
  holed r = Holed 𝓤 H τs β (set_slot ss i r)

  out_at : (r : Slot) → slot ss i ≡ r → ent 𝓤 (mean 𝓛 (hol 𝓤 H τs β ss)) (sep 𝓤 (SlotAt 𝓤 H (type_of 𝓤 H τs β i) (block_of 𝓤 H τs β i) r) Rest)
  out_at r g = guard_e 𝓤 (Lending τs β ss) (Holed 𝓤 H τs β ss) (λ _.
      subst (λ (s : Slot). ent 𝓤 (Holed 𝓤 H τs β ss) (sep 𝓤 (SlotAt 𝓤 H (type_of 𝓤 H τs β i) (block_of 𝓤 H τs β i) s) Rest)) g (slot-out 𝓤 H τs β ss i a))

  -- the slot with another content
  shut : (r : Slot) → ent 𝓤 (sep 𝓤 (SlotAt 𝓤 H (type_of 𝓤 H τs β i) (block_of 𝓤 H τs β i) r) Rest) (mean 𝓛 (hol 𝓤 H τs β (set_slot ss i r)))
  shut r = via 𝓤 (sep 𝓤 S (wand 𝓤 S (holed r))) (mono_r 𝓤 S (all_e 𝓤 (λ (s : Slot). wand 𝓤 (SlotAt 𝓤 H (type_of 𝓤 H τs β i) (block_of 𝓤 H τs β i) s) (holed s))
      r))
      (via 𝓤 (holed r) (apply∗ 𝓤 S (holed r)) (guard_i 𝓤 (Lending τs β (set_slot ss i r)) (holed r) lending))
    where
      S : SProp 𝓤
      S = SlotAt 𝓤 H (type_of 𝓤 H τs β i) (block_of 𝓤 H τs β i) r

  pub taken_out : {v : Val} → slot ss i ≡ kept (some v) → ent 𝓤 (mean 𝓛 (hol 𝓤 H τs β ss)) (sep 𝓤 (at v) (mean 𝓛 (hol 𝓤 H τs β (set_slot ss i away))))
  taken_out {v} g = via 𝓤 (sep 𝓤 (sep 𝓤 (at v) dies) Rest) (out_at (kept (some v)) g) (via 𝓤 (sep 𝓤 (at v) (sep 𝓤 dies Rest)) (assoc∗ 𝓤 (at v) dies Rest)
      (mono_r 𝓤 (at v) (shut away)))

  pub put_back : (u : Val) → slot ss i ≡ away → ent 𝓤 (sep 𝓤 (at u) (mean 𝓛 (hol 𝓤 H τs β ss))) (mean 𝓛 (hol 𝓤 H τs β (set_slot ss i (kept (some u)))))
  put_back u g = via 𝓤 (sep 𝓤 (at u) (sep 𝓤 dies Rest)) (mono_r 𝓤 (at u) (out_at away g)) (via 𝓤 (sep 𝓤 (sep 𝓤 (at u) dies) Rest)
      (qed 𝓛 (raw (at u) ∷ (raw dies ⊛ raw Rest) ∷ []) ∵ move ! (1 ∷ []) $ split ! $ move ! (2 ∷ 0 ∷ []) $ join ! $ done !) (shut (kept (some u))))

  -- a local that is not away
  pub slot_of : (K : Type 0) {v : Val} → slot ss i ≡ kept (some v)
      → Part K 𝓛 (hol 𝓤 H τs β ss) full_share (type_of 𝓤 H τs β i) (block_of 𝓤 H τs β i) zero v (λ u. hol 𝓤 H τs β (set_slot ss i (kept (some u))))
  slot_of K {v} g = record {
    out = via 𝓤 (sep 𝓤 (sep 𝓤 (at v) dies) Rest) (out_at (kept (some v)) g) (via 𝓤 (sep 𝓤 (at v) (sep 𝓤 dies Rest)) (assoc∗ 𝓤 (at v) dies Rest)
        (mono_r 𝓤 (at v) (all_i 𝓤 (λ (u : Val). wand 𝓤 (at u) (mean 𝓛 (hol 𝓤 H τs β (set_slot ss i (kept (some u)))))) (λ u.
        wand_i 𝓤 (sep 𝓤 dies Rest) (at u) (mean 𝓛 (hol 𝓤 H τs β (set_slot ss i (kept (some u)))))
        (via 𝓤 (sep 𝓤 (sep 𝓤 (at u) dies) Rest) (qed 𝓛 ((raw dies ⊛ raw Rest) ∷ raw (at u) ∷ []) ∵ split ! $ move ! (2 ∷ 0 ∷ []) $ join ! $ done !)
        (shut (kept (some u))))))));
    same = ap (λ (rs : List Slot). hol 𝓤 H τs β rs) (set-slot ss i v g);
  }

module _ {M : Type 1} {𝓤 : Ura M} {𝓛 : Logic 𝓤} {K : Type 0} {Γ : List (Item 𝓤)} {τs : List Ty} {β : ℕ → ℕ} where
  -- ---- operands
  open 𝓛 use {H}

  pub var-in : K → (n i : ℕ) {ss : List Slot} {v : Val} → nth 𝓛 n Γ ≡ hol 𝓤 H τs β ss → slot ss i ≡ kept (some v) → Among τs i
      → Opd K 𝓛 Γ (env_at τs β) (copy (place i [])) v
  var-in t n i {ss} {v} e g a = load t (from t (stop t)) (look_in t n (subst (λ (j : Item 𝓤). Part K 𝓛 j full_share (type_of 𝓤 H τs β i) (block_of 𝓤 H τs β i)
      zero v
      (λ u. hol 𝓤 H τs β (set_slot ss i (kept (some u))))) (sym e) (slot_of 𝓛 τs β ss i a K g)))

  pub part_in : K → (n i k : ℕ) {ss : List Slot} {ν : Sym} {ρs : Tys} {us : Vals} {ρ : Ty} {d : ℕ} → nth 𝓛 n Γ ≡ hol 𝓤 H τs β ss
      → slot ss i ≡ kept (some (vstruct us)) → Among τs i → type_of 𝓤 H τs β i ≡ ty_struct ν ρs → field_at zero ρs k ≡ some (ρ, d)
      → field_of (type_of 𝓤 H τs β i) k ≡ some (ρ, d) → Opd K 𝓛 Γ (env_at τs β) (copy (place i (field k ∷ []))) (get_v us k)
  part_in t n i k {ss} {ν} {ρs} {us} e g a q f f' =
      load t (from t (fld t f' (stop t))) (look_in t n (sub t k f (subst (λ (τ : Ty). Part K 𝓛 (nth 𝓛 n Γ) full_share τ (block_of 𝓤 H τs β i) zero (vstruct
      us)
      (λ u. hol 𝓤 H τs β (set_slot ss i (kept (some u))))) q (subst (λ (j : Item 𝓤). Part K 𝓛 j full_share (type_of 𝓤 H τs β i) (block_of 𝓤 H τs β i) zero
      (vstruct us) (λ u. hol 𝓤 H τs β (set_slot ss i (kept (some u))))) (sym e) (slot_of 𝓛 τs β ss i a K g)))))

module _ {M : Type 1} {𝓤 : Ura M} {𝓛 : Logic 𝓤} {K : Type 0} {Γ : List (Item 𝓤)} {G : Goal 𝓤 𝓛.H} where
  -- ---- an entry is changed where it stands
  open 𝓛 use {H}

  changes : K → (n : ℕ) {i : Item 𝓤} (j : Item 𝓤) → nth 𝓛 n Γ ≡ i → ent 𝓤 (mean 𝓛 i) (mean 𝓛 j) → Step K 𝓛 (put 𝓛 n j Γ) G Γ G
  changes t n {i} j e h = step (λ s. by t (via 𝓤 (sep 𝓤 (mean 𝓛 i) R) (subst (λ (k : Item 𝓤). ent 𝓤 (⋆ 𝓛 Γ) (sep 𝓤 (mean 𝓛 k) R)) e
      (pull 𝓛 n Γ)) (via 𝓤 (sep 𝓤 (mean 𝓛 j) R) (mono_l 𝓤 R h) (via 𝓤 (⋆ 𝓛 (put 𝓛 n j Γ)) (fill 𝓛 n j Γ) s.prf))))
    where
      R : SProp 𝓤
      R = ⋆ 𝓛 (del 𝓛 n Γ)

  gives-out : K → (n : ℕ) {i : Item 𝓤} (p j : Item 𝓤) → nth 𝓛 n Γ ≡ i → ent 𝓤 (mean 𝓛 i) (sep 𝓤 (mean 𝓛 p) (mean 𝓛 j))
      → Step K 𝓛 (p ∷ put 𝓛 n j Γ) G Γ G
  gives-out t n {i} p j e h = step (λ s. by t (via 𝓤 (sep 𝓤 (mean 𝓛 i) R) (subst (λ (k : Item 𝓤). ent 𝓤 (⋆ 𝓛 Γ) (sep 𝓤 (mean 𝓛 k) R)) e
      (pull 𝓛 n Γ)) (via 𝓤 (sep 𝓤 (sep 𝓤 P J) R) (mono_l 𝓤 R h) (via 𝓤 (sep 𝓤 P (sep 𝓤 J R)) (assoc∗ 𝓤 P J R) (via 𝓤 (sep 𝓤 P (⋆ 𝓛 (put 𝓛 n j Γ)))
      (mono_r 𝓤 P (fill 𝓛 n j Γ)) (via 𝓤 (⋆ 𝓛 (p ∷ put 𝓛 n j Γ)) (push 𝓛 p (put 𝓛 n j Γ)) s.prf))))))
    where
      R : SProp 𝓤
      R = ⋆ 𝓛 (del 𝓛 n Γ)

      P : SProp 𝓤
      P = mean 𝓛 p

      J : SProp 𝓤
      J = mean 𝓛 j

  takes-in : K → (n : ℕ) {i : Item 𝓤} (p j : Item 𝓤) → nth 𝓛 n Γ ≡ i → ent 𝓤 (sep 𝓤 (mean 𝓛 p) (mean 𝓛 i)) (mean 𝓛 j)
      → Step K 𝓛 (put 𝓛 n j Γ) G (p ∷ Γ) G
  takes-in t n {i} p j e h = step (λ s. by t (via 𝓤 (sep 𝓤 P (⋆ 𝓛 Γ)) (pop 𝓛 p Γ) (via 𝓤 (sep 𝓤 P (sep 𝓤 I R)) (mono_r 𝓤 P
      (subst (λ (k : Item 𝓤). ent 𝓤 (⋆ 𝓛 Γ) (sep 𝓤 (mean 𝓛 k) R)) e (pull 𝓛 n Γ))) (via 𝓤 (sep 𝓤 (mean 𝓛 j) R)
      (qed 𝓛 (p ∷ (i ⊛ raw R) ∷ []) ∵ move ! (1 ∷ []) $ split ! $ move ! (2 ∷ 0 ∷ []) $ use2 𝓛 j h $ done !)
      (via 𝓤 (⋆ 𝓛 (put 𝓛 n j Γ)) (fill 𝓛 n j Γ) s.prf)))))
    where
      R : SProp 𝓤
      R = ⋆ 𝓛 (del 𝓛 n Γ)

      P : SProp 𝓤
      P = mean 𝓛 p

      I : SProp 𝓤
      I = mean 𝓛 i

  pub lends_out : K → (n : ℕ) {τs : List Ty} {β : ℕ → ℕ} {vs : List (Option Val)} → nth 𝓛 n Γ ≡ fr 𝓤 H τs β vs
      → Step K 𝓛 (put 𝓛 n (hol 𝓤 H τs β (keeps vs)) Γ) G Γ G
  lends_out t n {τs} {β} {vs} e = changes t n (hol 𝓤 H τs β (keeps vs)) e (guard_e 𝓤 (Holds τs β vs) (Frame 𝓤 H τs β vs) (λ _.
      via 𝓤 (Holed 𝓤 H τs β (keeps vs)) (into-holed 𝓤 H τs β vs) (guard_i 𝓤 (Lending τs β (keeps vs)) (Holed 𝓤 H τs β (keeps vs)) lending)))

  pub whole_again : K → (n : ℕ) {τs : List Ty} {β : ℕ → ℕ} {ss : List Slot} → nth 𝓛 n Γ ≡ hol 𝓤 H τs β ss → Whole ss
      → Step K 𝓛 (put 𝓛 n (fr 𝓤 H τs β (contents ss)) Γ) G Γ G
  whole_again t n {τs} {β} {ss} e w = changes t n (fr 𝓤 H τs β (contents ss)) e (guard_e 𝓤 (Lending τs β ss) (Holed 𝓤 H τs β ss) (λ _.
      via 𝓤 (Frame 𝓤 H τs β (contents ss)) (out-holed 𝓤 H τs β ss w) (guard_i 𝓤 (Holds τs β (contents ss)) (Frame 𝓤 H τs β (contents ss)) holds)))

-- ---- lending
abbrev pub loan_at : ℕ → ℕ → GName → Loan
loan_at b ν δ = record { lft = ν ∷ []; share = full_share; block = b; off = 0; name = δ; val = vptr b 0 }

-- what waits meanwhile
abbrev pub WaitsLocal : Datum → ℕ → ℕ → GName → Fml
WaitsLocal D b ν δ = flent (ν ∷ []) (Body (mem D.type) b 0 δ)

module _ {M : Type 1} {𝓤 : Ura M} (𝓛 : Logic 𝓤) (D : Datum) (b : ℕ) where
  open 𝓛 use {H}

  lies_in : (x : D.type.Denot) → Good D x → ent 𝓤 (H.at full_share D.mir b zero (D.val x)) (sem 𝓛 ((mem D.type).own_at x b 0))
  unfolding part_of
  lies_in x g = qed 𝓛 (‵ (fat full_share D.mir b zero (D.val x)) ∷ []) ∵
      use1 𝓛 (‵ (cell_at full_share (D.mir ∷ []) (D.val x ∷ []) b 0)) (𝓛.laws.at_raw full_share D.mir b zero (D.val x)) $
      rewrite ! 0 (λ (τs : List Ty). ‵ (cell_at full_share τs (D.val x ∷ []) b 0)) (sym D.one) refl $
      owned ! D.type (Is D.type) (D.makes 𝓛) x (D.val x ∷ []) g $ move ! (1 ∷ 0 ∷ []) $ fjoin ! $
      fpack ! (List Val) (λ vs. fsep (cell_at full_share D.type.mir vs b 0) (D.type.own_val x vs)) (D.val x ∷ []) $ done !

  lies_out : (y : D.type.Denot) → ent 𝓤 (sem 𝓛 ((mem D.type).own_at y b 0)) (guard 𝓤 (Good D y) (H.at full_share D.mir b zero (D.val y)))
  unfolding part_of
  lies_out y = qed 𝓛 (‵ ((mem D.type).own_at y b 0) ∷ []) ∵ fpick ! (λ vs. fsplit ! $ move ! (1 ∷ []) $
      facts ! D.type (Is D.type) (shows 𝓛 D.type) y vs (λ is.
      rewrite ! 0 (λ (us : List Val). ‵ (cell_at full_share D.type.mir us b 0)) (D.tells y vs is) refl $
      rewrite ! 0 (λ (τs : List Ty). ‵ (cell_at full_share τs (D.val y ∷ []) b 0)) D.one refl $
      use1 𝓛 (‵ (fat full_share D.mir b zero (D.val y))) (𝓛.laws.raw_at full_share D.mir b zero (D.val y)) $
      check ! (subst (Is D.type y) (D.tells y vs is) is) $ done !))

module _ {M : Type 1} {𝓤 : Ura M} {𝓛 : Logic 𝓤} {K : Type 0} {Γ : List (Item 𝓤)} {G : Goal 𝓤 𝓛.H} where
  open 𝓛 use {H}

  pub lends_local : K → Soaks G → (D : Datum) (n i : ℕ) (x : D.type.Denot) → Good D x → {τs : List Ty} {β : ℕ → ℕ} {ss : List Slot}
      → nth 𝓛 n Γ ≡ hol 𝓤 H τs β ss → slot ss i ≡ kept (some (D.val x)) → Among τs i → type_of 𝓤 H τs β i ≡ D.mir
      → ((ν : ℕ) (δ : GName) → Seq K 𝓛 (‵ (In (mut_ref D.type) (loan_at (block_of 𝓤 H τs β i) ν δ) x) ∷ ‵ (WaitsLocal D (block_of 𝓤 H τs β i) ν δ) ∷ put 𝓛
      n
      (hol 𝓤 H τs β (set_slot ss i away)) Γ) G) → Seq K 𝓛 Γ G
  lends_local t z D n i x good {τs} {β} {ss} e g a q k =
      gives-out t n (‵ (fat full_share (type_of 𝓤 H τs β i) b zero (D.val x))) (hol 𝓤 H τs β (set_slot ss i away)) e (taken_out 𝓛 τs β ss i a g) $
      rewrite t 0 (λ (τ : Ty). ‵ (fat full_share τ b zero (D.val x))) q refl $
      use1 𝓛 (‵ ((mem D.type).own_at x b 0)) (lies_in 𝓛 D b x good) $ lft_new t z (λ ν. move t (1 ∷ []) $
      use1 𝓛 (later (any_of (λ (δ : GName). ‵ ((MutRef (named 0) (ν ∷ []) D.type).own_val (record { ref_ptr = (b, 0); ghost_name = δ; now = x }) (vptr b 0 ∷ [])) ⊛ ‵
      (WaitsLocal D b ν δ)))) (ref-lent 𝓛 D.type (named 0) (ν ∷ []) x b 0) $ await t z $ pick t (λ δ. split t $ move t (0 ∷ 2 ∷ []) $ fjoin t $ k ν
      δ))
    where
      b : ℕ
      b = block_of 𝓤 H τs β i

  pub back-local : K → Soaks G → (D : Datum) (n i b : ℕ) (y : D.type.Denot) (ν : ℕ) (δ : GName) → {τs : List Ty} {β : ℕ → ℕ} {ss : List Slot}
      → nth 𝓛 n Γ ≡ hol 𝓤 H τs β ss → slot ss i ≡ away → Among τs i → type_of 𝓤 H τs β i ≡ D.mir → block_of 𝓤 H τs β i ≡ b
      → (Good D y → Seq K 𝓛 (put 𝓛 n (hol 𝓤 H τs β (set_slot ss i (kept (some (D.val y))))) Γ) G)
      → Seq K 𝓛 (‵ (Out (mut_ref D.type) (loan_at b ν δ) y) ∷ ‵ (WaitsLocal D b ν δ) ∷ Γ) G
  back-local t z D n i b y ν δ {τs} {β} {ss} e g a q there k =
      fsplit t $ fsplit t $ move t (1 ∷ []) $ drop t $ move t (1 ∷ 0 ∷ []) $ lft_end t z $ move t (0 ∷ 2 ∷ 1 ∷ []) $
      use3 𝓛 (later (‵ ((mem D.type).own_at y b 0))) (ref_back 𝓛 D.type (ν ∷ []) δ y b 0) $ await t z $
      use1 𝓛 (given (Good D y) (‵ (fat full_share D.mir b zero (D.val y)))) (lies_out 𝓛 D b y) $ learn t (λ good.
      rewrite t 0 (λ (τ : Ty). ‵ (fat full_share τ b zero (D.val y))) (sym q) refl $
      rewrite t 0 (λ (c : ℕ). ‵ (fat full_share (type_of 𝓤 H τs β i) c zero (D.val y))) (sym there) refl $
      takes-in t n (‵ (fat full_share (type_of 𝓤 H τs β i) (block_of 𝓤 H τs β i) zero (D.val y))) (hol 𝓤 H τs β (set_slot ss i (kept (some (D.val y))))) e
      (put_back 𝓛 τs β ss i a (D.val y) g) $ k good)

-- ---- arrays
abbrev pub arrays : Datum → ℕ → Datum
arrays D n = record {
  type = Array D.type n;
  val = λ xs. array_val (map D.val xs);
  mir = ty_array (lone D.type.mir) n;
  tells = Array-Tells D.type (λ x. D.val x ∷ []) D.tells n;
  makes = λ 𝓛. Array-Makes 𝓛 D.type (D.makes 𝓛) n;
  one = refl;
  lawful = λ 𝓛. Array-Lawful 𝓛 D.type (D.lawful 𝓛) n;
}

maps-repeat : (D : Datum) (n : ℕ) (x : D.type.Denot) → replicate n (D.val x) ≡ map D.val (replicate n x)
maps-repeat D zero x = refl
maps-repeat D (suc n) x = ap (λ (vs : List Val). D.val x ∷ vs) (maps-repeat D n x)

each-good : (D : Datum) (n : ℕ) (x : D.type.Denot) → Good D x → shadow (each D.type.Denot D.type.own_val (replicate n x) (map D.val (replicate n x)))
each-good D zero x g = tt
each-good D (suc n) x g = (g, each-good D n x g)

-- the list has a name of its own, so that no walk computes it
pub repeats-good : (D : Datum) (n : ℕ) (x : D.type.Denot) {xs : List D.type.Denot} → xs ≡ replicate n x → Good D x → Good (arrays D n) xs
repeats-good D n x e g = subst (Good (arrays D n)) (sym e) (map D.val (replicate n x), ((refl, length-replicate n x), each-good D n x g))

module _ {M : Type 1} {𝓤 : Ura M} {𝓛 : Logic 𝓤} {K : Type 0} {Γ : List (Item 𝓤)} where
  pub repeats : K → (D : Datum) (n : ℕ) (x : D.type.Denot) {E : List (Ty × ℕ)} {o : Operand} {xs : List D.type.Denot} → xs ≡ replicate n x → Opd K 𝓛 Γ E
      o (D.val x)
      → Rv K 𝓛 Γ E (repeat o n) ((arrays D n).val xs)
  repeats t D n x {E} {o} e a = subst (λ (v : Val). Rv K 𝓛 Γ E (repeat o n) v) (ap array_val (maps-repeat D n x ∙ ap (map D.val) (sym e))) (rep t n a)
