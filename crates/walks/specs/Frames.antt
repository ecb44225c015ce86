-- The locals of a function as one entry of the context: a list says what each holds, or that it holds nothing. A local is known by its number.
--     env_at τs β       the environment of locals with the types τs, at the blocks β
--     Frame τs β vs    their memory, of which local i holds `get vs i`
--     cell-of          local i, which holds something, can be taken out of the frame and put back with another value: a `Part` (`Types/Part.antt`)
--     writes_local     local i can be written, whatever it holds
--     forgets          what some locals hold is forgotten.        as-held      what one holds is written another way
--     begins           a function's locals are made and its arguments stored.        frees_all        all are freed
-- Assumes `Logic`.
use Rattle.std.specs.Prelude.{◌≡◌, Bool, true, false, ◌&&◌, T, get_or}
use Rattle.std.proofs.Common.{sym, ◌∙◌, ap, subst, arith}
use Prim.Native.Nat.{ℕ, zero, suc}
use mathlib.Core.List.{List, [], ◌∷◌}
use Rattle.std.proofs.Math.Option.{Option, some, none}
use seplogic.Ra.Ura.{Ura}
use base.Fraction.{full_share}
use mir.Syntax.{Ty, Local, local, Fn}
use mir.Val.{Val, WT, has_ty}
use base.Logic.{SProp, ent, sep, wand, all, emp, guard, id⊢, via, mono∗, mono_l, mono_r, assoc∗, assoc', comm∗, emp∗, snd∗, wand_i, apply∗, all_i, all_e, guard_i, guard_e}
use prog.Wp.{Heap, Env, Calls, Loops, no_local, pass, params, release, Wp, WpFn, at_return}
use types.Logic.{Logic}
use types.Kit.{Item, raw, ◌⊛◌, mean, ⋆, nth, del, put, pull, fill, push, Goal, prop, runs, at_ret, allocs, params', frees, aim, Seq, Step, step, ◌$◌, ◌∵◌, !, qed, split, join, move, frame, use1, use2, given, check, done}
use types.Part.{Part}
use types.Run.{Writes}

abbrev pub env_at : List Ty → (ℕ → ℕ) → List (Ty × ℕ)
env_at [] β = []
env_at (τ ∷ τs) β = (τ, β 0) ∷ env_at τs (λ i. β (suc i))

abbrev pub tys_of : List Local → List Ty
tys_of [] = []
tys_of (local τ h ∷ ls) = τ ∷ tys_of ls

abbrev pub get : List (Option Val) → ℕ → Option Val
get [] i = none
get (o ∷ vs) zero = o
get (o ∷ vs) (suc i) = get vs i

abbrev pub replace : List (Option Val) → ℕ → Option Val → List (Option Val)
replace [] zero p = p ∷ []
replace [] (suc i) p = none ∷ replace [] i p
replace (o ∷ vs) zero p = p ∷ vs
replace (o ∷ vs) (suc i) p = o ∷ replace vs i p

abbrev pub Among : List Ty → ℕ → Type 0
Among [] i = ⊥
Among (τ ∷ τs) zero = Unit {0}
Among (τ ∷ τs) (suc i) = Among τs i

-- so many locals, and what is left when what they hold is forgotten
abbrev within : List Ty → ℕ → Bool
within [] i = false
within (τ ∷ τs) zero = true
within (τ ∷ τs) (suc i) = within τs i

abbrev all-within : List Ty → List ℕ → Bool
all-within τs [] = true
all-within τs (i ∷ is) = within τs i && all-within τs is

abbrev pub Amongs : List Ty → List ℕ → Type 0
Amongs τs is = T (all-within τs is)

among_one : (τs : List Ty) (i : ℕ) (b : Bool) → T (within τs i && b) → Among τs i × T b
among_one [] i b h = absurd h
among_one (τ ∷ τs) zero b h = (tt, h)
among_one (τ ∷ τs) (suc i) b h = among_one τs i b h

abbrev pub unset : List (Option Val) → List ℕ → List (Option Val)
unset vs [] = vs
unset vs (i ∷ is) = unset (replace vs i none) is

replace-same : (vs : List (Option Val)) (i : ℕ) (v : Val) → get vs i ≡ some v → replace vs i (some v) ≡ vs
replace-same [] i v e = absurd (let z : ◌≡◌ {A = ℕ} 0 1 = cc in absurd-zero z)
  where
    absurd-zero : ◌≡◌ {A = ℕ} 0 1 → ⊥
    absurd-zero z = omega arith
replace-same (o ∷ vs) zero v e = ap (λ (p : Option Val). p ∷ vs) (sym e)
replace-same (o ∷ vs) (suc i) v e = ap (λ (us : List (Option Val)). o ∷ us) (replace-same vs i v e)

-- says nothing: by it a rule reads off a frame's entry what the locals hold
pub data Holds (τs : List Ty) (β : ℕ → ℕ) (vs : List (Option Val)) : Type 0 where
  holds : Holds τs β vs

module _ {M : Type 1} (𝓤 : Ura M) (H : Heap 𝓤) where
  abbrev pub Cell : Ty → ℕ → Option Val → SProp 𝓤
  Cell τ b (some v) = sep 𝓤 (H.at full_share τ b zero v) (H.dies τ b)
  Cell τ b none = sep 𝓤 (H.room τ b zero) (H.dies τ b)

  unfoldable pub Frame : List Ty → (ℕ → ℕ) → List (Option Val) → SProp 𝓤
  Frame [] β vs = emp 𝓤
  Frame (τ ∷ τs) β [] = sep 𝓤 (Cell τ (β 0) none) (Frame τs (λ i. β (suc i)) [])
  Frame (τ ∷ τs) β (o ∷ vs) = sep 𝓤 (Cell τ (β 0) o) (Frame τs (λ i. β (suc i)) vs)

  -- the type and the block of local i
  abbrev pub type_of : List Ty → (ℕ → ℕ) → ℕ → Ty
  type_of τs β i = (get_or (env_at τs β) i (no_local 𝓤 H)).0

  abbrev pub block_of : List Ty → (ℕ → ℕ) → ℕ → ℕ
  block_of τs β i = (get_or (env_at τs β) i (no_local 𝓤 H)).1

  -- another content of local i gives the frame back
  abbrev Back : List Ty → (ℕ → ℕ) → List (Option Val) → ℕ → SProp 𝓤
  Back τs β vs i = all 𝓤 (λ (o : Option Val). wand 𝓤 (Cell (type_of τs β i) (block_of τs β i) o) (Frame τs β (replace vs i o)))

  -- under one more cell in front
  pub under : {X : Type 0} (C P : SProp 𝓤) (Q F : X → SProp 𝓤) → ent 𝓤 (sep 𝓤 C (sep 𝓤 P (all 𝓤 (λ o. wand 𝓤 (Q o) (F o)))))
      (sep 𝓤 P (all 𝓤 (λ o. wand 𝓤 (Q o) (sep 𝓤 C (F o)))))
  under C P Q F =
      let B : SProp 𝓤 = all 𝓤 (λ o. wand 𝓤 (Q o) (F o)) in
      via 𝓤 (sep 𝓤 (sep 𝓤 C P) B) (assoc' 𝓤 C P B) (via 𝓤 (sep 𝓤 (sep 𝓤 P C) B) (mono_l 𝓤 B (comm∗ 𝓤 C P)) (via 𝓤 (sep 𝓤 P (sep 𝓤 C B)) (assoc∗ 𝓤 P C B)
      (mono_r 𝓤 P (all_i 𝓤 (λ o. wand 𝓤 (Q o) (sep 𝓤 C (F o))) (λ o. wand_i 𝓤 (sep 𝓤 C B) (Q o) (sep 𝓤 C (F o))
      (via 𝓤 (sep 𝓤 C (sep 𝓤 B (Q o))) (assoc∗ 𝓤 C B (Q o)) (mono_r 𝓤 C (via 𝓤 (sep 𝓤 (Q o) B) (comm∗ 𝓤 B (Q o)) (via 𝓤 (sep 𝓤 (Q o) (wand 𝓤 (Q o) (F o)))
      (mono_r 𝓤 (Q o) (all_e 𝓤 (λ p. wand 𝓤 (Q p) (F p)) o)) (apply∗ 𝓤 (Q o) (F o)))))))))))

  pub first_out : {X : Type 0} (C F : SProp 𝓤) (Q : X → SProp 𝓤) → ent 𝓤 (sep 𝓤 C F) (sep 𝓤 C (all 𝓤 (λ o. wand 𝓤 (Q o) (sep 𝓤 (Q o) F))))
  first_out C F Q = mono_r 𝓤 C (all_i 𝓤 (λ o. wand 𝓤 (Q o) (sep 𝓤 (Q o) F)) (λ o. wand_i 𝓤 F (Q o) (sep 𝓤 (Q o) F) (comm∗ 𝓤 F (Q o))))

  out_of : (τs : List Ty) (β : ℕ → ℕ) (vs : List (Option Val)) (i : ℕ) → Among τs i
      → ent 𝓤 (Frame τs β vs) (sep 𝓤 (Cell (type_of τs β i) (block_of τs β i) (get vs i)) (Back τs β vs i))
  unfolding Frame
  out_of [] β vs i a = absurd a
  out_of (τ ∷ τs) β [] zero a = first_out (Cell τ (β 0) none) (Frame τs (λ i. β (suc i)) []) (Cell τ (β 0))
  out_of (τ ∷ τs) β (o ∷ vs) zero a = first_out (Cell τ (β 0) o) (Frame τs (λ i. β (suc i)) vs) (Cell τ (β 0))
  out_of (τ ∷ τs) β [] (suc i) a =
      via 𝓤 (sep 𝓤 (Cell τ (β 0) none) (sep 𝓤 (Cell (type_of τs (λ j. β (suc j)) i) (block_of τs (λ j. β (suc j)) i) none) (Back τs (λ j. β (suc j)) [] i)))
      (mono_r 𝓤 (Cell τ (β 0) none) (out_of τs (λ j. β (suc j)) [] i a))
      (under (Cell τ (β 0) none) (Cell (type_of τs (λ j. β (suc j)) i) (block_of τs (λ j. β (suc j)) i) none) (Cell (type_of τs (λ j. β (suc j)) i)
      (block_of τs (λ j. β (suc j)) i)) (λ o. Frame τs (λ j. β (suc j)) (replace [] i o)))
  out_of (τ ∷ τs) β (o ∷ vs) (suc i) a =
      via 𝓤 (sep 𝓤 (Cell τ (β 0) o) (sep 𝓤 (Cell (type_of τs (λ j. β (suc j)) i) (block_of τs (λ j. β (suc j)) i) (get vs i)) (Back τs (λ j. β (suc j)) vs i)))
      (mono_r 𝓤 (Cell τ (β 0) o) (out_of τs (λ j. β (suc j)) vs i a))
      (under (Cell τ (β 0) o) (Cell (type_of τs (λ j. β (suc j)) i) (block_of τs (λ j. β (suc j)) i) (get vs i)) (Cell (type_of τs (λ j. β (suc j)) i)
      (block_of τs (λ j. β (suc j)) i)) (λ p. Frame τs (λ j. β (suc j)) (replace vs i p)))

  -- the entry
  abbrev pub fr : List Ty → (ℕ → ℕ) → List (Option Val) → Item 𝓤
  fr τs β vs = given (Holds τs β vs) (raw (Frame τs β vs))

module _ {M : Type 1} {𝓤 : Ura M} {𝓛 : Logic 𝓤} {K : Type 0} where
  open 𝓛 use {H}

  pub cell-of : K → (i : ℕ) {τs : List Ty} {β : ℕ → ℕ} {vs : List (Option Val)} {v : Val} → get vs i ≡ some v → Among τs i
      → Part K 𝓛 (fr 𝓤 H τs β vs) full_share (type_of 𝓤 H τs β i) (block_of 𝓤 H τs β i) zero v (λ u. fr 𝓤 H τs β (replace vs i (some u)))
  cell-of t i {τs} {β} {vs} {v} g a = record {
    out = guard_e 𝓤 (Holds τs β vs) (Frame 𝓤 H τs β vs) (λ _. via 𝓤 (sep 𝓤 (sep 𝓤 (at v) dies) B) taken
        (via 𝓤 (sep 𝓤 (at v) (sep 𝓤 dies B)) (assoc∗ 𝓤 (at v) dies B)
        (mono_r 𝓤 (at v) (all_i 𝓤 (λ (u : Val). wand 𝓤 (at u) (guard 𝓤 (Holds τs β (replace vs i (some u))) (Frame 𝓤 H τs β (replace vs i (some u))))) back))));
    same = ap (λ (us : List (Option Val)). fr 𝓤 H τs β us) (replace-same vs i v g);
  }
    where
      at : Val → SProp 𝓤
      at u = H.at full_share (type_of 𝓤 H τs β i) (block_of 𝓤 H τs β i) zero u

      dies : SProp 𝓤
      dies = H.dies (type_of 𝓤 H τs β i) (block_of 𝓤 H τs β i)

      B : SProp 𝓤
      B = all 𝓤 (λ (o : Option Val). wand 𝓤 (Cell 𝓤 H (type_of 𝓤 H τs β i) (block_of 𝓤 H τs β i) o) (Frame 𝓤 H τs β (replace vs i o)))

      taken : ent 𝓤 (Frame 𝓤 H τs β vs) (sep 𝓤 (sep 𝓤 (at v) dies) B)
      taken = subst (λ (o : Option Val). ent 𝓤 (Frame 𝓤 H τs β vs) (sep 𝓤 (Cell 𝓤 H (type_of 𝓤 H τs β i) (block_of 𝓤 H τs β i) o) B)) g (out_of 𝓤 H τs β vs i a)

      back : (u : Val) → ent 𝓤 (sep 𝓤 dies B) (wand 𝓤 (at u) (guard 𝓤 (Holds τs β (replace vs i (some u))) (Frame 𝓤 H τs β (replace vs i (some u)))))
      back u = wand_i 𝓤 (sep 𝓤 dies B) (at u) (guard 𝓤 (Holds τs β (replace vs i (some u))) (Frame 𝓤 H τs β (replace vs i (some u))))
          (qed 𝓛 ((raw dies ⊛ raw B) ∷ raw (at u) ∷ []) ∵ split ! $ move ! (2 ∷ 0 ∷ []) $ join ! $ move ! (1 ∷ []) $
          use1 𝓛 (raw (wand 𝓤 (sep 𝓤 (at u) dies) (Frame 𝓤 H τs β (replace vs i (some u)))))
          (all_e 𝓤 (λ (o : Option Val). wand 𝓤 (Cell 𝓤 H (type_of 𝓤 H τs β i) (block_of 𝓤 H τs β i) o) (Frame 𝓤 H τs β (replace vs i o))) (some u)) $
          move ! (1 ∷ 0 ∷ []) $ use2 𝓛 (raw (Frame 𝓤 H τs β (replace vs i (some u)))) (apply∗ 𝓤 (sep 𝓤 (at u) dies) (Frame 𝓤 H τs β (replace vs i (some u)))) $
          check ! holds $ done !)

-- ---- a local is written, whatever it holds
module _ {M : Type 1} {𝓤 : Ura M} (𝓛 : Logic 𝓤) where
  open 𝓛 use {H}

  roomy : (τ : Ty) (b : ℕ) (o : Option Val) → ent 𝓤 (Cell 𝓤 H τ b o) (sep 𝓤 (H.room τ b zero) (H.dies τ b))
  roomy τ b (some v) = mono_l 𝓤 (H.dies τ b) (𝓛.laws.at_room τ b zero v)
  roomy τ b none = id⊢ 𝓤 (sep 𝓤 (H.room τ b zero) (H.dies τ b))

  -- the room of local i, and what makes a frame of it again
  abbrev pub Again : List Ty → (ℕ → ℕ) → List (Option Val) → ℕ → SProp 𝓤
  Again τs β vs i = sep 𝓤 (H.dies (type_of 𝓤 H τs β i) (block_of 𝓤 H τs β i))
      (all 𝓤 (λ (o : Option Val). wand 𝓤 (Cell 𝓤 H (type_of 𝓤 H τs β i) (block_of 𝓤 H τs β i) o) (Frame 𝓤 H τs β (replace vs i o))))

  pub room_of : (τs : List Ty) (β : ℕ → ℕ) (vs : List (Option Val)) (i : ℕ) → Among τs i → ent 𝓤 (mean 𝓛 (fr 𝓤 H τs β vs))
      (sep 𝓤 (H.room (type_of 𝓤 H τs β i) (block_of 𝓤 H τs β i) zero) (Again τs β vs i))
  room_of τs β vs i a =
      guard_e 𝓤 (Holds τs β vs) (Frame 𝓤 H τs β vs) (λ _. via 𝓤 (sep 𝓤 (Cell 𝓤 H t b (get vs i)) B) (out_of 𝓤 H τs β vs i a)
      (via 𝓤 (sep 𝓤 (sep 𝓤 (H.room t b zero) (H.dies t b)) B) (mono_l 𝓤 B (roomy t b (get vs i))) (assoc∗ 𝓤 (H.room t b zero) (H.dies t b) B)))
    where
      t : Ty
      t = type_of 𝓤 H τs β i

      b : ℕ
      b = block_of 𝓤 H τs β i

      B : SProp 𝓤
      B = all 𝓤 (λ (o : Option Val). wand 𝓤 (Cell 𝓤 H t b o) (Frame 𝓤 H τs β (replace vs i o)))

  -- with a content of local i
  pub filled : (τs : List Ty) (β : ℕ → ℕ) (vs : List (Option Val)) (i : ℕ) (v : Val)
      → ent 𝓤 (sep 𝓤 (Again τs β vs i) (H.at full_share (type_of 𝓤 H τs β i) (block_of 𝓤 H τs β i) zero v)) (mean 𝓛 (fr 𝓤 H τs β (replace vs i (some v))))
  filled τs β vs i v =
      qed 𝓛 ((raw (H.dies t b) ⊛ raw B) ∷ raw (H.at full_share t b zero v) ∷ []) ∵ split ! $ move ! (2 ∷ 0 ∷ []) $ join ! $ move ! (1 ∷ []) $
      use1 𝓛 (raw (wand 𝓤 (Cell 𝓤 H t b (some v)) (Frame 𝓤 H τs β (replace vs i (some v))))) (all_e 𝓤 (λ (o : Option Val). wand 𝓤 (Cell 𝓤 H t b o)
      (Frame 𝓤 H τs β (replace vs i o))) (some v)) $
      move ! (1 ∷ 0 ∷ []) $ use2 𝓛 (raw (Frame 𝓤 H τs β (replace vs i (some v)))) (apply∗ 𝓤 (Cell 𝓤 H t b (some v)) (Frame 𝓤 H τs β (replace vs i (some v)))) $
      check ! holds $ done !
    where
      t : Ty
      t = type_of 𝓤 H τs β i

      b : ℕ
      b = block_of 𝓤 H τs β i

      B : SProp 𝓤
      B = all 𝓤 (λ (o : Option Val). wand 𝓤 (Cell 𝓤 H t b o) (Frame 𝓤 H τs β (replace vs i o)))

  forgotten : (τs : List Ty) (β : ℕ → ℕ) (vs : List (Option Val)) (i : ℕ) → Among τs i → ent 𝓤 (Frame 𝓤 H τs β vs) (Frame 𝓤 H τs β (replace vs i none))
  forgotten τs β vs i a =
      via 𝓤 (sep 𝓤 (Cell 𝓤 H t b (get vs i)) B) (out_of 𝓤 H τs β vs i a)
      (via 𝓤 (sep 𝓤 (Cell 𝓤 H t b none) (wand 𝓤 (Cell 𝓤 H t b none) (Frame 𝓤 H τs β (replace vs i none))))
      (mono∗ 𝓤 (roomy t b (get vs i)) (all_e 𝓤 (λ (o : Option Val). wand 𝓤 (Cell 𝓤 H t b o) (Frame 𝓤 H τs β (replace vs i o))) none)) (apply∗ 𝓤 (Cell 𝓤 H t b none)
      (Frame 𝓤 H τs β (replace vs i none))))
    where
      t : Ty
      t = type_of 𝓤 H τs β i

      b : ℕ
      b = block_of 𝓤 H τs β i

      B : SProp 𝓤
      B = all 𝓤 (λ (o : Option Val). wand 𝓤 (Cell 𝓤 H t b o) (Frame 𝓤 H τs β (replace vs i o)))

  all-forgotten : (τs : List Ty) (β : ℕ → ℕ) (vs : List (Option Val)) (is : List ℕ) → Amongs τs is → ent 𝓤 (Frame 𝓤 H τs β vs) (Frame 𝓤 H τs β (unset vs is))
  all-forgotten τs β vs [] a = id⊢ 𝓤 (Frame 𝓤 H τs β vs)
  all-forgotten τs β vs (i ∷ is) a =
      let p = among_one τs i (all-within τs is) a in
      via 𝓤 (Frame 𝓤 H τs β (replace vs i none)) (forgotten τs β vs i p.0) (all-forgotten τs β (replace vs i none) is p.1)

module _ {M : Type 1} {𝓤 : Ura M} {𝓛 : Logic 𝓤} {K : Type 0} {Γ : List (Item 𝓤)} where
  open 𝓛 use {H}

  pub forgets : K → (n : ℕ) (is : List ℕ) {τs : List Ty} {β : ℕ → ℕ} {vs : List (Option Val)} {G : Goal 𝓤 H} → nth 𝓛 n Γ ≡ fr 𝓤 H τs β vs → Amongs τs is
      → Step K 𝓛 (put 𝓛 n (fr 𝓤 H τs β (unset vs is)) Γ) G Γ G
  forgets t n is {τs} {β} {vs} e a = step (λ s. record {
    prf = via 𝓤 (sep 𝓤 (mean 𝓛 (fr 𝓤 H τs β vs)) R) (subst (λ (j : Item 𝓤). ent 𝓤 (⋆ 𝓛 Γ) (sep 𝓤 (mean 𝓛 j) R)) e (pull 𝓛 n Γ))
        (via 𝓤 (sep 𝓤 (mean 𝓛 (fr 𝓤 H τs β (unset vs is))) R)
        (mono_l 𝓤 R (guard_e 𝓤 (Holds τs β vs) (Frame 𝓤 H τs β vs) (λ _. via 𝓤 (Frame 𝓤 H τs β (unset vs is)) (all-forgotten 𝓛 τs β vs is a)
        (guard_i 𝓤 (Holds τs β (unset vs is)) (Frame 𝓤 H τs β (unset vs is)) holds))))
        (via 𝓤 (⋆ 𝓛 (put 𝓛 n (fr 𝓤 H τs β (unset vs is)) Γ)) (fill 𝓛 n (fr 𝓤 H τs β (unset vs is)) Γ) s.prf));
  })
    where
      R : SProp 𝓤
      R = ⋆ 𝓛 (del 𝓛 n Γ)

  -- what a local holds, written another way
  pub as-held : K → (n i : ℕ) {τs : List Ty} {β : ℕ → ℕ} {vs : List (Option Val)} {v v' : Val} {G : Goal 𝓤 H} → nth 𝓛 n Γ ≡ fr 𝓤 H τs β vs
      → get vs i ≡ some v → v ≡ v' → Step K 𝓛 (put 𝓛 n (fr 𝓤 H τs β (replace vs i (some v'))) Γ) G Γ G
  as-held t n i {τs} {β} {vs} {v} {v'} e g q = step (λ s. record {
    prf = via 𝓤 (sep 𝓤 (mean 𝓛 (fr 𝓤 H τs β (replace vs i (some v')))) (⋆ 𝓛 (del 𝓛 n Γ)))
        (subst (λ (j : Item 𝓤). ent 𝓤 (⋆ 𝓛 Γ) (sep 𝓤 (mean 𝓛 j) (⋆ 𝓛 (del 𝓛 n Γ))))
        (e ∙ ap (fr 𝓤 H τs β) (sym (replace-same vs i v g) ∙ ap (λ (u : Val). replace vs i (some u)) q)) (pull 𝓛 n Γ))
        (via 𝓤 (⋆ 𝓛 (put 𝓛 n (fr 𝓤 H τs β (replace vs i (some v'))) Γ)) (fill 𝓛 n (fr 𝓤 H τs β (replace vs i (some v'))) Γ) s.prf);
  })

  pub writes_local : K → (n i : ℕ) {τs : List Ty} {β : ℕ → ℕ} {vs : List (Option Val)} {v : Val} → nth 𝓛 n Γ ≡ fr 𝓤 H τs β vs → Among τs i
      → T (has_ty (type_of 𝓤 H τs β i) v) × WT v
      → Writes K 𝓛 Γ (type_of 𝓤 H τs β i) (block_of 𝓤 H τs β i) zero v (put 𝓛 n (fr 𝓤 H τs β (replace vs i (some v))) Γ)
  writes_local t n i {τs} {β} {vs} {v} e a wt = record {
    go = λ P h. via 𝓤 (sep 𝓤 (mean 𝓛 (fr 𝓤 H τs β vs)) R) (subst (λ (j : Item 𝓤). ent 𝓤 (⋆ 𝓛 Γ) (sep 𝓤 (mean 𝓛 j) R)) e (pull 𝓛 n Γ))
        (via 𝓤 (sep 𝓤 (sep 𝓤 room G) R) (mono_l 𝓤 R (room_of 𝓛 τs β vs i a)) (via 𝓤 (sep 𝓤 room (sep 𝓤 G R)) (assoc∗ 𝓤 room G R)
        (via 𝓤 (sep 𝓤 room (wand 𝓤 at P)) (mono_r 𝓤 room (wand_i 𝓤 (sep 𝓤 G R) at P
        (via 𝓤 (⋆ 𝓛 (put 𝓛 n (fr 𝓤 H τs β (replace vs i (some v))) Γ)) again h)))
        (guard_i 𝓤 (T (has_ty (type_of 𝓤 H τs β i) v) × WT v) (sep 𝓤 room (wand 𝓤 at P)) wt))));
  }
    where
      R : SProp 𝓤
      R = ⋆ 𝓛 (del 𝓛 n Γ)

      G : SProp 𝓤
      G = Again 𝓛 τs β vs i

      room : SProp 𝓤
      room = H.room (type_of 𝓤 H τs β i) (block_of 𝓤 H τs β i) zero

      at : SProp 𝓤
      at = H.at full_share (type_of 𝓤 H τs β i) (block_of 𝓤 H τs β i) zero v

      again : ent 𝓤 (sep 𝓤 (sep 𝓤 G R) at) (⋆ 𝓛 (put 𝓛 n (fr 𝓤 H τs β (replace vs i (some v))) Γ))
      again = via 𝓤 (sep 𝓤 (sep 𝓤 G at) R)
          (via 𝓤 (sep 𝓤 G (sep 𝓤 R at)) (assoc∗ 𝓤 G R at) (via 𝓤 (sep 𝓤 G (sep 𝓤 at R)) (mono_r 𝓤 G (comm∗ 𝓤 R at)) (assoc' 𝓤 G at R)))
          (via 𝓤 (sep 𝓤 (mean 𝓛 (fr 𝓤 H τs β (replace vs i (some v)))) R) (mono_l 𝓤 R (filled 𝓛 τs β vs i v))
          (fill 𝓛 n (fr 𝓤 H τs β (replace vs i (some v))) Γ))

-- ---- a function's locals: made, given its arguments, freed
abbrev pub somes : List Val → List (Option Val)
somes [] = []
somes (v ∷ vs) = some v ∷ somes vs

-- arguments are of their locals' types
abbrev pub Fits : List Ty → List Val → Type 0
Fits τs [] = Unit {0}
Fits [] (v ∷ vs) = ⊥
Fits (τ ∷ τs) (v ∷ vs) = (T (has_ty τ v) × WT v) × Fits τs vs

-- local 0 is the result's
abbrev pub Starts : List Ty → List Val → Type 0
Starts [] vs = ⊥
Starts (τ ∷ τs) vs = Fits τs vs

abbrev cons : ℕ → (ℕ → ℕ) → ℕ → ℕ
cons b β zero = b
cons b β (suc i) = β i

module _ {M : Type 1} {𝓤 : Ura M} (𝓛 : Logic 𝓤) where
  open 𝓛 use {H}

  abbrev ◌∗◌ : SProp 𝓤 → SProp 𝓤 → SProp 𝓤
  P ∗ Q = sep 𝓤 P Q

  infixr 35 ◌∗◌
  made : (ls : List Local) (R : SProp 𝓤) (Kt : Env 𝓤 H → Goal 𝓤 H) → ((β : ℕ → ℕ) → ent 𝓤 (Frame 𝓤 H (tys_of ls) β [] ∗ R) (aim 𝓤 H (Kt (env_at (tys_of ls) β))))
      → ent 𝓤 R (aim 𝓤 H (allocs ls Kt))
  unfolding Frame
  made [] R Kt k = via 𝓤 (emp 𝓤 ∗ R) (emp∗ 𝓤 R) (k (λ i. zero))
  made (local τ h ∷ ls) R Kt k =
      all_i 𝓤 (λ (b : ℕ). wand 𝓤 (H.room τ b zero ∗ H.dies τ b) (aim 𝓤 H (allocs ls (λ E. Kt ((τ, b) ∷ E)))))
      (λ b. wand_i 𝓤 R (H.room τ b zero ∗ H.dies τ b) (aim 𝓤 H (allocs ls (λ E. Kt ((τ, b) ∷ E))))
      (made ls (R ∗ (H.room τ b zero ∗ H.dies τ b)) (λ E. Kt ((τ, b) ∷ E)) (λ β. via 𝓤 (((H.room τ b zero ∗ H.dies τ b) ∗ Frame 𝓤 H (tys_of ls) β []) ∗ R)
      (turned (Frame 𝓤 H (tys_of ls) β []) R (H.room τ b zero ∗ H.dies τ b)) (k (cons b β)))))
    where
      turned : (F R C : SProp 𝓤) → ent 𝓤 (F ∗ (R ∗ C)) ((C ∗ F) ∗ R)
      turned F R C = qed 𝓛 (raw F ∷ (raw R ⊛ raw C) ∷ []) ∵ move ! (1 ∷ []) $ split ! $ move ! (1 ∷ 2 ∷ []) $ join ! $ done !

  given-in : (τs : List Ty) (β : ℕ → ℕ) (vs : List Val) (R P : SProp 𝓤) → Fits τs vs → ent 𝓤 (Frame 𝓤 H τs β (somes vs) ∗ R) P → ent 𝓤 (Frame 𝓤 H τs β [] ∗ R)
      (pass 𝓤 H (env_at τs β) vs P)
  unfolding Frame
  given-in τs β [] R P ok h = h
  given-in [] β (v ∷ vs) R P ok h = absurd ok
  given-in (τ ∷ τs) β (v ∷ vs) R P ok h =
      via 𝓤 (room ∗ wand 𝓤 at (pass 𝓤 H (env_at τs (λ i. β (suc i))) vs P))
      (via 𝓤 (room ∗ (dies ∗ (F [] ∗ R))) sorted (mono_r 𝓤 room (wand_i 𝓤 (dies ∗ (F [] ∗ R)) at (pass 𝓤 H (env_at τs (λ i. β (suc i))) vs P)
      (via 𝓤 (F [] ∗ ((at ∗ dies) ∗ R)) sorted' (given-in τs (λ i. β (suc i)) vs ((at ∗ dies) ∗ R) P ok.1
      (via 𝓤 (((at ∗ dies) ∗ F (somes vs)) ∗ R) sorted'' h))))))
      (guard_i 𝓤 (T (has_ty τ v) × WT v) (room ∗ wand 𝓤 at (pass 𝓤 H (env_at τs (λ i. β (suc i))) vs P)) ok.0)
    where
      F : List (Option Val) → SProp 𝓤
      F us = Frame 𝓤 H τs (λ i. β (suc i)) us

      room : SProp 𝓤
      room = H.room τ (β 0) zero

      dies : SProp 𝓤
      dies = H.dies τ (β 0)

      at : SProp 𝓤
      at = H.at full_share τ (β 0) zero v

      sorted : ent 𝓤 (((room ∗ dies) ∗ F []) ∗ R) (room ∗ (dies ∗ (F [] ∗ R)))
      sorted = qed 𝓛 (((raw room ⊛ raw dies) ⊛ raw (F [])) ∷ raw R ∷ []) ∵ split ! $ split ! $ done !

      sorted' : ent 𝓤 ((dies ∗ (F [] ∗ R)) ∗ at) (F [] ∗ ((at ∗ dies) ∗ R))
      sorted' = qed 𝓛 ((raw dies ⊛ (raw (F []) ⊛ raw R)) ∷ raw at ∷ []) ∵ split ! $ move ! (1 ∷ []) $ split ! $ move ! (0 ∷ 3 ∷ 2 ∷ 1 ∷ []) $ frame ! $
          join ! $ done !

      sorted'' : ent 𝓤 (F (somes vs) ∗ ((at ∗ dies) ∗ R)) (((at ∗ dies) ∗ F (somes vs)) ∗ R)
      sorted'' = qed 𝓛 (raw (F (somes vs)) ∷ (raw (at ∗ dies) ⊛ raw R) ∷ []) ∵ move ! (1 ∷ []) $ split ! $ move ! (0 ∷ 2 ∷ []) $ join ! $ done !

  started : (τs : List Ty) (β : ℕ → ℕ) (vs : List Val) (R P : SProp 𝓤) → Starts τs vs → ent 𝓤 (Frame 𝓤 H τs β (none ∷ somes vs) ∗ R) P
      → ent 𝓤 (Frame 𝓤 H τs β [] ∗ R) (params 𝓤 H (env_at τs β) vs P)
  unfolding Frame
  started [] β vs R P ok h = absurd ok
  started (τ ∷ τs) β vs R P ok h =
      via 𝓤 (F [] ∗ (C ∗ R)) (via 𝓤 (C ∗ (F [] ∗ R)) (assoc∗ 𝓤 C (F []) R) (swap C (F []) R)) (given-in τs (λ i. β (suc i)) vs (C ∗ R) P ok
      (via 𝓤 ((C ∗ F (somes vs)) ∗ R) (via 𝓤 (C ∗ (F (somes vs) ∗ R)) (swap (F (somes vs)) C R) (assoc' 𝓤 C (F (somes vs)) R)) h))
    where
      F : List (Option Val) → SProp 𝓤
      F us = Frame 𝓤 H τs (λ i. β (suc i)) us

      C : SProp 𝓤
      C = H.room τ (β 0) zero ∗ H.dies τ (β 0)

      swap : (P Q R : SProp 𝓤) → ent 𝓤 (P ∗ (Q ∗ R)) (Q ∗ (P ∗ R))
      swap P Q R = qed 𝓛 (raw P ∷ raw Q ∷ raw R ∷ []) ∵ move ! (1 ∷ 0 ∷ 2 ∷ []) $ done !

  freed : (τs : List Ty) (β : ℕ → ℕ) (vs : List (Option Val)) (R P : SProp 𝓤) → ent 𝓤 R P → ent 𝓤 (Frame 𝓤 H τs β vs ∗ R) (release 𝓤 H (env_at τs β) P)
  unfolding Frame
  freed [] β vs R P h = via 𝓤 R (snd∗ 𝓤 (emp 𝓤) R) h
  freed (τ ∷ τs) β [] R P h = via 𝓤 ((H.room τ (β 0) zero ∗ H.dies τ (β 0)) ∗ (Frame 𝓤 H τs (λ i. β (suc i)) [] ∗ R))
      (assoc∗ 𝓤 (H.room τ (β 0) zero ∗ H.dies τ (β 0)) (Frame 𝓤 H τs (λ i. β (suc i)) []) R)
      (mono_r 𝓤 (H.room τ (β 0) zero ∗ H.dies τ (β 0)) (freed τs (λ i. β (suc i)) [] R P h))
  freed (τ ∷ τs) β (o ∷ vs) R P h = via 𝓤 (Cell 𝓤 H τ (β 0) o ∗ (Frame 𝓤 H τs (λ i. β (suc i)) vs ∗ R)) (assoc∗ 𝓤 (Cell 𝓤 H τ (β 0) o)
      (Frame 𝓤 H τs (λ i. β (suc i)) vs) R)
      (mono∗ 𝓤 (roomy 𝓛 τ (β 0) o) (freed τs (λ i. β (suc i)) vs R P h))

module _ {M : Type 1} {𝓤 : Ura M} {𝓛 : Logic 𝓤} {K : Type 0} {Γ : List (Item 𝓤)} where
  open 𝓛 use {H}

  pub begins : K → (C : Calls 𝓤 H) (Λ : Loops 𝓤 H) (f : Fn) (vs : List Val) (Kf : Val → SProp 𝓤) → Starts (tys_of f.locals) vs
      → ((β : ℕ → ℕ) → Seq K 𝓛 (fr 𝓤 H (tys_of f.locals) β (none ∷ somes vs) ∷ Γ) (runs C Λ (env_at (tys_of f.locals) β) f.body
      (at_ret (env_at (tys_of f.locals) β) Kf)))
      → Seq K 𝓛 Γ (prop (WpFn 𝓤 H C Λ f vs Kf))
  unfolding WpFn
  begins t C Λ f vs Kf ok k = record {
    prf = made 𝓛 f.locals (⋆ 𝓛 Γ) (λ E. params' E vs (runs C Λ E f.body (at_ret E Kf))) (λ β.
        started 𝓛 (tys_of f.locals) β vs (⋆ 𝓛 Γ) (Wp 𝓤 H C Λ (env_at (tys_of f.locals) β) f.body
        (at_return 𝓤 H (env_at (tys_of f.locals) β) Kf)) ok
        (via 𝓤 (sep 𝓤 (mean 𝓛 (fr 𝓤 H (tys_of f.locals) β (none ∷ somes vs))) (⋆ 𝓛 Γ))
        (mono_l 𝓤 (⋆ 𝓛 Γ) (guard_i 𝓤 (Holds (tys_of f.locals) β (none ∷ somes vs)) (Frame 𝓤 H (tys_of f.locals) β (none ∷ somes vs)) holds))
        (via 𝓤 (⋆ 𝓛 (fr 𝓤 H (tys_of f.locals) β (none ∷ somes vs) ∷ Γ)) (push 𝓛 (fr 𝓤 H (tys_of f.locals) β (none ∷ somes vs)) Γ) (k β).prf)));
  }

  pub frees_all : K → (n : ℕ) {τs : List Ty} {β : ℕ → ℕ} {vs : List (Option Val)} {g : Goal 𝓤 H} → nth 𝓛 n Γ ≡ fr 𝓤 H τs β vs
      → Step K 𝓛 (del 𝓛 n Γ) g Γ (frees (env_at τs β) g)
  frees_all t n {τs} {β} {vs} {g} e = step (λ s. record {
    prf = via 𝓤 (sep 𝓤 (mean 𝓛 (fr 𝓤 H τs β vs)) (⋆ 𝓛 (del 𝓛 n Γ)))
        (subst (λ (j : Item 𝓤). ent 𝓤 (⋆ 𝓛 Γ) (sep 𝓤 (mean 𝓛 j) (⋆ 𝓛 (del 𝓛 n Γ)))) e (pull 𝓛 n Γ))
        (via 𝓤 (sep 𝓤 (Frame 𝓤 H τs β vs) (⋆ 𝓛 (del 𝓛 n Γ))) (mono_l 𝓤 (⋆ 𝓛 (del 𝓛 n Γ)) (guard_e 𝓤 (Holds τs β vs) (Frame 𝓤 H τs β vs)
        (λ _. id⊢ 𝓤 (Frame 𝓤 H τs β vs))))
        (freed 𝓛 τs β vs (⋆ 𝓛 (del 𝓛 n Γ)) (aim 𝓤 H g) s.prf));
  })
