-- A function's way in and out, for any list of parameters (`Params`). Of a `&mut` that is a parameter nothing is had at exit but what says its last value
-- and the borrow, closed (`gave_ref`, `gave_slice`); a `&` and a datum are had as they were passed (`stay_none…`).
--     arrives          what there is on entry becomes the borrows' entries
--     leaves-with      the entries at exit, a result and a fact give what `Denote/Triple/Walked.antt`'s `Ending` asks
--     by-walk          a triple of a function's MIR over the tables of its own routine is one of the function
-- Assumes `Logic`; `by-walk` nothing.
use Rattle.std.specs.Prelude.{ℕ, suc, List, [], ◌∷◌}
use seplogic.Ra.Ura.{Ura}
use mir.Syntax.{Lifetime, Fn, named}
use base.Logic.{SProp, ent, sep, emp, via, mono∗, mono_l, mono_r, fst∗, snd∗, emp∗, comm∗}
use base.Fml.{Fml, ftrue, fsep}
use prog.Wp.{Heap, WpFn, Closed}
use prog.Model.{Model}
use prog.Routine.{Callee, Env}
use types.Logic.{Logic, sem}
use contract.Monad.{fact, fact_i}
use contract.Running.{Running, tables}
use types.Kit.{‵, raw, ◌⊛◌, ⋆, pop, push, ◌$◌, ◌∵◌, !, qed, move, split, join, done}
use denote.Triple.Statement.{Contract, Triple}
use denote.Triple.Table.{entered}
use Rattle.walks.specs.Data.{Datum, Good}
use Rattle.walks.specs.Loans.{Loan, Kind, mut_ref, shr_ref, mut_slice, shr_slice, Value, token, owned, In, Said, Out, Bound, last_of}
use Rattle.walks.specs.Params.{Par, dat, brw, Bounds, ins, outs, Goods, alive, owning}

-- what is had of a borrow at exit
abbrev had : (k : Kind) (ℓ : Lifetime) (h : Loan) (y : Value k) → Bound ℓ h k y → Fml
had (mut_ref R) ℓ h y w = Said (mut_ref R) h w
had (shr_ref R L) ℓ h y w = owned (shr_ref R L) ℓ h y
had (mut_slice R) ℓ h y w = Said (mut_slice R) h w
had (shr_slice R L) ℓ h y w = owned (shr_slice R L) ℓ h y

abbrev pub has : (j : ℕ) (ps : List Par) → Bounds j ps → Fml
has j [] ws = ftrue
has j (dat D x ∷ ps) ws = fsep (D.type.own_val x (D.val x ∷ [])) (has j ps ws.1)
has j (brw k h y ∷ ps) ws = fsep (had k (named j) h y ws.0) (has (suc j) ps ws.1)

module _ {M : Type 1} {𝓤 : Ura M} (𝓛 : Logic 𝓤) where
  abbrev ⟦◌⟧ : Fml → SProp 𝓤
  ⟦ F ⟧ = sem 𝓛 F

  abbrev ◌∗◌ : SProp 𝓤 → SProp 𝓤 → SProp 𝓤
  P ∗ Q = sep 𝓤 P Q

  infixr 35 ◌∗◌
  -- own does not read the number of the lifetime
  takes-in : (ℓ : Lifetime) (h : Loan) (k : Kind) (y : Value k) → ent 𝓤 (⟦ token h ⟧ ∗ ⟦ owned k ℓ h y ⟧) ⟦ In k h y ⟧
  takes-in ℓ h (mut_ref R) y = comm∗ 𝓤 ⟦ token h ⟧ ⟦ owned (mut_ref R) (named 0) h y ⟧
  takes-in ℓ h (shr_ref R L) y = comm∗ 𝓤 ⟦ token h ⟧ ⟦ owned (shr_ref R L) (named 0) h y ⟧
  takes-in ℓ h (mut_slice R) y = comm∗ 𝓤 ⟦ token h ⟧ ⟦ owned (mut_slice R) (named 0) h y ⟧
  takes-in ℓ h (shr_slice R L) y = comm∗ 𝓤 ⟦ token h ⟧ ⟦ owned (shr_slice R L) (named 0) h y ⟧

  crossed : (a b c d : SProp 𝓤) → ent 𝓤 ((a ∗ b) ∗ (c ∗ d)) ((a ∗ c) ∗ (b ∗ d))
  crossed a b c d = qed 𝓛 ((raw a ⊛ raw b) ∷ (raw c ⊛ raw d) ∷ []) ∵ split ! $ move ! (2 ∷ []) $ split ! $ move ! (2 ∷ 0 ∷ []) $ join ! $
      move ! (0 ∷ 2 ∷ 1 ∷ []) $ done !

  pub arrives : (j : ℕ) (ps : List Par) → ent 𝓤 (alive 𝓛 ps ∗ owning 𝓛 j ps) (⋆ 𝓛 (ins 𝓤 ps))
  arrives j [] = fst∗ 𝓤 (emp 𝓤) (emp 𝓤)
  arrives j (dat D x ∷ ps) = via 𝓤 (alive 𝓛 ps ∗ owning 𝓛 j ps) (mono_r 𝓤 (alive 𝓛 ps) (snd∗ 𝓤 ⟦ D.type.own_val x (D.val x ∷ []) ⟧
      (owning 𝓛 j ps)))
      (arrives j ps)
  arrives j (brw k h y ∷ ps) =
      via 𝓤 ((⟦ token h ⟧ ∗ ⟦ owned k (named j) h y ⟧) ∗ (alive 𝓛 ps ∗ owning 𝓛 (suc j) ps)) (crossed ⟦ token h ⟧ (alive 𝓛 ps) ⟦ owned k
      (named j) h y ⟧ (owning 𝓛 (suc j) ps))
      (via 𝓤 (⟦ In k h y ⟧ ∗ ⋆ 𝓛 (ins 𝓤 ps)) (mono∗ 𝓤 (takes-in (named j) h k y) (arrives (suc j) ps)) (push 𝓛 (‵ (In k h y)) (ins 𝓤 ps)))

  lets_go : (ℓ : Lifetime) (h : Loan) (k : Kind) (y : Value k) (w : Bound ℓ h k y) → ent 𝓤 ⟦ Out k h (last_of ℓ h k y w) ⟧ (⟦ token h ⟧ ∗ ⟦ had k ℓ h y w ⟧)
  lets_go ℓ h (mut_ref R) y w = comm∗ 𝓤 ⟦ had (mut_ref R) ℓ h y w ⟧ ⟦ token h ⟧
  lets_go ℓ h (shr_ref R L) y w = comm∗ 𝓤 ⟦ had (shr_ref R L) ℓ h y w ⟧ ⟦ token h ⟧
  lets_go ℓ h (mut_slice R) y w = comm∗ 𝓤 ⟦ had (mut_slice R) ℓ h y w ⟧ ⟦ token h ⟧
  lets_go ℓ h (shr_slice R L) y w = comm∗ 𝓤 ⟦ had (shr_slice R L) ℓ h y w ⟧ ⟦ token h ⟧

  hands-back : (j : ℕ) (ps : List Par) (ws : Bounds j ps) → Goods ps → ent 𝓤 (⋆ 𝓛 (outs 𝓤 j ps ws)) (alive 𝓛 ps ∗ ⟦ has j ps ws ⟧)
  hands-back j [] ws r = emp∗ 𝓤 (emp 𝓤)
  hands-back j (dat D x ∷ ps) ws r =
      via 𝓤 (alive 𝓛 ps ∗ ⟦ has j ps ws.1 ⟧) (hands-back j ps ws.1 r.1) (mono_r 𝓤 (alive 𝓛 ps) (via 𝓤 (emp 𝓤 ∗ ⟦ has j ps ws.1 ⟧)
      (emp∗ 𝓤 ⟦ has j ps ws.1 ⟧) (mono_l 𝓤 ⟦ has j ps ws.1 ⟧ (D.makes 𝓛 x (D.val x ∷ []) r.0))))
  hands-back j (brw k h y ∷ ps) ws r =
      via 𝓤 (⟦ Out k h (last_of (named j) h k y ws.0) ⟧ ∗ ⋆ 𝓛 (outs 𝓤 (suc j) ps ws.1)) (pop 𝓛 (‵ (Out k h (last_of (named j) h k y ws.0)))
      (outs 𝓤 (suc j) ps ws.1))
      (via 𝓤 ((⟦ token h ⟧ ∗ ⟦ had k (named j) h y ws.0 ⟧) ∗ (alive 𝓛 ps ∗ ⟦ has (suc j) ps ws.1 ⟧)) (mono∗ 𝓤 (lets_go (named j) h k y ws.0)
      (hands-back (suc j) ps ws.1 r))
      (crossed ⟦ token h ⟧ ⟦ had k (named j) h y ws.0 ⟧ (alive 𝓛 ps) ⟦ has (suc j) ps ws.1 ⟧))

  pub leaves-with : (ps : List Par) (ws : Bounds 0 ps) → Goods ps → (D : Datum) (r : D.type.Denot) → Good D r → (φ : Type 0) → φ
      → ent 𝓤 (⋆ 𝓛 (outs 𝓤 0 ps ws)) ((alive 𝓛 ps ∗ (⟦ has 0 ps ws ⟧ ∗ ⟦ D.type.own_val r (D.val r ∷ []) ⟧)) ∗ fact 𝓤 φ)
  leaves-with ps ws goods D r good φ x =
      via 𝓤 (alive 𝓛 ps ∗ ⟦ has 0 ps ws ⟧) (hands-back 0 ps ws goods)
      (via 𝓤 (alive 𝓛 ps ∗ (⟦ has 0 ps ws ⟧ ∗ result)) (mono_r 𝓤 (alive 𝓛 ps) (beside ⟦ has 0 ps ws ⟧ result
      (D.makes 𝓛 r (D.val r ∷ []) good)))
      (beside (alive 𝓛 ps ∗ (⟦ has 0 ps ws ⟧ ∗ result)) (fact 𝓤 φ) (fact_i 𝓤 φ (emp 𝓤) x)))
    where
      result : SProp 𝓤
      result = ⟦ D.type.own_val r (D.val r ∷ []) ⟧

      beside : (Q P : SProp 𝓤) → ent 𝓤 (emp 𝓤) P → ent 𝓤 Q (Q ∗ P)
      beside Q P p = via 𝓤 (emp 𝓤 ∗ Q) (emp∗ 𝓤 Q) (via 𝓤 (P ∗ Q) (mono_l 𝓤 Q p) (comm∗ 𝓤 P Q))

module _ {M : Type 1} (𝓤 : Ura M) (H : Heap 𝓤) (𝓜 : Model 𝓤 H) (𝓡 : Running 𝓤 H 𝓜) (γ : Env) (k : Callee) (e : Fn) (c : Contract 𝓤) where
  pub by-walk : Closed 𝓤 H (tables 𝓤 H 𝓜 𝓡 γ).C (tables 𝓤 H 𝓜 𝓡 γ).Λ k e → Triple 𝓤 (WpFn 𝓤 H (tables 𝓤 H 𝓜 𝓡 γ).C (tables 𝓤 H 𝓜 𝓡 γ).Λ e) c
      → Triple 𝓤 ((tables 𝓤 H 𝓜 𝓡 γ).C k) c
  by-walk = entered 𝓤 H c (tables 𝓤 H 𝓜 𝓡 γ).C (tables 𝓤 H 𝓜 𝓡 γ).Λ k e
