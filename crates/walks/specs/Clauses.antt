-- Several clauses of one contract: each is a fact of its own, and a walk has them as one fact of all, in pairs to the right. How many there are is
-- written at each use, as `_ ∷ _ ∷ []`.
--     All φs           all of them.        apart, together      one fact of all, and a fact for each.        needs-all    what a function's `requires` clauses say.
--              asks-all     what a callee's ask
--     said-together    what a callee's `ensures` clauses say (`Calls`), as one fact.        leaves-saying    the way out of a function (`Functions`) with several
-- Assumes nothing; `said-together` and `leaves-saying` assume `Logic`.
use Rattle.std.specs.Prelude.{List, [], ◌∷◌}
use seplogic.Ra.Ura.{Ura}
use mir.Val.{Val}
use base.Logic.{SProp, ent, sep, ex, emp, id⊢, via, mono∗, mono_r, emp∗, snd∗, ex_i, ex_e, guard_i, guard_e}
use types.Logic.{Logic, sem}
use contract.Monad.{fact, fact_mono, fact_use, fact∗}
use types.Kit.{⋆}
use Rattle.std.specs.Borrow.{RattleType}
use denote.Triple.Walked.{needs}
use Rattle.walks.specs.Data.{Datum, Good}
use Rattle.walks.specs.Params.{Par, Bounds, lasts, outs, Goods, alive, owning}
use Rattle.walks.specs.Functions.{has, leaves-with}
use Rattle.walks.specs.Calls.{Given-back}

abbrev pub All : List (Type 0) → Type 0
All [] = Unit {0}
All (φ ∷ []) = φ
All (φ ∷ ψ ∷ φs) = φ × All (ψ ∷ φs)

module _ {M : Type 1} (𝓤 : Ura M) where
  abbrev pub facts : List (Type 0) → SProp 𝓤
  facts [] = emp 𝓤
  facts (φ ∷ []) = fact 𝓤 φ
  facts (φ ∷ ψ ∷ φs) = sep 𝓤 (fact 𝓤 φ) (facts (ψ ∷ φs))

  pub apart : (φs : List (Type 0)) → ent 𝓤 (fact 𝓤 (All φs)) (facts φs)
  apart [] = guard_e 𝓤 (Unit {0}) (emp 𝓤) (λ _. id⊢ 𝓤 (emp 𝓤))
  apart (φ ∷ []) = id⊢ 𝓤 (fact 𝓤 φ)
  apart (φ ∷ ψ ∷ φs) = guard_e 𝓤 (φ × All (ψ ∷ φs)) (emp 𝓤) (λ p. via 𝓤 (sep 𝓤 (emp 𝓤) (emp 𝓤)) (emp∗ 𝓤 (emp 𝓤)) (mono∗ 𝓤 (guard_i 𝓤 φ (emp 𝓤) p.0)
      (via 𝓤 (fact 𝓤 (All (ψ ∷ φs))) (guard_i 𝓤 (All (ψ ∷ φs)) (emp 𝓤) p.1) (apart (ψ ∷ φs)))))

  pub together : (φs : List (Type 0)) → ent 𝓤 (facts φs) (fact 𝓤 (All φs))
  together [] = guard_i 𝓤 (Unit {0}) (emp 𝓤) tt
  together (φ ∷ []) = id⊢ 𝓤 (fact 𝓤 φ)
  together (φ ∷ ψ ∷ φs) = via 𝓤 (sep 𝓤 (fact 𝓤 φ) (fact 𝓤 R)) (mono_r 𝓤 (fact 𝓤 φ) (together (ψ ∷ φs))) (fact_use 𝓤 φ (fact∗ 𝓤 φ (fact 𝓤 R)) (λ x.
      via 𝓤 (fact 𝓤 R) (snd∗ 𝓤 (fact 𝓤 φ) (fact 𝓤 R)) (fact_mono 𝓤 R (φ × R) (λ y. (x, y)))))
    where
      R : Type 0
      R = All (ψ ∷ φs)

  pub needs-all : (φs : List (Type 0)) (P : SProp 𝓤) {Q : SProp 𝓤} → (All φs → ent 𝓤 P Q) → ent 𝓤 (sep 𝓤 P (facts φs)) Q
  needs-all φs P h = via 𝓤 (sep 𝓤 P (fact 𝓤 (All φs))) (mono_r 𝓤 P (together φs)) (needs 𝓤 (All φs) P h)

  pub asks-all : (𝓛 : Logic 𝓤) (ps : List Par) (φs : List (Type 0)) → ent 𝓤 (sep 𝓤 (sep 𝓤 (alive 𝓛 ps) (owning 𝓛 0 ps)) (fact 𝓤 (All
      φs)))
      (sep 𝓤 (sep 𝓤 (alive 𝓛 ps) (owning 𝓛 0 ps)) (facts φs))
  asks-all 𝓛 ps φs = mono_r 𝓤 (sep 𝓤 (alive 𝓛 ps) (owning 𝓛 0 ps)) (apart φs)

module _ {M : Type 1} {𝓤 : Ura M} (𝓛 : Logic 𝓤) (ps : List Par) (R : RattleType) where
  open 𝓛 use {H}

  abbrev all_at : List (R.Denot → Bounds 0 ps → Type 0) → R.Denot → Bounds 0 ps → List (Type 0)
  all_at [] r ws = []
  all_at (ψ ∷ ψs) r ws = ψ r ws ∷ all_at ψs r ws

  abbrev Back : (R.Denot → Bounds 0 ps → SProp 𝓤) → Val → R.Denot → SProp 𝓤
  Back F v r = sep 𝓤 (sep 𝓤 (alive 𝓛 ps) (sem 𝓛 (R.own_val r (v ∷ [])))) (ex 𝓤 (λ (ws : Bounds 0 ps). sep 𝓤 (sem 𝓛 (lasts 0 ps ws)) (F r ws)))

  pub said-together : (ψs : List (R.Denot → Bounds 0 ps → Type 0)) (v : Val)
      → ent 𝓤 (H.⇛ (ex 𝓤 (Back (λ r ws. facts 𝓤 (all_at ψs r ws)) v))) (Given-back 𝓛 ps R (λ r ws. All (all_at ψs r ws)) v)
  said-together ψs v = 𝓛.laws.⇛_mono (ex 𝓤 (Back (λ r ws. facts 𝓤 (all_at ψs r ws)) v)) (ex 𝓤 (Back one v)) (ex_e 𝓤 (Back (λ r ws. facts 𝓤 (all_at ψs r ws)) v)
      (λ r. via 𝓤 (Back one v r) (mono_r 𝓤 (sep 𝓤 (alive 𝓛 ps) (sem 𝓛 (R.own_val r (v ∷ [])))) (ex_e 𝓤 (λ (ws : Bounds 0 ps).
      sep 𝓤 (sem 𝓛 (lasts 0 ps ws)) (facts 𝓤 (all_at ψs r ws))) (λ ws. via 𝓤 (sep 𝓤 (sem 𝓛 (lasts 0 ps ws)) (one r ws))
      (mono_r 𝓤 (sem 𝓛 (lasts 0 ps ws)) (together 𝓤 (all_at ψs r ws))) (ex_i 𝓤 (λ (us : Bounds 0 ps). sep 𝓤 (sem 𝓛 (lasts 0 ps us)) (one r us)) ws))))
      (ex_i 𝓤 (Back one v) r)))
    where
      one : R.Denot → Bounds 0 ps → SProp 𝓤
      one r ws = fact 𝓤 (All (all_at ψs r ws))

module _ {M : Type 1} {𝓤 : Ura M} (𝓛 : Logic 𝓤) where
  pub leaves-saying : (ps : List Par) (ws : Bounds 0 ps) → Goods ps → (D : Datum) (r : D.type.Denot) → Good D r → (φs : List (Type 0)) → All φs
      → ent 𝓤 (⋆ 𝓛 (outs 𝓤 0 ps ws)) (sep 𝓤 (sep 𝓤 (alive 𝓛 ps) (sep 𝓤 (sem 𝓛 (has 0 ps ws)) (sem 𝓛 (D.type.own_val r (D.val r ∷ []))))) (facts
      𝓤 φs))
  leaves-saying ps ws goods D r good φs x = via 𝓤 (sep 𝓤 Rest (fact 𝓤 (All φs))) (leaves-with 𝓛 ps ws goods D r good (All φs) x) (mono_r 𝓤 Rest (apart 𝓤
      φs))
    where
      Rest : SProp 𝓤
      Rest = sep 𝓤 (alive 𝓛 ps) (sep 𝓤 (sem 𝓛 (has 0 ps ws)) (sem 𝓛 (D.type.own_val r (D.val r ∷ []))))
