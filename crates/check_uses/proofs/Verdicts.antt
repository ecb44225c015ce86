-- Verdicts one after the other.
-- Assumes nothing.
use Rattle.std.specs.Prelude.{Ok, Err}
use mathlib.Core.Path.{◌≡◌, ap, ◌∙◌}
use mathlib.Core.List.{List}
use Prim.Native.Nat.{ℕ}
use native.Mathlib.Omega.{arith}
use Rattle.language.specs.Text.{Kind}
use Rattle.language.specs.Scope.{Scope, fine, wrong, uses, ◌then◌}
use Rattle.language.specs.Scope as definitions
use Rattle.language.specs.declared.Refusal.{Refusal}
use Rattle.laws.specs.Fields.{field_at}
use Rattle.check_uses.specs.Meanings.{verdict_of}
use Rattle.language.specs.Faults.{fault, Verdict}

fit_refused : {A : Type 0} (r : Verdict) (c : Refusal) (o : ℕ) → r ≡ Ok tt → r ≡ Err (fault c o) → A
fit_refused r c o p q = let z : ◌≡◌ {A = ℕ} 0 1 = cc in absurd (omega arith)

pub then-stop : (v w : definitions.Judgement) (r : Verdict) (c : Refusal) (o : ℕ) → r ≡ verdict_of v → r ≡ Err (fault c o) → r ≡ verdict_of (◌then◌ v w)
unfolding ◌then◌
then-stop fine w r c o p q = fit_refused r c o p q
then-stop (wrong d n) w r c o p q = p

pub then-go : (v w : definitions.Judgement) (r s : Verdict) → r ≡ verdict_of v → r ≡ Ok tt → s ≡ verdict_of w → s ≡ verdict_of (◌then◌ v w)
unfolding ◌then◌
then-go fine w r s p q g = g
then-go (wrong d n) w r s p q g = fit_refused r d n q p

-- the name used is the one in a field
pub judged-at : (bs : List ℕ) (sc : Scope) (at x n : ℕ) (k : Kind) (r : Verdict) → n ≡ field_at bs x → r ≡ verdict_of (uses sc at k n) → r ≡ verdict_of (uses sc at k (field_at bs x))
judged-at bs sc at x n k r e p = p ∙ ap (λ (m : ℕ). verdict_of (uses sc at k m)) e
