-- The words of the check's answer, from the verdict. Assumes nothing.
use Rattle.std.specs.Prelude.{Ok, Err}
use Prim.Native.Nat.{ℕ}
use native.Mathlib.Omega.{arith}
use mathlib.Core.Path.{◌≡◌, refl, sym, ◌∙◌, ap}
use mathlib.Core.List.{List, [], ◌∷◌}
use Rattle.language.specs.Numbers.{refusal_number}
use Rattle.language.specs.Check.{Checked, accepted, refused}
use Rattle.language.specs.declared.Fault.{Fault}
use Rattle.language.specs.Faults.{fault, Verdict}
use Rattle.check_script.specs.Verdicts.{verdict_of}
use Rattle.check_call.specs.Answers.{check_words}

pub fit_words : (k : Checked) (v : Verdict) → v ≡ verdict_of k → v ≡ Ok tt → ◌≡◌ {A = List ℕ} (0 ∷ 0 ∷ []) (check_words k)
unfolding verdict_of check_words
fit_words (accepted t) v e q = refl
fit_words (refused c o) v e q = let z : ◌≡◌ {A = ℕ} 0 1 = cc in absurd (omega arith)

pub refused-words : (k : Checked) (v : Verdict) (x : Fault) (n : ℕ) → v ≡ verdict_of k → v ≡ Err x → n ≡ refusal_number x.cause → ◌≡◌ {A = List ℕ} (n ∷ x.offset ∷ []) (check_words k)
unfolding verdict_of check_words
refused-words (accepted t) v x n e q h = let z : ◌≡◌ {A = ℕ} 0 1 = cc in absurd (omega arith)
refused-words (refused d p) v x n e q h =
    let y : Err x ≡ Err (fault d p) = sym q ∙ e in
    let z : x ≡ fault d p = cc in
    λ i. (h ∙ ap (λ (f : Fault). refusal_number f.cause) z) i ∷ (z i).offset ∷ []
