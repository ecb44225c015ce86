-- The two halves of the check put together: a refusal of the structure is the check's, and a script fit in structure is judged by its
-- names. Assumes nothing.
use Rattle.std.specs.Prelude.{Ok, Err}
use Prim.Native.Nat.{ℕ, ◌≤◌, ◌%◌}
use native.Mathlib.Omega.{arith}
use mathlib.Core.Bool.{Bool, true, false, ◌&&◌}
use mathlib.Core.Path.{◌≡◌, refl, sym, ◌∙◌, ap, subst}
use mathlib.Core.List.{List, []}
use lib.Dec.{leb, eqb}
use lib.ListN.{length}
use borrow.Author.Tests.{leb-true}
use Rattle.language.specs.Text.{Block}
use Rattle.language.specs.Encoding.{fields_of}
use Rattle.language.specs.Structure.{program, Reading}
use Rattle.language.specs.Scope.{judge_block, fine, wrong}
use Rattle.language.specs.Scope as definitions
use Rattle.language.specs.Check.{length_fits, judged, check}
use Rattle.language.specs.declared.Fault.{Fault}
use Rattle.language.specs.declared.Refusal.TheVariants.{ScriptLength}
use Rattle.language.specs.Faults.{fault, Verdict}
use Rattle.check_structure.specs.Structure.{structure_of}
use Rattle.check_structure.proofs.Half.{refuses, fit-is-read}
use Rattle.check_scope.specs.Walking.{Judged}
use Rattle.check_uses.specs.Meanings as entries
use Rattle.check_script.specs.Verdicts.{verdict_of}

as-judged : (t : Block) (v : definitions.Judgement) → verdict_of (judged t v) ≡ entries.verdict_of v
unfolding verdict_of judged
as-judged t fine = refl
as-judged t (wrong c o) = refl

module _ (bs : List ℕ) (v : Verdict) (e : v ≡ structure_of bs) where
  pub refused-whole : (r : Verdict) (x : Fault) → v ≡ Err x → r ≡ Err x → r ≡ verdict_of (check bs)
  unfolding verdict_of
  refused-whole r x q p = p ∙ sym (ap verdict_of (refuses bs x.cause x.offset (sym e ∙ q)))

  pub fit-whole : (r : Verdict) → v ≡ Ok tt → Judged (program 0 (fields_of bs)) r → r ≡ verdict_of (check bs)
  fit-whole r q j =
      let w = fit-is-read bs (sym e ∙ q) in
      subst (λ (x : Reading Block). Judged x r) w.reads j ∙ (sym (as-judged w.tree (judge_block w.tree [] [])) ∙ sym (ap verdict_of w.judged-by))

  pub fit_length : v ≡ Ok tt → length bs ≤ 8192
  unfolding length_fits structure_of
  fit_length q = go (length_fits bs) refl
    where
      middle : (a b c : Bool) → (a && b && c) ≡ true → b ≡ true
      middle true true c h = refl
      middle true false c h = let z : ◌≡◌ {A = ℕ} 0 1 = cc in absurd (omega arith)
      middle false b c h = let z : ◌≡◌ {A = ℕ} 0 1 = cc in absurd (omega arith)

      go : (b : Bool) → length_fits bs ≡ b → length bs ≤ 8192
      go true h = leb-true (length bs) 8192 (middle (leb 1 (length bs)) (leb (length bs) 8192) (eqb (length bs % 2) 0) h)
      go false h = let w : structure_of bs ≡ Err (fault ScriptLength 0) = rw (h, structure_of) in let z : ◌≡◌ {A = ℕ} 0 1 = cc in absurd (omega arith)
