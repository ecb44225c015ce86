-- What the structure says of the whole check: a refusal is the check's, and a fit script is judged by its names alone.
-- Assumes nothing.
use Rattle.std.specs.Prelude.{Ok, Err}
use mathlib.Core.Path.{◌≡◌, refl, sym, ap, ◌∙◌}
use mathlib.Core.Bool.{Bool, true, false}
use mathlib.Core.List.{List, [], ◌∷◌}
use Prim.Native.Nat.{ℕ}
use native.Mathlib.Omega.{arith}
use Rattle.language.specs.Text.{Block}
use Rattle.language.specs.Encoding.{fields_of}
use Rattle.language.specs.Structure.{Reading as Outcome, read, refuse, program}
use Rattle.language.specs.Scope.{judge_block}
use Rattle.language.specs.Check.{refused, length_fits, judged, ended, check}
use Rattle.language.specs.declared.Refusal.{Refusal}
use Rattle.language.specs.declared.Refusal.TheVariants.{ScriptLength, BytesAfter}
use Rattle.language.specs.declared.Fault.{Fault}
use Rattle.language.specs.Faults.{fault}
use Rattle.check_structure.specs.Structure.{ended_of, structure_of}

same : (x y : Fault) → x ≡ y → refused x.cause x.offset ≡ refused y.cause y.offset
same x y e = ap (λ (z : Fault). refused z.cause z.offset) e

refused-there : (x : Outcome Block) (c : Refusal) (o : ℕ) → ended_of x ≡ Err (fault c o) → ended x ≡ refused c o
unfolding ended_of ended
refused-there (read t at []) c o e = let z : ◌≡◌ {A = ℕ} 0 1 = cc in absurd (omega arith)
refused-there (read t at (w ∷ ws)) c o e = same (fault BytesAfter at) (fault c o) cc
refused-there (refuse d p) c o e = same (fault d p) (fault c o) cc

-- a fit script: its tree, and what is left of the check
pub record Read (bs : List ℕ) : Type 0 where
  pub tree : Block
  pub end : ℕ
  pub reads : program 0 (fields_of bs) ≡ read tree end []
  pub judged-by : check bs ≡ judged tree (judge_block tree [] [])

fit-there : (bs : List ℕ) → length_fits bs ≡ true → (x : Outcome Block) → program 0 (fields_of bs) ≡ x → ended_of x ≡ Ok tt → Read bs
unfolding ended_of ended check
fit-there bs f (read t at []) q e =
    record { tree = t; end = at; reads = q; judged-by = rw (f, q, check) }
fit-there bs f (read t at (w ∷ ws)) q e = let z : ◌≡◌ {A = ℕ} 0 1 = cc in absurd (omega arith)
fit-there bs f (refuse d p) q e = let z : ◌≡◌ {A = ℕ} 0 1 = cc in absurd (omega arith)

module _ (bs : List ℕ) where
  check-fits : length_fits bs ≡ true → check bs ≡ ended (program 0 (fields_of bs))
  unfolding check
  check-fits f = rw (f, check)

  structure-fits : length_fits bs ≡ true → structure_of bs ≡ ended_of (program 0 (fields_of bs))
  unfolding structure_of
  structure-fits f = rw (f, structure_of)

  check-misfits : length_fits bs ≡ false → check bs ≡ refused ScriptLength 0
  unfolding check
  check-misfits f = rw (f, check)

  structure-misfits : length_fits bs ≡ false → structure_of bs ≡ Err (fault ScriptLength 0)
  unfolding structure_of
  structure-misfits f = rw (f, structure_of)

  refused-by : (c : Refusal) (o : ℕ) (b : Bool) → length_fits bs ≡ b → structure_of bs ≡ Err (fault c o) → check bs ≡ refused c o
  refused-by c o true f e =
      check-fits f ∙ refused-there (program 0 (fields_of bs)) c o (sym (structure-fits f) ∙ e)
  refused-by c o false f e = let i = structure-misfits f in check-misfits f ∙ same (fault ScriptLength 0) (fault c o) cc

  pub refuses : (c : Refusal) (o : ℕ) → structure_of bs ≡ Err (fault c o) → check bs ≡ refused c o
  refuses c o e = refused-by c o (length_fits bs) refl e

  fit-by : (b : Bool) → length_fits bs ≡ b → structure_of bs ≡ Ok tt → Read bs
  fit-by true f e = fit-there bs f (program 0 (fields_of bs)) refl (sym (structure-fits f) ∙ e)
  fit-by false f e = let i = structure-misfits f in let z : ◌≡◌ {A = ℕ} 0 1 = cc in absurd (omega arith)

  pub fit-is-read : structure_of bs ≡ Ok tt → Read bs
  fit-is-read e = fit-by (length_fits bs) refl e
