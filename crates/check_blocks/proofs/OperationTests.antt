-- What the test of an operation comes to. Assumes nothing.
use mathlib.Core.Path.{◌≡◌, refl}
use mathlib.Core.List.{List}
use Prim.Native.Nat.{ℕ, zero, suc, ◌<◌, ◌≤◌}
use native.Mathlib.Omega.{arith}
use Rattle.language.specs.Structure.{refuse, operation}
use Rattle.language.specs.declared.Refusal.TheVariants.{FieldRange}
use Rattle.check_names.proofs.KindTests.{Gives, given}

pub operation-known : (o n : ℕ) → n ≤ 2 → Gives (operation o n)
unfolding operation
operation-known o zero h = given _
operation-known o (suc zero) h = given _
operation-known o (suc (suc zero)) h = given _
operation-known o (suc (suc (suc n))) h = absurd (omega arith)

pub operation-unknown : (o n at : ℕ) (ws : List ℕ) → 2 < n → operation o n at ws ≡ refuse FieldRange o
unfolding operation
operation-unknown o zero at ws h = absurd (omega arith)
operation-unknown o (suc zero) at ws h = absurd (omega arith)
operation-unknown o (suc (suc zero)) at ws h = absurd (omega arith)
operation-unknown o (suc (suc (suc n))) at ws h = refl
