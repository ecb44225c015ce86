-- What the test of a formal's kind comes to. Assumes nothing.
use mathlib.Core.Path.{◌≡◌, refl}
use mathlib.Core.List.{List}
use Prim.Native.Nat.{ℕ, zero, suc, ◌<◌, ◌≤◌}
use native.Mathlib.Omega.{arith}
use Rattle.language.specs.Structure.{read, refuse, Reader, give, kind}
use Rattle.language.specs.declared.Refusal.TheVariants.{FieldRange}

pub record Gives {A : Type 0} (m : Reader A) : Type 0 where
  pub value : A
  pub gives : (at : ℕ) (ws : List ℕ) → m at ws ≡ read value at ws

pub given : {A : Type 0} (a : A) → Gives (give a)
unfolding give
given a = record { value = a; gives = λ at ws. refl }

pub kind-known : (o n : ℕ) → n ≤ 2 → Gives (kind o n)
unfolding kind
kind-known o zero h = given _
kind-known o (suc zero) h = given _
kind-known o (suc (suc zero)) h = given _
kind-known o (suc (suc (suc n))) h = absurd (omega arith)

pub kind-unknown : (o n at : ℕ) (ws : List ℕ) → 2 < n → kind o n at ws ≡ refuse FieldRange o
unfolding kind
kind-unknown o zero at ws h = absurd (omega arith)
kind-unknown o (suc zero) at ws h = absurd (omega arith)
kind-unknown o (suc (suc zero)) at ws h = absurd (omega arith)
kind-unknown o (suc (suc (suc n))) at ws h = refl
