-- A word as it is hashed.
use Prim.Native.Nat.{ℕ, ◌<◌}
use mathlib.Core.Path.{◌≡◌, refl}
use mathlib.Core.Bool.{true, false}
use native.Mathlib.Omega.{arith}
use borrow.Author.Tests.{ltb-true}
use lib.IntN.{ℤ, pos, negsuc, nat_abs}
use lib.Signed.{mag, lt_z}
use mir.Val.{of_z, to_z}
use mir.Syntax.{w32}
use Rattle.table_search.proofs.Signed.{back}
use Rattle.table_hash.specs.Hashes.{weight_of}

negative : (z : ℤ) → lt_z z (pos 0) ≡ true → 0 ≡ weight_of z
unfolding weight_of
negative (pos n) e = absurd (omega (arith, ltb-true n 0 e))
negative (negsuc n) e = refl

not_negative : (z : ℤ) → lt_z z (pos 0) ≡ false → nat_abs z ≡ weight_of z
unfolding weight_of
not_negative (pos n) e = refl
not_negative (negsuc n) e = absurd (let z : ◌≡◌ {A = ℕ} 0 1 = cc in omega arith)

pub negative-weight : (z : ℤ) → mag z < 2147483648 → lt_z (to_z w32 (of_z w32 z)) (pos 0) ≡ true → 0 ≡ weight_of z
negative-weight z h e = negative z (rw (back z h) at e)

pub whole-weight : (z : ℤ) → mag z < 2147483648 → lt_z (to_z w32 (of_z w32 z)) (pos 0) ≡ false → nat_abs (to_z w32 (of_z w32 z)) ≡ weight_of z
whole-weight z h e = rw (back z h) (not_negative z (rw (back z h) at e))
