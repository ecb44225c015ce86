-- Words read back from their bits, and words that are natural numbers.
use Prim.Native.Nat.{ℕ, ◌<◌}
use mathlib.Core.Bool.{false}
use mathlib.Core.Path.{◌≡◌, ap, ◌∙◌}
use native.Mathlib.Omega.{arith}
use borrow.Author.Tests.{le-ltb}
use lib.IntN.{ℤ, pos}
use lib.Signed.{mag, lt_z}
use mir.Facts.{to_z-of_z}
use mir.Syntax.{w32}
use mir.Val.{of_z, to_z}

pub read_back : (z : ℤ) → mag z < 2147483648 → to_z w32 (of_z w32 z) ≡ z
read_back z h = to_z-of_z {w = w32} (record { sfits = h })

pub natural : {z : ℤ} {x : ℕ} → z ≡ pos x → lt_z z (pos 0) ≡ false
natural {x = x} e = ap (λ (y : ℤ). lt_z y (pos 0)) e ∙ le-ltb x 0 (omega arith)
