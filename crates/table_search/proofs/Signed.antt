-- Tests of signed words: what the machine computes from their bits is what the definitions say of the numbers.
use Prim.Native.Nat.{ℕ, suc, ◌-◌, ◌<◌}
use mathlib.Core.Path.{◌≡◌, refl, ◌∙◌, ap, ap₂}
use mathlib.Core.Bool.{Bool, true, false, ◌&&◌}
use native.Mathlib.Omega.{arith}
use borrow.Author.Tests.{eq-eqb, ne_eqb, eqb-true, eqb-false}
use lib.Dec.{eqb}
use lib.IntN.{ℤ, pos, negsuc}
use lib.Signed.{mag, le_z}
use mir.Val.{SFits, of_z, to_z}
use mir.Syntax.{w32}
use mir.Facts.{to_z-of_z}
use Rattle.language.specs.Basics.{eq_z}
use Rattle.language.specs.Table.{at_least_one}

negative-bits : (a b : ℕ) → a < 2147483648 → b < 2147483648 → (t : Bool) → eqb a b ≡ t → eqb (4294967296 - suc a) (4294967296 - suc b) ≡ t
negative-bits a b ha hb true e = eq-eqb (4294967296 - suc a) (4294967296 - suc b) (ap (λ (k : ℕ). 4294967296 - suc k) (eqb-true a b e))
negative-bits a b ha hb false e =
    ne_eqb (4294967296 - suc a) (4294967296 - suc b) (λ q. eqb-false a b e (omega arith))

pub same_bits : (a b : ℤ) → SFits w32 a → SFits w32 b → eqb (of_z w32 a) (of_z w32 b) ≡ eq_z a b
unfolding eq_z
same_bits (pos a) (pos b) fa fb = refl
same_bits (pos a) (negsuc b) fa fb = ne_eqb a (4294967296 - suc b) (λ q. let h : a < 2147483648 = fa.sfits in let k : b < 2147483648 = fb.sfits in omega arith)
same_bits (negsuc a) (pos b) fa fb = ne_eqb (4294967296 - suc a) b (λ q. let h : a < 2147483648 = fa.sfits in let k : b < 2147483648 = fb.sfits in omega arith)
same_bits (negsuc a) (negsuc b) fa fb = negative-bits a b fa.sfits fb.sfits (eqb a b) refl

pub from_one : (a : ℤ) → SFits w32 a → le_z (pos 1) (to_z w32 (of_z w32 a)) ≡ at_least_one a
unfolding at_least_one
from_one a f = ap (le_z (pos 1)) (to_z-of_z f)

-- A word in a local is held as its bits.
pub back : (z : ℤ) → mag z < 2147483648 → to_z w32 (of_z w32 z) ≡ z
back z h = to_z-of_z {w = w32} (record { sfits = h })

pub number-words : {r : Bool} {x y a b : ℤ} → r ≡ (at_least_one (to_z w32 (of_z w32 x)) && at_least_one (to_z w32 (of_z w32 y))) → mag x < 2147483648 → mag y < 2147483648 → x ≡ a → y ≡ b → r ≡ (at_least_one a && at_least_one b)
number-words {x} {y} e h k p q = e ∙ ap₂ (λ (u v : ℤ). at_least_one u && at_least_one v) (back x h ∙ p) (back y k ∙ q)
