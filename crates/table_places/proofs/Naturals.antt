-- Words that are not negative, as natural numbers.
use Prim.Native.Nat.{◌≤◌, ◌<◌}
use mathlib.Core.Path.{◌≡◌, refl}
use mathlib.Core.Bool.{true}
use native.Mathlib.Omega.{arith}
use borrow.Author.Tests.{leb-true, le-leb}
use lib.Dec.{T}
use lib.IntN.{ℤ, pos, negsuc, nat_abs}
use lib.Signed.{mag, non_neg}
use mir.Val.{Fits, of_z, to_z}
use mir.Syntax.{w32, w64}
use Rattle.laws.specs.Tests.{never}
use Rattle.language.specs.Table.{at_least_one}
use Rattle.table_search.proofs.Signed.{back}
use Rattle.table_places.specs.Places.{Natural}

natural : (z : ℤ) → mag z < 2147483648 → Natural z → T (non_neg z) × (nat_abs z < 2147483648)
natural (pos n) h e = (tt, h)
natural (negsuc n) h e = never e refl

-- the word as the machine casts it
pub natural-cast : (z : ℤ) → mag z < 2147483648 → Natural z → T (non_neg (to_z w32 (of_z w32 z))) × Fits w64 (nat_abs (to_z w32 (of_z w32 z)))
natural-cast z h e =
    let n = natural z h e in
    rw (back z h) (n.0, record { fits = omega (arith, n.1) })

abbrev pub Word : ℤ → Type 0
Word z = (nat_abs (to_z w32 (of_z w32 z)) ≡ nat_abs z) × (nat_abs (to_z w32 (of_z w32 z)) < 2147483648)

pub natural-word : (z : ℤ) → mag z < 2147483648 → Natural z → Word z
natural-word z h e = rw (back z h) (refl, (natural z h e).1)

pub from_one : (z : ℤ) → at_least_one z ≡ true → Natural z × (1 ≤ nat_abs z) × (z ≡ pos (nat_abs z))
unfolding at_least_one
from_one (pos n) e = (refl, leb-true 1 n e, refl)
from_one (negsuc n) e = never e refl

pub natural-is : (z : ℤ) → Natural z → z ≡ pos (nat_abs z)
natural-is (pos n) e = refl
natural-is (negsuc n) e = never e refl

pub natural-one : (z : ℤ) → Natural z → 1 ≤ nat_abs z → at_least_one z ≡ true
unfolding at_least_one
natural-one (pos n) e h = le-leb 1 n h
natural-one (negsuc n) e h = never e refl
