-- Signed words: what is read back of a word's bits, how large sums of two words are, and which values fit a word.
use Prim.Native.Nat.{ℕ, zero, suc, ◌-◌, ◌<◌, ◌≤◌}
use mathlib.Core.Path.{◌≡◌, refl, sym, subst, ap, ◌∙◌}
use mathlib.Core.Bool.{Bool, true, false, cond}
use native.Mathlib.Omega.{arith}
use borrow.Author.Tests.{lt-ltb, le-ltb, leb-true, leb-false}
use lib.Dec.{T, ltb}
use lib.IntN.{ℤ, pos, negsuc, neg_ℤ, nat_abs, ◌+ℤ◌, ◌-ℤ◌}
use lib.Signed.{mag, lt_z, le_z, non_neg}
use mir.Val.{Fits, SFits, of_z, to_z}
use mir.Syntax.{w32, w64}
use mir.Facts.{to_z-of_z, to_z_pos, sfits_widen}
use Rattle.language.specs.Encoding as encoding

-- A word in a local is held as its bits.
pub read_back : (z : ℤ) → mag z < 2147483648 → to_z w32 (of_z w32 z) ≡ z
read_back z h = to_z-of_z {w = w32} (record { sfits = h })

pub read-back-wide : (z : ℤ) → mag z < 9223372036854775808 → to_z w64 (of_z w64 z) ≡ z
read-back-wide z h = to_z-of_z {w = w64} (record { sfits = h })

pub widened : (z : ℤ) → SFits w32 z → SFits w64 (to_z w32 (of_z w32 z))
widened z f = subst (λ (v : ℤ). SFits w64 v) (sym (to_z-of_z f)) (sfits_widen tt f)

pub back : (z : ℤ) → SFits w32 z → to_z w64 (of_z w64 (to_z w32 (of_z w32 z))) ≡ z
back z f = to_z-of_z (widened z f) ∙ to_z-of_z f

mag-sub : (a b : ℕ) → a < 4294967296 → b < 4294967296 → (t : Bool) → ltb a b ≡ t → mag (cond t (negsuc (b - suc a)) (pos (a - b))) < 9223372036854775808
mag-sub a b ha hb true e = omega arith
mag-sub a b ha hb false e = omega arith

mag_sum : (x y : ℤ) → mag x < 2147483649 → mag y < 2147483649 → mag (x +ℤ y) < 9223372036854775808
mag_sum (pos a) (pos b) ha hb = omega arith
mag_sum (pos a) (negsuc b) ha hb = mag-sub a (suc b) (omega arith) (omega arith) (ltb a (suc b)) refl
mag_sum (negsuc a) (pos b) ha hb = mag-sub b (suc a) (omega arith) (omega arith) (ltb b (suc a)) refl
mag_sum (negsuc a) (negsuc b) ha hb = omega arith

mag-neg : (x : ℤ) → mag x < 2147483648 → mag (neg_ℤ x) < 2147483649
mag-neg (pos zero) h = omega arith
mag-neg (pos (suc n)) h = omega arith
mag-neg (negsuc n) h = omega arith

sum-wide : (x y : ℤ) → SFits w32 x → SFits w32 y → SFits w64 (x +ℤ y)
sum-wide x y f g = record { sfits = mag_sum x y (omega (arith, f.sfits)) (omega (arith, g.sfits)) }

difference-wide : (x y : ℤ) → SFits w32 x → SFits w32 y → SFits w64 (x -ℤ y)
difference-wide x y f g = record { sfits = mag_sum x (neg_ℤ y) (omega (arith, f.sfits)) (mag-neg y g.sfits) }

pub sum_fits : (x y : ℤ) → SFits w32 x → SFits w32 y → SFits w64 (to_z w64 (of_z w64 (to_z w32 (of_z w32 x))) +ℤ to_z w64 (of_z w64 (to_z w32 (of_z w32 y))))
sum_fits x y f g = rw (back x f, back y g) (sum-wide x y f g)

pub difference-fits : (x y : ℤ) → SFits w32 x → SFits w32 y → SFits w64 (to_z w64 (of_z w64 (to_z w32 (of_z w32 x))) -ℤ to_z w64 (of_z w64 (to_z w32 (of_z w32 y))))
difference-fits x y f g = rw (back x f, back y g) (difference-wide x y f g)

pub sum-read :
    (x y : ℤ) → SFits w32 x → SFits w32 y →
    to_z w64 (of_z w64 (to_z w64 (of_z w64 (to_z w32 (of_z w32 x))) +ℤ to_z w64 (of_z w64 (to_z w32 (of_z w32 y))))) ≡ x +ℤ y
sum-read x y f g = to_z-of_z (sum_fits x y f g) ∙ rw (back x f, back y g)

pub difference-read :
    (x y : ℤ) → SFits w32 x → SFits w32 y →
    to_z w64 (of_z w64 (to_z w64 (of_z w64 (to_z w32 (of_z w32 x))) -ℤ to_z w64 (of_z w64 (to_z w32 (of_z w32 y))))) ≡ x -ℤ y
difference-read x y f g = to_z-of_z (difference-fits x y f g) ∙ rw (back x f, back y g)

-- what two words come to, as each is read, widened and read back
pub sum-of-words :
    {x y : ℤ} (a b : ℤ) → SFits w32 a → SFits w32 b → x ≡ to_z w32 (of_z w32 a) → y ≡ to_z w32 (of_z w32 b) →
    to_z w64 (of_z w64 (to_z w64 (of_z w64 x) +ℤ to_z w64 (of_z w64 y))) ≡ a +ℤ b
sum-of-words a b f g p q = rw (p, q) (sum-read a b f g)

pub difference-of-words :
    {x y : ℤ} (a b : ℤ) → SFits w32 a → SFits w32 b → x ≡ to_z w32 (of_z w32 a) → y ≡ to_z w32 (of_z w32 b) →
    to_z w64 (of_z w64 (to_z w64 (of_z w64 x) -ℤ to_z w64 (of_z w64 y))) ≡ a -ℤ b
difference-of-words a b f g p q = rw (p, q) (difference-read a b f g)

-- A signed number from its bits

pub signed_low : (b : ℕ) → b < 2147483648 → to_z w32 b ≡ encoding.signed b
unfolding encoding.signed
signed_low b h = to_z_pos w32 h ∙ rw (lt-ltb b 2147483648 h, encoding.signed)

less-by-all : (b : ℕ) → 2147483648 ≤ b → b < 4294967296 → to_z w64 b -ℤ pos 4294967296 ≡ negsuc (4294967295 - b)
less-by-all b low h =
    let e : 4294967296 - suc b ≡ 4294967295 - b = omega arith in
    rw (to_z_pos w64 {n = b} (omega arith), lt-ltb b 4294967296 h) (ap negsuc e)

pub high-wide : (b : ℕ) → 2147483648 ≤ b → b < 4294967296 → SFits w64 (to_z w64 b -ℤ pos 4294967296)
high-wide b low h = rw (less-by-all b low h) (record { sfits = omega arith })

pub high_fits : (b : ℕ) → 2147483648 ≤ b → b < 4294967296 → SFits w32 (to_z w64 (of_z w64 (to_z w64 b -ℤ pos 4294967296)))
high_fits b low h = rw (to_z-of_z (high-wide b low h), less-by-all b low h) (record { sfits = omega arith })

pub signed_high : (b : ℕ) → 2147483648 ≤ b → b < 4294967296 → to_z w32 (of_z w32 (to_z w64 (of_z w64 (to_z w64 b -ℤ pos 4294967296)))) ≡ encoding.signed b
unfolding encoding.signed
signed_high b low h =
    to_z-of_z (high_fits b low h) ∙ to_z-of_z (high-wide b low h) ∙ less-by-all b low h ∙ rw (le-ltb b 2147483648 low, encoding.signed)

-- Which values fit a word

pub in-range : (z : ℤ) → le_z (negsuc 2147483647) z ≡ true → le_z z (pos 2147483647) ≡ true → ltb (mag z) 2147483648 ≡ true
in-range (pos n) p q = lt-ltb n 2147483648 (omega (arith, leb-true n 2147483647 q))
in-range (negsuc n) p q = lt-ltb n 2147483648 (omega (arith, leb-true n 2147483647 p))

pub too-low : (z : ℤ) → le_z (negsuc 2147483647) z ≡ false → ltb (mag z) 2147483648 ≡ false
too-low (pos n) e = let z : ◌≡◌ {A = ℕ} 0 1 = cc in absurd (omega arith)
too-low (negsuc n) e = le-ltb n 2147483648 (omega (arith, leb-false n 2147483647 e))

pub too-high : (z : ℤ) → le_z z (pos 2147483647) ≡ false → ltb (mag z) 2147483648 ≡ false
too-high (pos n) e = le-ltb n 2147483648 (omega (arith, leb-false n 2147483647 e))
too-high (negsuc n) e = let z : ◌≡◌ {A = ℕ} 0 1 = cc in absurd (omega arith)

-- A word that is not negative

pub not_negative : (z : ℤ) → mag z < 2147483648 → lt_z z (pos 0) ≡ false → T (non_neg z) × Fits w64 (nat_abs z)
not_negative (pos n) h e = (tt, record { fits = omega (arith, h) })
not_negative (negsuc n) h e = absurd (let z : ◌≡◌ {A = ℕ} 0 1 = cc in omega arith)

pub natural : (z : ℤ) → lt_z z (pos 0) ≡ false → z ≡ pos (nat_abs z)
natural (pos n) e = refl
natural (negsuc n) e = absurd (let z : ◌≡◌ {A = ℕ} 0 1 = cc in omega arith)

pub natural-small : (z : ℤ) → mag z < 2147483648 → lt_z z (pos 0) ≡ false → nat_abs z < 2147483648
natural-small (pos n) h e = h
natural-small (negsuc n) h e = absurd (let z : ◌≡◌ {A = ℕ} 0 1 = cc in omega arith)
