-- Words that are all 0: by one more at the end, and by parts.
use Prim.Native.Nat.{ℕ, suc, ◌+◌, ◌<◌}
use mathlib.Core.Path.{◌≡◌, refl, sym, ◌∙◌, ap}
use mathlib.Core.Bool.{true, false, ◌&&◌, and-true, and-false, and_assoc}
use mathlib.Core.List.{List, [], ◌∷◌, ◌++◌}
use native.Mathlib.Numerals.{add-one}
use native.Mathlib.Omega.{arith}
use borrow.Author.Tests.{eq-eqb, ne_eqb}
use lib.Dec.{eqb}
use lib.IntN.{ℤ, pos}
use lib.ListN.{length, take, drop, get_or, take-append-drop}
use lib.Seq.{take-suc}
use lib.Signed.{mag}
use mir.Val.{of_z}
use mir.Syntax.{w32}
use Rattle.language.specs.Basics.{eq_z}
use Rattle.table_search.proofs.Signed.{same_bits}
use Rattle.table_places.specs.Places.{all_zero}

pub zero-none : all_zero [] ≡ true
unfolding all_zero
zero-none = refl

pub zero-append : (xs ys : List ℤ) → all_zero (xs ++ ys) ≡ (all_zero xs && all_zero ys)
unfolding all_zero
zero-append [] ys = refl
zero-append (x ∷ xs) ys = ap (eq_z x (pos 0) &&◌) (zero-append xs ys) ∙ sym (and_assoc (eq_z x (pos 0)) (all_zero xs) (all_zero ys))

-- one word more
pub zero_more : (j : ℕ) (ws : List ℤ) → j < length ws → all_zero (take (suc j) ws) ≡ (all_zero (take j ws) && eq_z (get_or ws j (pos 0)) (pos 0))
unfolding all_zero
zero_more j ws h =
    ap all_zero (take-suc ws j (pos 0) h) ∙ zero-append (take j ws) (get_or ws j (pos 0) ∷ []) ∙ ap (all_zero (take j ws) &&◌) (and-true (eq_z (get_or ws j (pos 0)) (pos 0)))

-- a block, and what is after it
module _ (n : ℕ) (ws block after : List ℤ) (first : block ≡ take n ws) (last : after ≡ drop n ws) where
  parts : all_zero ws ≡ (all_zero block && all_zero after)
  parts = ap all_zero (sym (take-append-drop n ws)) ∙ zero-append (take n ws) (drop n ws) ∙ rw (first, last)

  pub zero-passed : all_zero block ≡ true → all_zero ws ≡ all_zero after
  zero-passed e = parts ∙ ap (◌&& all_zero after) e

  pub zero-broken : all_zero block ≡ false → all_zero ws ≡ false
  zero-broken e = parts ∙ ap (◌&& all_zero after) e

-- whether a word is 0, as the machine tests it
pub zero-cell : (z : ℤ) → mag z < 2147483648 → eqb (of_z w32 z) 0 ≡ eq_z z (pos 0)
zero-cell z h = same_bits z (pos 0) (record { sfits = h }) (record { sfits = omega arith })

pub zero-word : (z : ℤ) → mag z < 2147483648 → of_z w32 z ≡ 0 → eq_z z (pos 0) ≡ true
zero-word z h e = sym (zero-cell z h) ∙ eq-eqb (of_z w32 z) 0 e

pub other-word : (z : ℤ) → mag z < 2147483648 → (of_z w32 z ≡ 0 → ⊥) → eq_z z (pos 0) ≡ false
other-word z h e = sym (zero-cell z h) ∙ ne_eqb (of_z w32 z) 0 e

-- words other than 0 are counted
module _ (j : ℕ) (ws : List ℤ) (h : j < length ws) (word : mag (get_or ws j (pos 0)) < 2147483648) where
  next : all_zero (take (j + 1) ws) ≡ (all_zero (take j ws) && eq_z (get_or ws j (pos 0)) (pos 0))
  next = rw add-one (zero_more j ws h)

  module _ (n m : ℕ) where
    pub others-more : (of_z w32 (get_or ws j (pos 0)) ≡ 0 → ⊥) → m ≡ n + 1 → eqb m 0 ≡ all_zero (take (j + 1) ws)
    others-more f q = ne_eqb m 0 (λ z. omega arith) ∙ sym (next ∙ rw (other-word (get_or ws j (pos 0)) word f, and-false (all_zero (take j ws))))

    pub others_same : of_z w32 (get_or ws j (pos 0)) ≡ 0 → m ≡ n → eqb n 0 ≡ all_zero (take j ws) → eqb m 0 ≡ all_zero (take (j + 1) ws)
    others_same z q r = ap (λ (k : ℕ). eqb k 0) q ∙ r ∙ sym (next ∙ rw (zero-word (get_or ws j (pos 0)) word z, and-true (all_zero (take j ws))))
