-- A right table and its list: from the tests that the code made to the definition.
use Prim.Native.Nat.{ℕ, ◌*◌, ◌/◌, ◌%◌, ◌<◌, ◌≤◌}
use mathlib.Core.Path.{◌≡◌, refl, sym}
use mathlib.Core.Bool.{Bool, true, false, ◌&&◌}
use mathlib.Core.List.{List}
use native.Mathlib.Omega.{arith}
use borrow.Author.Tests.{ne_eqb, eq-eqb, le-leb, lt-leb}
use lib.IntN.{ℤ}
use lib.ListN.{length}
use Rattle.language.specs.Table.{numbers_right, groups_within, right}
use Rattle.table_pairs.specs.Outcomes.{table_of}
use Rattle.table_keys.specs.Keys.{within}
use Rattle.table_test.proofs.Rules.{twice-within}

module _ (limit : ℕ) (ws : List ℤ) (n : ℕ) (listed : Bool) where
  pub right-odd : (length ws % 2 ≡ 0 → ⊥) → false ≡ (right limit (table_of ws n) && listed)
  unfolding right
  right-odd h = rw (ne_eqb (length ws % 2) 0 h)

  pub right-short : length ws % 2 ≡ 0 → length ws / 2 < n → false ≡ (right limit (table_of ws n) && listed)
  unfolding right
  right-short e h = rw (eq-eqb (length ws % 2) 0 e, lt-leb (2 * n) (length ws) (omega arith))

  -- what is left to be tested once the length is even and the count fits
  module _ (e : length ws % 2 ≡ 0) (h : n ≤ length ws / 2) where
    pub fits-here : 2 * n ≤ length ws
    fits-here = omega arith

    right_is : (right limit (table_of ws n) && listed) ≡ (numbers_right n ws && within true 1 n ws && groups_within limit (table_of ws n) n ws && listed)
    unfolding right
    right_is = rw (eq-eqb (length ws % 2) 0 e, le-leb (2 * n) (length ws) fits-here, twice-within ws n fits-here)

    pub numbers-wrong : numbers_right n ws ≡ false → false ≡ (right limit (table_of ws n) && listed)
    numbers-wrong p = rw (right_is, p)

    pub pair-twice : numbers_right n ws ≡ true → within true 1 n ws ≡ false → false ≡ (right limit (table_of ws n) && listed)
    pair-twice p q = rw (right_is, p, q)

    pub by-list : numbers_right n ws ≡ true → within true 1 n ws ≡ true → (groups_within limit (table_of ws n) n ws && listed) ≡ (right limit (table_of ws n) && listed)
    by-list p q = sym (rw (right_is, p, q) refl)
