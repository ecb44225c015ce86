-- What reading a list of groups comes to, with no look at the table.
use Rattle.std.specs.Prelude.{ℕ, suc, ◌+◌, ◌*◌, ◌-◌, ◌/◌, ◌≤◌, ◌<◌, ◌≡◌, Bool, true, false, not, ◌&&◌, List, [], ◌∷◌, eqb, leb, ltb, ℤ, pos, nat_abs, length, Option, Some, None}
use Rattle.std.specs.Int.Signed.{non_neg}
use Rattle.language.specs.Basics.{eq_z}
use Rattle.language.specs.Table.{at_least_one}
use Rattle.laws.specs.Tables.{group_at, member_at}

abbrev pub Natural : ℤ → Type 0
Natural z = non_neg z ≡ true

abbrev pub places_in : List ℤ → ℕ
places_in ws = length ws / 2

-- group and number of place p, where they are not negative
abbrev pub group_in : List ℤ → ℕ → ℕ
group_in ws p = nat_abs (group_at p ws)

abbrev pub number_in : List ℤ → ℕ → ℕ
number_in ws p = nat_abs (member_at p ws)

-- n places whose numbers are not negative, with groups that rise
pub record Rising (n : ℕ) (ws : List ℤ) : Type 0 where
  pub words : 2 * n ≤ length ws
  pub groups : (p : ℕ) → p < n → Natural (group_at p ws)
  pub numbers : (p : ℕ) → p < n → Natural (member_at p ws)
  pub rises : (p q : ℕ) → p < q → q < n → group_in ws p < group_in ws q

unfoldable pub all_zero : List ℤ → Bool
all_zero [] = true
all_zero (a ∷ ws) = eq_z a (pos 0) && all_zero ws

-- the list has a place at k, and its group is not 0
unfoldable pub stands_at : ℕ → List ℤ → Bool
stands_at k ws = ltb (2 * k + 1) (length ws) && not (eq_z (group_at k ws) (pos 0))

-- a place that may come after one of group `last`, where `left` pairs are to be counted yet
unfoldable pub place_fits : ℕ → ℕ → ℕ → ℤ → ℤ → Bool
place_fits limit last left a n = (at_least_one a && at_least_one n) && (ltb last (nat_abs a) && (leb (nat_abs n) limit && leb (nat_abs n) left))

-- k places were read, and no further one stands there
-- how many places are in use, or that the list is wrong whatever the table holds
abbrev pub Places : Type 0
Places = Option ℕ

unfoldable pub ended : ℕ → ℕ → List ℤ → Places
ended left k ws = elim (eqb left 0 && all_zero ws) [ true ↦ Some k | false ↦ None ]

unfoldable pub read_places : ℕ → ℕ → ℕ → ℕ → List ℤ → Places
read_places limit last left k [] = ended left k []
read_places limit last left k (a ∷ []) = ended left k (a ∷ [])
read_places limit last left k (a ∷ n ∷ ws) =
    elim (eq_z a (pos 0)) [
      | true ↦ ended left k (a ∷ n ∷ ws)
      | false ↦ elim (place_fits limit last left a n) [
        | true ↦ read_places limit (nat_abs a) (left - nat_abs n) (suc k) ws
        | false ↦ None
      ]
    ]
