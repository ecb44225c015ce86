-- A table whose numbers are right.
use Prim.Native.Nat.{ℕ, ◌*◌, ◌≤◌, ◌<◌}
use mathlib.Core.Path.{◌≡◌}
use mathlib.Core.Bool.{true}
use mathlib.Core.List.{List}
use lib.IntN.{ℤ}
use lib.ListN.{length}
use Rattle.language.specs.Table.{numbers_right}
use Rattle.laws.specs.Tables.{group_at}
use Rattle.table_laws.specs.Rightness.{numbers-means}
use Rattle.table_places.specs.Places.{Natural}
use Rattle.table_places.proofs.Naturals.{from_one}

-- the group of a pair in use, as a natural number
pub group-natural : (n : ℕ) (ws : List ℤ) → 2 * n ≤ length ws → numbers_right n ws ≡ true → (j : ℕ) → j < n → Natural (group_at j ws)
group-natural n ws h e j b = (from_one (group_at j ws) (numbers-means n ws h e j b).0).0
