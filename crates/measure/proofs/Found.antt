-- From the place that the search gave to the number that the definition has.
use Rattle.std.specs.Prelude.{ℕ, ◌≡◌}
use Rattle.std.proofs.Common.{refl}
use Rattle.std.proofs.Math.Option.{Option, none, some}
use Rattle.std.specs.Option.{unwrap_or}
use Rattle.table_search.specs.Places.{placed}
use Rattle.measure.specs.Found.{place_or}

pub placed-unwrap_or : (other : ℕ) (r : Option ℕ) → unwrap_or (placed r) other ≡ place_or other r
unfolding placed place_or
placed-unwrap_or other none = refl
placed-unwrap_or other (some i) = refl
