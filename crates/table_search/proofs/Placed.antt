-- What a place that the code gives says of the definition's search.
use Rattle.std.specs.Prelude.{Some, None}
use Prim.Native.Nat.{ℕ}
use mathlib.Core.Path.{◌≡◌, refl, ap}
use mathlib.Core.Option.{Option, none, some}
use native.Mathlib.Omega.{arith}
use Rattle.std.specs.Option.{is_some}
use Rattle.language.specs.Table.{is_some as found}
use Rattle.table_search.specs.Places.{placed}

pub placed_at : (r : Option ℕ) (i : ℕ) → placed r ≡ Some i → r ≡ some i
unfolding placed
placed_at none i e = absurd (let z : ◌≡◌ {A = ℕ} 0 1 = cc in omega arith)
placed_at (some j) i e = let z : j ≡ i = cc in ap some z

pub placed-absent : (r : Option ℕ) → placed r ≡ None → r ≡ none
unfolding placed
placed-absent none e = refl
placed-absent (some j) e = absurd (let z : ◌≡◌ {A = ℕ} 0 1 = cc in omega arith)

pub placed-is_some : (r : Option ℕ) → is_some (placed r) ≡ found r
unfolding placed found
placed-is_some none = refl
placed-is_some (some i) = refl
