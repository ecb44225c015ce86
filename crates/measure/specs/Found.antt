-- A place as a number.
use Rattle.std.specs.Prelude.{ℕ}
use Rattle.std.proofs.Math.Option.{Option, none, some}

unfoldable pub place_or : ℕ → Option ℕ → ℕ
place_or other none = other
place_or other (some i) = i
