-- A copy, by the engine's arrays and numbers.
use Rattle.std.specs.Prelude.{ℕ, List}
use Rattle.copy_statements.specs.Doing.{Copy}

abbrev pub copy_by : List ℕ → ℕ → List ℕ → List ℕ → List ℕ → Copy
copy_by area base firsts starts targets = record { area = area; base = base; firsts = firsts; starts = starts; targets = targets }
