-- Each member's measure: the bytes unread, eight for each, and among those at one place who calls whom. Assumes nothing.
use Prim.Native.Nat.{ℕ, ◌+◌, ◌*◌, ◌-◌}
use mathlib.Core.List.{List}
use lib.ListN.{length}
use Rattle.check_marks.specs.declared.Mark.{Mark}

abbrev pub block_size : List ℕ → List ℕ → ℕ → ℕ → ℕ → ℕ → ℕ → ℕ → ℕ
block_size script names at next d s held left = 8 * (length script - next) + 2

abbrev pub body_size : List ℕ → List ℕ → Mark → ℕ → ℕ → ℕ → ℕ
body_size script names mark start p below = 8 * (length script - start)

abbrev pub declarations_size : List ℕ → List ℕ → ℕ → ℕ → ℕ → ℕ → ℕ → ℕ
declarations_size script names at d s held below = 8 * (length script - at) + 1

abbrev pub statement_size : List ℕ → List ℕ → Mark → ℕ → ℕ → ℕ → ℕ → ℕ → ℕ
statement_size script names mark at next f0 f1 below = 8 * (length script - next) + 3

abbrev pub statements_size : List ℕ → List ℕ → ℕ → ℕ → ℕ → ℕ
statements_size script names at s below = 8 * (length script - at) + 1
