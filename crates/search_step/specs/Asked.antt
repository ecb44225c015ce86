-- A statement's names by the search: what its function asks of them, and what it does by any way of finding names that has the first cells found.
use Rattle.std.specs.Prelude.{ℕ, ◌+◌, ◌≤◌, List, ◌≡◌, ℤ}
use Rattle.run_moves.specs.Acting.{Finding}
use Rattle.steps.specs.Finding.{by_first}
use Rattle.run_cells.specs.Calling.{word_after}
use Rattle.search_names.specs.Seeking.{first_at, Falls}

module _ (code numbers blocks froms : List ℕ) (live : ℕ) (cells : List ℤ) (at : ℕ) where
  -- so much of the name in a field
  abbrev pub Name : (List ℤ → ℕ → ℕ → Type 0) → ℕ → Type 0
  Name P i = P cells (first_at numbers blocks froms live (at + i)) (word_after code at i)

  -- a statement of so many words with a name in its first field
  abbrev pub OneName : (List ℤ → ℕ → ℕ → Type 0) → ℕ → Type 0
  OneName P n = Falls froms live × (at + n ≤ 4096) × Name P 1

  abbrev pub TwoNames : (List ℤ → ℕ → ℕ → Type 0) → Type 0
  TwoNames P = Falls froms live × (at + 3 ≤ 4096) × Name P 1 × Name P 2

  abbrev pub ThreeNames : (List ℤ → ℕ → ℕ → Type 0) → Type 0
  ThreeNames P = Falls froms live × (at + 4 ≤ 4096) × Name P 1 × Name P 2 × Name P 3

  abbrev pub Operands : (List ℤ → ℕ → ℕ → Type 0) → Type 0
  Operands P = Falls froms live × (at + 5 ≤ 4096) × Name P 1 × Name P 3 × Name P 4

  -- the name in a field is found so
  abbrev pub Found : (ℕ → ℕ) → ℕ → Type 0
  Found first_of i = first_at numbers blocks froms live (at + i) ≡ first_of (word_after code at i)

  abbrev pub ByOne : (Finding → Type 0) → Type 0
  ByOne Q = (first_of : ℕ → ℕ) → Found first_of 1 → Q (by_first cells first_of)

  abbrev pub ByTwo : (Finding → Type 0) → Type 0
  ByTwo Q = (first_of : ℕ → ℕ) → Found first_of 1 → Found first_of 2 → Q (by_first cells first_of)

  abbrev pub ByThree : (Finding → Type 0) → Type 0
  ByThree Q = (first_of : ℕ → ℕ) → Found first_of 1 → Found first_of 2 → Found first_of 3 → Q (by_first cells first_of)

  abbrev pub ByOperands : (Finding → Type 0) → Type 0
  ByOperands Q = (first_of : ℕ → ℕ) → Found first_of 1 → Found first_of 3 → Found first_of 4 → Q (by_first cells first_of)
