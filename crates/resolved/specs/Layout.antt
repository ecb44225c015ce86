-- The parts of a statement's first word, of a block's first two words, of a cell's number and of what a formal's cell holds. Those of a name's word stand in `Resolved`.
use Rattle.std.specs.Prelude.{ℕ, ◌+◌, ◌*◌, ◌/◌, ◌%◌}

abbrev pub operation_in : ℕ → ℕ
operation_in w = w % 16

abbrev pub formals_in : ℕ → ℕ
formals_in head = head / 65536 % 256

abbrev pub names_in : ℕ → ℕ
names_in head = head / 16777216

abbrev pub end_in : ℕ → ℕ
end_in bounds = bounds % 65536

abbrev pub first_in : ℕ → ℕ
first_in bounds = bounds / 65536

-- a block's first two words from their parts
abbrev pub head_from : ℕ → ℕ → ℕ → ℕ
head_from level formals names = 6 + 256 * level + 65536 * formals + 16777216 * names

abbrev pub bounds_from : ℕ → ℕ → ℕ
bounds_from end first = end + 65536 * first

-- a cell among all cells: its activation and its place there
abbrev pub cell_from : ℕ → ℕ → ℕ
cell_from activation position = 32 * activation + position

abbrev pub activation_in : ℕ → ℕ
activation_in cell = cell / 32

-- what a formal's cell holds: the cell of the name handed over, and what that name leads to
abbrev pub held_from : ℕ → ℕ → ℕ
held_from cell target = cell + 8192 * target

abbrev pub cell_in : ℕ → ℕ
cell_in held = held % 8192

abbrev pub lead_in : ℕ → ℕ
lead_in held = held / 8192
