-- The names of a call, and the kinds of its arguments.
use Rattle.std.specs.Prelude.{ℕ, ◌+◌, List, map}
use Rattle.std.proofs.Math.Option.{Option}
use Rattle.language.specs.Text.{Kind, Action, CL}
use Rattle.language.specs.Scope.{kind_in}
use Rattle.laws.specs.Fields.{field_at, fields_at}
use Rattle.check_uses.specs.Meanings.{scope_from}

-- so many argument names of the CL at an offset
abbrev pub names_at : List ℕ → ℕ → ℕ → List ℕ
names_at bs at count = fields_at bs (at + 6) count

-- the kinds of so many arguments of the CL at an offset
abbrev pub arguments_at : List ℕ → List ℕ → ℕ → ℕ → ℕ → List (Option Kind)
arguments_at bs es top at count = map (kind_in (scope_from bs es top)) (names_at bs at count)

-- the CL at an offset
abbrev pub call_at : List ℕ → ℕ → Action
call_at bs at = CL (field_at bs (at + 2)) (names_at bs at (field_at bs (at + 4)))
