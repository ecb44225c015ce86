-- The names of a block in an array of names: so many from a base on.
use Rattle.std.specs.Prelude.{ℕ, ◌≡◌, List, take, drop}
use Rattle.language.specs.Text.{Formal, formal_names}
use Rattle.language.specs.Structure.{Reading as Outcome, read, refuse}

unfoldable pub names_at : List ℕ → ℕ → ℕ → List ℕ
names_at ns base count = take count (drop base ns)

-- the names that the formals read have
abbrev pub NamesOf : Outcome (List Formal) → List ℕ → Type 0
NamesOf (read ps at ws) ns = ns ≡ formal_names ps
NamesOf (refuse c o) ns = Unit {0}
