-- What the pass over a script's records does that writes the numbers of the names.
use Rattle.std.specs.Prelude.{ℕ, List, ◌≡◌}
use Rattle.language.specs.Text.{Block}
use Rattle.language.specs.Check.{accepted, check}
use Rattle.resolved.specs.Resolved.{resolved_of, Covers}
use Rattle.resolve_fields.specs.Noting as noting
use Rattle.search_numbers.specs.NumberFields.{numbered_of}
use Rattle.search_numbers.specs.Layouts.{numbered_layout}
use Rattle.search_numbers.specs.Around.{Ahead}

-- a record's own numbers are written, and the block that it begins is noted
abbrev pub Noted : List ℕ → List ℕ → ℕ → List ℕ → List ℕ → List ℕ → List ℕ → Type 0
Noted bs code at around around' numbers numbers' = (name : ℕ) → noting.Noted (numbered_layout name) (Ahead around 16) (Ahead around' 16) bs code at numbers numbers' name

-- the numbers of the names of an accepted script, from its resolved script
abbrev pub NumbersStand : List ℕ → List ℕ → List ℕ → Type 0
NumbersStand bs code numbers = (t : Block) (name : ℕ) → check bs ≡ accepted t → Covers code 0 (resolved_of name t) → Covers numbers 0 (numbered_of name t)
