-- What the pass over a script's records does that writes the words of the names, taken from the resolved script.
use Rattle.std.specs.Prelude.{ℕ, ◌+◌, ◌/◌, List, ◌≡◌, get_or, set}
use Rattle.language.specs.Text.{Formal, Block}
use Rattle.language.specs.Check.{accepted, check}
use Rattle.coordinates.specs.Enclosure.{Enclosure}
use Rattle.resolved.specs.Resolved.{resolved_of, Covers}
use Rattle.laws.specs.Fields.{FieldsStand}
use Rattle.check_extents.specs.Items.{Item, head_fields}
use Rattle.resolve_words.specs.Growth.{Grown}
use Rattle.resolve_fields.specs.Layouts.{resolved_layout}
use Rattle.resolve_fields.specs.Parts.{own_words}
use Rattle.copy_fields.specs.NameFields.{named_of}
use Rattle.copy_fields.specs.Layouts.{named_layout}

-- two words in the other order
unfoldable pub crossed : List ℕ → List ℕ → ℕ → List ℕ
crossed code names from = set (set names from (get_or code (from + 1) 0)) (from + 1) (get_or code from 0)

-- a record's own words are written where those of the resolved script stand
abbrev pub Noted : List ℕ → List ℕ → ℕ → List ℕ → List ℕ → Type 0
Noted bs code at names names' =
    (name : ℕ) (x : Item) (fs : List Formal) (es : Enclosure) → FieldsStand bs at (head_fields x) → Covers code (at / 2) (own_words (resolved_layout name) x fs es)
    → Grown names names' at (own_words named_layout x fs es)

-- the words of the names of an accepted script, from its resolved script
abbrev pub NamesStand : List ℕ → List ℕ → List ℕ → Type 0
NamesStand bs code names = (t : Block) (name : ℕ) → check bs ≡ accepted t → Covers code 0 (resolved_of name t) → Covers names 0 (named_of t)
