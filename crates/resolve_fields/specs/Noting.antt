-- One record of a pass over a script's records, which writes words laid out as the fields are. What the pass has to know of the records still to come,
-- the first of which stands at an offset, is a property of the two (`Ahead`), and each record hands it on.
use Rattle.std.specs.Prelude.{ℕ, ◌+◌, ◌*◌, ◌/◌, List, ◌∷◌, ◌++◌, length}
use Rattle.language.specs.Text.{Formal}
use Rattle.laws.specs.Fields.{FieldsStand}
use Rattle.coordinates.specs.Enclosure.{Enclosure}
use Rattle.resolved.specs.Resolved.{Covers}
use Rattle.check_extents.specs.Items.{Item, head_fields}
use Rattle.resolve_words.specs.Growth.{Grown}
use Rattle.resolve_fields.specs.Layout.{Layout}
use Rattle.resolve_fields.specs.Layouts.{resolved_layout}
use Rattle.resolve_fields.specs.Parts.{Part, placed, own_words, inside}

-- a record's own words are written where those of the resolved script stand; `name` is the looked-up name
abbrev pub Noted : Layout → (ℕ → List Part → Type 0) → (ℕ → List Part → Type 0) → List ℕ → List ℕ → ℕ → List ℕ → List ℕ → ℕ → Type 0
Noted l Ahead Ahead' bs code at words words' name =
    (x : Item) (fs : List Formal) (es : Enclosure) (ps : List Part) → Ahead at (placed fs es x ∷ ps) → FieldsStand bs at (head_fields x)
    → Covers code (at / 2) (own_words (resolved_layout name) x fs es)
    → Grown words words' at (own_words l x fs es) × Ahead' (at + 2 * length (head_fields x)) (inside x fs es ++ ps)
