-- The numbers of the names are laid out as the script's fields are.
use Rattle.std.specs.Prelude.{ℕ, ◌≡◌, length}
use Rattle.language.specs.Text.{Action}
use Rattle.language.specs.Encoding.{action_fields}
use Rattle.coordinates.specs.Enclosure.{Enclosure}
use Rattle.f_search.specs.Numbers.{number_of}
use Rattle.resolve_fields.specs.Layout.{Layout}
use Rattle.resolve_fields.specs.Walk.{action-words-length, words_layout}
use Rattle.search_numbers.specs.NumberFields.{numbered_action, number_words}

pub action-length : (es : Enclosure) (a : Action) → length (numbered_action es a) ≡ length (action_fields a)
unfolding numbered_action
action-length es a = action-words-length (λ v l. (l, v)) (number_of es) a

-- `name` is the looked-up name
abbrev pub numbered_layout : ℕ → Layout
numbered_layout name = words_layout (number_words name) action-length
