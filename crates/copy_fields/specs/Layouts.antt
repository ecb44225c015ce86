-- The words of the names are laid out as the script's fields are.
use Rattle.std.specs.Prelude.{◌≡◌, length}
use Rattle.language.specs.Text.{Action}
use Rattle.language.specs.Encoding.{action_fields}
use Rattle.coordinates.specs.Enclosure.{Enclosure}
use Rattle.resolved.specs.Resolved.{name_word}
use Rattle.resolve_fields.specs.Layout.{Layout}
use Rattle.resolve_fields.specs.Walk.{action-words-length, words_layout}
use Rattle.copy_fields.specs.NameFields.{named_action, name_words}

pub action-length : (es : Enclosure) (a : Action) → length (named_action es a) ≡ length (action_fields a)
unfolding named_action
action-length es a = action-words-length (λ v l. (v, l)) (name_word es) a

abbrev pub named_layout : Layout
named_layout = words_layout name_words action-length
