-- The word of the name in each field of a script, used or declared; 0 in every other field. A word's level says which block of the text around it
-- declares the name. A formal's own record has none: it stands before the block that the formal belongs to, and no copy changes it.
use Rattle.std.specs.Prelude.{ℕ, List, []}
use Rattle.language.specs.Text.{Action, Block}
use Rattle.coordinates.specs.Enclosure.{Enclosure}
use Rattle.resolved.specs.Resolved.{name_word}
use Rattle.resolve_fields.specs.Walk.{Words, action_words, block_words}

-- as in the script
unfoldable pub named_action : Enclosure → Action → List ℕ
named_action es = action_words (λ v l. (v, l)) (name_word es)

-- no name is looked up
abbrev pub name_words : Words
name_words = record { word = name_word; action = named_action; looked-up = λ es. 0 }

unfoldable pub named_of : Block → List ℕ
named_of t = block_words name_words t [] []
