-- The number of the name in each field of a script, laid out as the resolved script is: where that has a name's word, here stands the name's number; 0
-- in every other field, and in a formal's own record. The number of the looked-up name stands in each block's BK.
use Rattle.std.specs.Prelude.{ℕ, List, []}
use Rattle.language.specs.Text.{Action, Block}
use Rattle.coordinates.specs.Enclosure.{Enclosure}
use Rattle.f_search.specs.Numbers.{number_of}
use Rattle.resolve_fields.specs.Walk.{Words, action_words, block_words}

-- an IF's label comes first, as in the resolved script
unfoldable pub numbered_action : Enclosure → Action → List ℕ
numbered_action es = action_words (λ v l. (l, v)) (number_of es)

-- `name` is the looked-up name
abbrev pub number_words : ℕ → Words
number_words name = record { word = number_of; action = numbered_action; looked-up = λ es. number_of es name }

unfoldable pub numbered_of : ℕ → Block → List ℕ
numbered_of name t = block_words (number_words name) t [] []
