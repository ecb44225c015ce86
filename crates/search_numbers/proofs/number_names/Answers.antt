-- The words of the script's block are the numbers of the names. Assumes nothing.
use Rattle.resolve_fields.specs.Walk.{words_layout}
use Rattle.search_numbers.specs.NumberFields.{numbered_of}
use Rattle.search_numbers.proofs.number_names.Goals as goal

pub returns-clause-numbered : goal.returns-clause-numbered
unfolding words_layout numbered_of
returns-clause-numbered c = c.write_words.ensures.written
