-- The words of the script's block are those of the names. Assumes nothing.
use Rattle.resolve_fields.specs.Walk.{words_layout}
use Rattle.copy_fields.specs.NameFields.{named_of}
use Rattle.copy_fields.proofs.name_fields.Goals as goal

pub returns-clause-noted : goal.returns-clause-noted
unfolding words_layout named_of
returns-clause-noted c = c.write_words.ensures.written
