use Rattle.language.specs.Numbers.{answer_words}
use Rattle.call_answers.proofs.write_answer.Goals as goal

pub returns : goal.returns
unfolding answer_words
returns c = rw (c.end_number.ensures, c.cause_number.ensures)
