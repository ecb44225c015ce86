use Rattle.table_distinct.proofs.Words.{cast-word, cast-below}
use Rattle.table_distinct.proofs.word.Goals as goal

pub overflow_cast-result : goal.overflow_cast-result
overflow_cast-result c = cast-word c.args.number c.ranges.number.sfits c.requires

pub returns-clause-upper_bound : goal.returns-clause-upper_bound
returns-clause-upper_bound c = cast-below c.args.number c.ranges.number.sfits c.requires
