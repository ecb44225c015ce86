use Rattle.table_hash.proofs.Weights.{negative-weight, whole-weight}
use Rattle.table_hash.proofs.weight.Goals as goal

pub returns-then-number-lt0-clause-value : goal.returns-then-number-lt0-clause-value
returns-then-number-lt0-clause-value c = negative-weight c.args.number c.ranges.number.sfits c.if-number-lt0.true

pub returns-clause-value : goal.returns-clause-value
returns-clause-value c = whole-weight c.args.number c.ranges.number.sfits c.if-number-lt0.false
