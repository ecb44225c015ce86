use Rattle.std.proofs.Common.{arith}
use Rattle.table_distinct.proofs.Once.{each_once, one_twice}
use Rattle.table_once.proofs.differ_by_reading.Goals as goal

pub returns-then-rank-gt1 : goal.returns-then-rank-gt1
returns-then-rank-gt1 c = one_twice c.args.table.now c.args.count c.loop-i.i (omega arith) (omega arith)

pub returns : goal.returns
returns c = each_once c.args.table.now c.args.count (λ j l. c.loop-i.invariant j (omega arith))
