use Rattle.std.proofs.Common.{arith}
use Rattle.table_moves.proofs.TakeOut.{take_out-past, take_out-written}
use Rattle.table_moves.proofs.take_out.Goals as goal

pub returns-then-end-place : goal.returns-then-end-place
returns-then-end-place c = take_out-past c.args.place c.args.count c.args.table.now (omega (arith, c.words_in-end.ensures))

pub returns : goal.returns
returns c =
    rw c.copy_within.ensures.after
    (take_out-written c.args.place c.args.count c.words_in-end.result c.args.table.now c.words_in-end.ensures (omega arith))
