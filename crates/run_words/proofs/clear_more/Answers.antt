use Rattle.std.proofs.Common.{arith}
use Rattle.run_words.proofs.Kept.{cleared-none, cleared-less, cleared_more}
use Rattle.run_words.proofs.clear_more.Goals as goal

pub loop-i-init : goal.loop-i-init
loop-i-init c = cleared-none c.args.cells.now c.args.from

pub loop-i-preserved : goal.loop-i-preserved
loop-i-preserved c = cleared_more c.args.cells.now c.loop-i.cells c.args.from c.loop-i.i (omega arith) c.loop-i.invariant

pub returns : goal.returns
returns c = cleared-less c.args.cells.now c.loop-i.cells c.args.from c.loop-i.i c.args.to (omega arith) c.loop-i.invariant
