-- An activation is asked, and the search goes on from its record, or ends at the program's.
use Rattle.std.proofs.Common.{arith}
use Rattle.search_names.proofs.Steps.{found, onward, at_last}
use Rattle.search_names.proofs.seek.Goals as goal

pub returns-then-from-number : goal.returns-then-from-number
returns-then-from-number c = found _ _ _ _ _ c.loop-k.invariant c.loop-k-test.true (omega arith)

pub loop-k-preserved : goal.loop-k-preserved
loop-k-preserved c =
    onward _ _ _ _ _ c.loop-k.invariant c.requires c.loop-k-test.true c.from.ensures c.if-from-number.false c.from-k.ensures

pub returns : goal.returns
returns c = at_last _ _ _ _ _ c.loop-k.invariant c.loop-k-test.false
