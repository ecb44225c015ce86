-- An activation is asked, and the search goes on further out, or ends at the program's.
use Rattle.std.proofs.Common.{arith}
use Rattle.search_links.proofs.Steps.{found, onward, below, heads, at_last}
use Rattle.search_links.proofs.shallower.Goals as goal

pub level_at-requires : goal.level_at-requires
level_at-requires c = heads _ _ _ _ _ _ c.loop-k.invariant c.requires

pub returns-then-level_at-level : goal.returns-then-level_at-level
returns-then-level_at-level c = found _ _ _ _ _ _ c.loop-k.invariant c.loop-k-test.true (omega arith)

pub onward-k-requires : goal.onward-k-requires
onward-k-requires c = (omega arith, (heads _ _ _ _ _ _ c.loop-k.invariant c.requires).0)

pub loop-k-smaller : goal.loop-k-smaller
loop-k-smaller c = below _ _ _ _ _ _ c.loop-k.invariant c.requires c.loop-k-test.true c.onward-k.ensures

pub loop-k-preserved : goal.loop-k-preserved
loop-k-preserved c = onward _ _ _ _ _ _ c.loop-k.invariant c.requires c.loop-k-test.true (omega arith) c.onward-k.ensures

pub returns : goal.returns
returns c = at_last _ _ _ _ _ _ c.loop-k.invariant c.loop-k-test.false
