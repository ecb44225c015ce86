-- One link more is found.
use Rattle.std.proofs.Common.{rules}
use Rattle.search_links.proofs.Steps.{begun, placed, one_more, all_found}
use Rattle.search_links.proofs.find_links.Goals as goal

pub loop-k-init : goal.loop-k-init
loop-k-init c = begun _ _ _ _ _ c.requires.1

pub link_of-requires : goal.link_of-requires
link_of-requires c = placed c.loop-k.invariant c.requires.0 c.loop-k-test.true

pub bounds-links-k : goal.bounds-links-k
bounds-links-k c = let h = (c.requires.0 c.loop-k.k c.loop-k-test.true).few in search rules

pub loop-k-preserved : goal.loop-k-preserved
loop-k-preserved c = one_more c.loop-k.invariant c.loop-k-test.true ((c.requires.0 c.loop-k.k c.loop-k-test.true).few) c.link_of.ensures.0

pub returns : goal.returns
returns c = all_found c.loop-k.invariant c.loop-k-test.false
