use Rattle.search_links.proofs.Steps.{Asking}
use Rattle.search_links.proofs.shallower.Given as goal

abbrev pub invariant-loop-k : goal.invariant-loop-k
invariant-loop-k l = Asking l.code l.blocks l.froms l.from l.level l.k

abbrev pub decreases-loop-k : goal.decreases-loop-k
decreases-loop-k l = l.k
