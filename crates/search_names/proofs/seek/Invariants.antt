use Rattle.search_names.proofs.Steps.{Asking}
use Rattle.search_names.proofs.seek.Given as goal

abbrev pub invariant-loop-k : goal.invariant-loop-k
invariant-loop-k l = Asking l.blocks l.froms l.from l.number l.k

abbrev pub decreases-loop-k : goal.decreases-loop-k
decreases-loop-k l = l.k
