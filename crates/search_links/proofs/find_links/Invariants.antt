use Rattle.search_links.proofs.Steps.{Finding}
use Rattle.search_links.proofs.find_links.Given as goal

abbrev pub invariant-loop-k : goal.invariant-loop-k
invariant-loop-k l = Finding l.code l.blocks l.froms l.live l.initial.links l.k l.links
