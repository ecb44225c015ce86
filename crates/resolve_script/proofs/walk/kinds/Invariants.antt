use Rattle.resolve_script.proofs.Listing.{Kinding}
use Rattle.resolve_script.proofs.walk.kinds.Given as goal

abbrev pub invariant-loop-i : goal.invariant-loop-i
invariant-loop-i l = Kinding l.script l.initial.code l.code l.at l.i l.count
