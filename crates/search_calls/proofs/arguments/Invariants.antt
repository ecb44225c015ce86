-- Those still to come give all of them.
use Rattle.std.proofs.Common.{◌-◌}
use Rattle.search_calls.proofs.Handing.{Handing}
use Rattle.search_calls.proofs.arguments.Given as goal

abbrev pub invariant-loop-i : goal.invariant-loop-i
invariant-loop-i l = Handing l.code l.numbers l.blocks l.froms l.live l.fn.cells l.fn.passers l.at l.count l.cells l.passers l.i
