-- Those still to come give all of them.
use Rattle.display_step.proofs.Statements.{Handing}
use Rattle.display_step.proofs.arms.arguments.Given as goal

abbrev pub invariant-loop-i : goal.invariant-loop-i
invariant-loop-i l = Handing l.code l.fn.cells l.display l.live l.at l.count l.cells l.i
