use Rattle.std.proofs.Common.{drop}
use Rattle.check_calls.proofs.Calls.{Matching}
use Rattle.check_calls.proofs.matching.Given as goal

abbrev pub invariant-loop-i : goal.invariant-loop-i
invariant-loop-i l = Matching l.scope.script.now (drop l.scope.top l.scope.entries.now) l.at l.formals l.count l.i
