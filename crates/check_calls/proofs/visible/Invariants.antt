use Rattle.std.proofs.Common.{drop}
use Rattle.check_calls.proofs.Calls.{Seeing}
use Rattle.check_calls.proofs.visible.Given as goal

abbrev pub invariant-loop-i : goal.invariant-loop-i
invariant-loop-i l = Seeing l.scope.script.now (drop l.scope.top l.scope.entries.now) l.at l.count l.i
