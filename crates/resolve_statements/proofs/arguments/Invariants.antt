use lib.ListN.{drop}
use Rattle.resolve_statements.proofs.Statements.{Arguing}
use Rattle.resolve_statements.proofs.arguments.Given as goal

abbrev pub invariant-loop-i : goal.invariant-loop-i
invariant-loop-i l = Arguing l.scope.script.now (drop l.scope.top l.scope.entries.now) l.at l.count l.initial.code l.code l.i
