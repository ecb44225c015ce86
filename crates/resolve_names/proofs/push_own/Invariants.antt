use Rattle.resolve_names.proofs.Declarations.{Owning}
use Rattle.resolve_names.proofs.push_own.Given as goal

abbrev pub invariant-loop-i : goal.invariant-loop-i
invariant-loop-i l = Owning l.script l.starts l.initial.entries l.entries l.at l.count l.d l.base l.level l.i
