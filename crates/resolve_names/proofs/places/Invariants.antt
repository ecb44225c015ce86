use Rattle.resolve_names.proofs.Starting.{Starting}
use Rattle.resolve_names.proofs.places.Given as goal

abbrev pub invariant-loop-i : goal.invariant-loop-i
invariant-loop-i l = Starting l.script l.initial.starts l.starts l.ends l.at l.here l.i l.count l.base
