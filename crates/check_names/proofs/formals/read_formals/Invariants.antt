-- The formals done, whose names are held, come before those that are left; the names before the base are as they were.
use Rattle.std.proofs.Common.{◌≡◌, take}
use Rattle.check_names.proofs.FormalLaws.{SoFar}
use Rattle.check_names.proofs.formals.read_formals.Given as goal

abbrev pub invariant-loop-i : goal.invariant-loop-i
invariant-loop-i l = record {
  same_script : l.reader.script.now ≡ l.script;
  kept : take l.base l.names ≡ take l.base l.initial.names;
  so_far : SoFar l.script l.p l.at l.base l.names l.reader.at l.i;
}
