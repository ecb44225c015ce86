-- What is left of the table from `i` on gives what all of it gives.
use Rattle.std.proofs.Common.{◌≡◌, drop}
use Rattle.check_marks.proofs.Table.{fit_from}
use Rattle.check_marks.proofs.find_mark.Given as goal

abbrev pub invariant-loop-i : goal.invariant-loop-i
invariant-loop-i l = fit_from l.bit l.letters (drop l.i l.marks) ≡ fit_from l.bit l.letters l.marks
