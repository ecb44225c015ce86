-- What is left from `i` on gives what the whole gives.
use Rattle.std.proofs.Common.{◌-◌, length}
use Rattle.check_symbols.specs.Entries.{Seeking}
use Rattle.check_symbols.proofs.find.Given as goal

abbrev pub invariant-loop-i : goal.invariant-loop-i
invariant-loop-i l = Seeking l.entries l.top l.name l.i

abbrev pub decreases-loop-i : goal.decreases-loop-i
decreases-loop-i l = length l.entries - l.i
