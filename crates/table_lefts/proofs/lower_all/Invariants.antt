-- What is left and what the pairs passed have taken are the numbers.
use Rattle.std.proofs.Common.{◌≡◌, length}
use Rattle.table_lefts.specs.Lefts.{LeftsAre}
use Rattle.table_lefts.proofs.lower_all.Given as goal

abbrev pub invariant-loop-i : goal.invariant-loop-i
invariant-loop-i l = record { long : length l.lefts ≡ length l.fn.lefts; are : LeftsAre l.table l.i l.places l.lefts }
