-- There are fewer places at each call of itself.
use Rattle.std.proofs.Common.{length}
use Rattle.table_windows.proofs.+exact_windows.Given as goal

abbrev pub decreases-exact_windows : goal.decreases-exact_windows
decreases-exact_windows l = length l.places.now
