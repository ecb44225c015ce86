-- Above level l the display is right, up to l it is the old one, and a is the activation of level l.
use Rattle.std.proofs.Common.{◌≡◌, suc, length}
use Rattle.arrays.specs.Displays.{Restoring}
use Rattle.display_moves.specs.Running.{Restorable}
use Rattle.display_moves.proofs.restore.Given as goal

abbrev pub invariant-loop-l : goal.invariant-loop-l
invariant-loop-l l = record {
  right : (w : Restorable l.links l.fn.display l.activation l.level l.sure) → Restoring w.frames w.old (suc l.activation) l.display l.a l.l;
  long : length l.display ≡ length l.fn.display;
}

abbrev pub decreases-loop-l : goal.decreases-loop-l
decreases-loop-l l = l.l
