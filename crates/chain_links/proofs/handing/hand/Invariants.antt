-- The cells below the arguments are as they were, and setting the arguments from this one on gives what setting all gives.
use Rattle.std.proofs.Common.{◌-◌, ◌≤◌}
use Rattle.chain_links.proofs.Handed.{SameBelow, set_from, Handed}
use Rattle.chain_links.proofs.handing.hand.Given as goal

abbrev pub invariant-loop-field : goal.invariant-loop-field
invariant-loop-field l = record {
  low : 3 ≤ l.field;
  high : l.field ≤ l.last;
  kept : SameBelow l.fn.cells l.here l.cells;
  same : Handed l.code l.fn.cells l.records l.here l.last (set_from l.code l.fn.cells l.records l.here l.last l.cells (l.field - 3));
}
