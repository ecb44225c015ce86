-- `check_extents::ends::fill` and `over` call each other. What is unread falls; at one offset, `over` calls `fill`.
use Rattle.std.proofs.Common.{◌+◌, ◌-◌, ◌*◌, ◌≤◌, length}
use Rattle.laws.specs.Fields.{FieldsStand}
use Rattle.check_extents.specs.Items.{Item, item_fields}
use Rattle.check_extents.specs.Passing.{Left, Ends}
use Rattle.check_extents.proofs.ends.+fill_over.Given as goal

abbrev pub decreases-fill : goal.decreases-fill
decreases-fill l = 2 * (length l.script.now - l.at)

abbrev pub decreases-over : goal.decreases-over
decreases-over l = 2 * (length l.script.now - l.at) + 1

abbrev pub invariant-fill-loop-pending : goal.invariant-fill-loop-pending
invariant-fill-loop-pending l =
    (l.at + 2 ≤ l.here) × (l.here ≤ length l.script + 131076) × (l.pending ≤ 131070 * l.here)
    × ((x : Item) → FieldsStand l.script l.at (item_fields x) → Left l.script l.at l.here l.pending x)
    × Ends l.script l.ends

abbrev pub decreases-fill-loop-pending : goal.decreases-fill-loop-pending
decreases-fill-loop-pending l = length l.script - l.here
