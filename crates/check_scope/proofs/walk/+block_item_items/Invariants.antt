-- `check_scope::walk::block`, `item` and `items` call each other. What is unread falls; between them at one offset, `items` calls `item`, and
-- `item` calls `block`.
use Rattle.std.proofs.Common.{◌+◌, ◌*◌, ◌-◌, length}
use Rattle.check_scope.proofs.Walking.{Walking}
use Rattle.check_scope.proofs.walk.+block_item_items.Given as goal

abbrev pub decreases-block : goal.decreases-block
decreases-block l = 3 * (length l.script.now - (l.at + 6 * l.count))

abbrev pub decreases-item : goal.decreases-item
decreases-item l = 3 * (length l.script.now - l.at) + 1

abbrev pub decreases-items : goal.decreases-items
decreases-items l = 3 * (length l.script.now - l.at) + 2

abbrev pub invariant-items-loop : goal.invariant-items-loop
invariant-items-loop l = Walking l.script l.initial.entries l.entries l.ends l.at l.here l.counter l.count l.top
