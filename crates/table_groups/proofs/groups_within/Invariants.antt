-- The place is between the two bounds.
use Rattle.std.proofs.Common.{ℕ, suc, ◌*◌, ◌-◌, ◌<◌, ◌≤◌, List, get_or, ℤ}
use Rattle.table_laws.specs.Listing.{Listing}
use Rattle.table_groups.specs.Standing.{place_in}
use Rattle.table_groups.proofs.groups_within.Given as goal

abbrev pub invariant-loop-from : goal.invariant-loop-from
invariant-loop-from l =
    (l.from ≤ l.to) × (l.to ≤ l.places) ×
    ((ps : List ℕ) (past : List ℤ) → Listing l.places ps past l.groups → (l.from ≤ place_in (suc l.bound) ps) × (place_in (suc l.bound) ps ≤ l.to)) ×
    ((ps : List ℕ) (past : List ℤ) → Listing l.places ps past l.groups → l.to < l.places → get_or ps (2 * l.to) 0 < 4294967296)

abbrev pub decreases-loop-from : goal.decreases-loop-from
decreases-loop-from l = l.to - l.from
