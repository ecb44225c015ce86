-- The walk is at the place of the number that it counts.
use Rattle.std.proofs.Common.{◌≡◌, ℕ, ◌+◌, ◌-◌, ◌≤◌}
use Rattle.run_sheet.specs.Shown.{Counts}
use Rattle.run_sheet.proofs.number_of.Given as goal

abbrev pub invariant-loop-at : goal.invariant-loop-at
invariant-loop-at l = record {
  from_one : 1 ≤ l.number;
  few : l.number ≤ l.at + 1;
  here : (n : ℕ) (h : Counts l.code l.block l.next n) → (l.number ≤ n) × (l.at ≡ h.places l.number);
}

abbrev pub decreases-loop-at : goal.decreases-loop-at
decreases-loop-at l = l.next - l.at
