-- The numbers other than 0 among those passed are counted.
use Rattle.std.proofs.Common.{◌≡◌, ℕ, ◌<◌, ◌≤◌, get_or}
use Rattle.table_lefts.specs.Lefts.{SomeLeft}
use Rattle.table_lefts.proofs.none_left.Given as goal

abbrev pub invariant-loop-left : goal.invariant-loop-left
invariant-loop-left l =
    record {
      few : l.others ≤ l.left-index;
      none : l.others ≡ 0 → (q : ℕ) → q < l.left-index → get_or l.lefts q 0 ≡ 0;
      some : (l.others ≡ 0 → ⊥) → SomeLeft l.lefts l.left-index;
    }
