use Rattle.std.proofs.Common.{ℕ, ◌<◌, ◌≤◌, true}
use Rattle.table_keys.specs.Keys.{rank_at}
use Rattle.table_hash.specs.Hashes.{class_at}
use Rattle.table_once.proofs.classes_differ.Given as goal

-- the pairs of the classes passed differ from all before them
abbrev pub invariant-loop-class : goal.invariant-loop-class
invariant-loop-class l =
    record {
      some : 0 < l.classes;
      few : (j : ℕ) → j < l.count → class_at true l.table l.classes j < l.class → rank_at true j l.table ≤ 1;
    }
