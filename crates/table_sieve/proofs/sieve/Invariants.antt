use Rattle.std.proofs.Common.{◌≡◌, ℕ, ◌<◌, ◌≤◌, true, false}
use Rattle.table_keys.specs.Keys.{rank_at}
use Rattle.table_sieve.specs.Sieve.{Sieved}
use Rattle.table_sieve.proofs.sieve.Given as goal

-- the pairs passed have set their bits, and each is new or marked
abbrev pub invariant-loop-i : goal.invariant-loop-i
invariant-loop-i l =
    record {
      sieved : Sieved l.table l.i l.seen l.marks;
      few : l.suspected ≡ false → (j : ℕ) → j < l.i → rank_at true j l.table ≤ 1;
    }
