-- The places passed are in the slots, and their numbers in the list.
use Rattle.std.proofs.Common.{◌≡◌, ℕ, ◌<◌, length, get_or}
use Rattle.table_places.specs.Places.{number_in}
use Rattle.table_index.specs.Index.{Indexed}
use Rattle.table_index.proofs.fill.Given as goal

abbrev pub invariant-loop-k : goal.invariant-loop-k
invariant-loop-k l =
    record {
      slots_long : length l.slots ≡ length l.fn.slots;
      lefts_long : length l.lefts ≡ length l.fn.lefts;
      indexed : Indexed l.places l.k l.slots;
      numbers : (p : ℕ) → p < l.k → get_or l.lefts p 0 ≡ number_in l.places p;
    }
