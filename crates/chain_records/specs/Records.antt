-- Activation records in a list. `at`: one of them, zeros where there is none. `hop`: so many links on from one. `Linked`: from one on, no link leads further
-- in.
use Rattle.std.specs.Prelude.{ℕ, zero, suc, ◌≤◌, ◌<◌, List, length, get_or}
use Rattle.chain_records.specs.declared.Activation.{Activation}

abbrev pub made : ℕ → ℕ → ℕ → Activation
made block next link = record { block = block; next = next; link = link }

abbrev pub no_record : Activation
no_record = made 0 0 0

abbrev pub at : List Activation → ℕ → Activation
at xs k = get_or xs k no_record

abbrev pub hop : List Activation → ℕ → ℕ → ℕ
hop xs k zero = k
hop xs k (suc n) = hop xs (at xs k).link n

pub record Linked (xs : List Activation) (from : ℕ) : Type 0 where
  pub there : from < length xs
  pub down : (k : ℕ) → k ≤ from → (at xs k).link ≤ k
