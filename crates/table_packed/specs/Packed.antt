-- Pairs in slots by their places: a slot's word has the place of a pair, plus 1, and 2 ^ 16 times some bits of the pair's hash.
use Rattle.std.specs.Prelude.{ℕ, ◌+◌, ◌-◌, ◌*◌, ◌/◌, ◌%◌, ◌≤◌, ◌<◌, ◌≡◌, List, ℤ, length, get_or}
use Rattle.table_probes.specs.Probes.{Used}
use Rattle.table_distinct.specs.Slots.{word_at, hash_of, home_of, Stored}

abbrev pub tag_of : ℕ → ℕ
tag_of hash = hash / 4294967296 % 65536

-- the pair whose place a slot has
abbrev pub pair_in : List ℤ → ℕ → ℕ
pair_in ws w = word_at ws (w % 65536 - 1)

-- a word with a place below i
pub record Named (ws : List ℤ) (i w : ℕ) : Type 0 where
  pub some : 0 < w % 65536
  pub before : w % 65536 ≤ i
  pub tagged : w / 65536 ≡ tag_of (hash_of (pair_in ws w))

pub record Placed (ws : List ℤ) (i : ℕ) (slots : List ℕ) : Type 0 where
  pub named : (x : ℕ) → Used slots x → Named ws i (get_or slots x 0)

-- the place of the pair at i is stored
abbrev pub NewIn : List ℤ → ℕ → List ℕ → List ℕ → Type 0
NewIn ws i slots after =
    let key = word_at ws i in
    Stored (pair_in ws) key (home_of (length slots) key) (tag_of (hash_of key) * 65536 + (i + 1)) slots after
