-- Pairs in slots: a slot holds a pair as one word, never 0 where the numbers are at least 1.
use Rattle.std.specs.Prelude.{ℕ, ◌+◌, ◌*◌, ◌/◌, ◌%◌, ◌<◌, ◌≡◌, Bool, true, ◌&&◌, List, ℤ, nat_abs, length, get_or, set}
use Rattle.language.specs.Table.{at_least_one}
use Rattle.laws.specs.Tables.{group_at, member_at}
use Rattle.table_probes.specs.Room.{room}
use Rattle.table_probes.specs.Probes.{Used, Passed, Kept}
use Rattle.table_keys.specs.Keys.{same_at}

abbrev pub numbers_at : List ℤ → ℕ → Bool
numbers_at ws i = at_least_one (group_at i ws) && at_least_one (member_at i ws)

unfoldable pub word_at : List ℤ → ℕ → ℕ
word_at ws i = nat_abs (group_at i ws) * 4294967296 + nat_abs (member_at i ws)

unfoldable pub hash_of : ℕ → ℕ
hash_of key = key / 4294967296 * 1886004147 + key % 4294967296 * 3726408501

-- one of `size` slots
unfoldable pub slot_of : ℕ → ℕ → ℕ
slot_of size hash = hash % 4294967296 * size / 4294967296

-- the slot from which a pair is sought
abbrev pub home_of : ℕ → ℕ → ℕ
home_of size key = slot_of size (hash_of key)

-- a slot's word is the pair
abbrev pub whole : ℕ → ℕ
whole w = w

-- the search for a key has come to an empty slot, and a word is stored there
pub record Stored (key_in : ℕ → ℕ) (key home word : ℕ) (slots after : List ℕ) : Type 0 where
  pub slot : ℕ
  pub passed : Passed key_in key home slots slot
  pub empty : get_or slots slot 0 ≡ 0
  pub stored : after ≡ set slots slot word

-- a slot has the key
pub record Holds (key_in : ℕ → ℕ) (slots : List ℕ) (key : ℕ) : Type 0 where
  pub slot : ℕ
  pub used : Used slots slot
  pub there : key_in (get_or slots slot 0) ≡ key

-- a pair among the first i has the word
pub record Stands (ws : List ℤ) (i w : ℕ) : Type 0 where
  pub place : ℕ
  pub before : place < i
  pub same : w ≡ word_at ws place
  pub low : nat_abs (member_at place ws) < 4294967296

-- The slots after i pairs, of which those that are `mine` are stored: n, and all differ.
pub record Filled (key_in : ℕ → ℕ) (ws : List ℤ) (mine : ℕ → Bool) (i n : ℕ) (slots : List ℕ) : Type 0 where
  pub kept : Kept key_in (home_of (length slots)) slots
  pub left : room slots + n ≡ length slots
  pub has : (j : ℕ) → j < i → mine j ≡ true → Holds key_in slots (word_at ws j)
  pub of-pairs : (x : ℕ) → Used slots x → Stands ws i (key_in (get_or slots x 0))

-- whether a pair is mine is the same for all that are the same
abbrev pub Keyed : List ℤ → (ℕ → Bool) → Type 0
Keyed ws mine = (i j : ℕ) → same_at true ws i j ≡ true → mine i ≡ mine j

abbrev pub every : ℕ → Bool
every j = true
