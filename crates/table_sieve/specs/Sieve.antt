-- Bits that tell of a pair that it stands nowhere before: where one of its bits was clear, it does not.
use Rattle.std.specs.Prelude.{ℕ, ◌*◌, ◌/◌, ◌%◌, ◌^◌, ◌≤◌, ◌<◌, ◌≡◌, Bool, true, List, ◌⊎◌, ℤ, length, get_or, set}
use Rattle.std.specs.Int.Bits.{bit_or}
use Rattle.table_keys.specs.Keys.{rank_at}
use Rattle.table_filter.specs.Filter.{covers, join, Has}
use Rattle.table_distinct.specs.Slots.{word_at, hash_of}

abbrev pub cell_of : ℕ → ℕ
cell_of h = h / 131072 % 32768

abbrev pub mask_of : ℕ → ℕ
mask_of h = bit_or (1 * 2 ^ (h / 4096 % 32) % 2 ^ 64) (4294967296 * 2 ^ (h / 4294967296 % 32) % 2 ^ 64)

abbrev pub mark_of : ℕ → ℕ
mark_of h = h / 1024 % 16384 * 3 / 4

abbrev pub bit_of : ℕ → ℕ
bit_of h = 1 * 2 ^ (h / 16 % 64) % 2 ^ 64

abbrev pub set_in : List ℕ → ℕ → ℕ → List ℕ
set_in bits q mask = set bits q (join (get_or bits q 0) mask)

unfoldable pub hash_at : List ℤ → ℕ → ℕ
hash_at ws i = hash_of (word_at ws i)

-- the pair's bit is set among the marks
unfoldable pub marked : List ℤ → List ℕ → ℕ → Bool
marked ws marks j = covers (get_or marks (mark_of (hash_at ws j)) 0) (bit_of (hash_at ws j))

-- the pair stands nowhere before, or is marked
abbrev pub Known : List ℤ → List ℕ → ℕ → Type 0
Known ws marks j = (rank_at true j ws ≤ 1) ⊎ (marked ws marks j ≡ true)

-- after i pairs
pub record Sieved (ws : List ℤ) (i : ℕ) (seen marks : List ℕ) : Type 0 where
  pub seen-words : length seen ≡ 32768
  pub mark-words : length marks ≡ 12288
  pub inserted : (j : ℕ) → j < i → Has seen (cell_of (hash_at ws j)) (mask_of (hash_at ws j))
  pub known : (j : ℕ) → j < i → Known ws marks j
