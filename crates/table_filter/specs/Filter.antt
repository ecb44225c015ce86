-- Bits that tell of a pair that no pair before it has its key: where one of its bits was clear, none has.
use Rattle.std.specs.Prelude.{ℕ, ◌≤◌, ◌<◌, ◌≡◌, Bool, true, List, ◌⊎◌, eqb, ℤ, length, get_or}
use Rattle.std.specs.Int.Bits.{bit_and, bit_or}
use Rattle.table_keys.specs.Keys.{rank_at}
use Rattle.table_hash.specs.Hashes.{class_at, bucket_at, mask_at, mark_at}

abbrev pub covers : ℕ → ℕ → Bool
covers word mask = eqb (bit_and word mask) mask

abbrev pub join : ℕ → ℕ → ℕ
join word mask = bit_or word mask

abbrev pub Has : List ℕ → ℕ → ℕ → Type 0
Has bits q mask = covers (get_or bits q 0) mask ≡ true

-- the pair's bits are set among the marks
unfoldable pub suspected : Bool → List ℤ → List ℕ → ℕ → Bool
suspected whole ws marks j = covers (get_or marks (mark_at whole ws j) 0) (mask_at whole ws j)

abbrev pub OfClass : Bool → List ℤ → ℕ → ℕ → ℕ → Type 0
OfClass whole ws classes class j = class_at whole ws classes j ≡ class

-- the pair has a rank within the limit, or is suspected
abbrev pub Cleared : Bool → List ℤ → ℕ → List ℕ → ℕ → Type 0
Cleared whole ws limit marks j = (rank_at whole j ws ≤ limit) ⊎ (suspected whole ws marks j ≡ true)

-- after i pairs
pub record Inserted (whole : Bool) (ws : List ℤ) (classes class i : ℕ) (seen marks : List ℕ) : Type 0 where
  pub seen-words : length seen ≡ 28161
  pub mark-words : length marks ≡ 4096
  pub inserted : (j : ℕ) → j < i → OfClass whole ws classes class j → Has seen (bucket_at 28160 whole ws j) (mask_at whole ws j)
  pub cleared : (j : ℕ) → j < i → OfClass whole ws classes class j → Cleared whole ws 1 marks j
