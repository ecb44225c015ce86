-- The groups of some places in slots: what stands in them, and what a search for a group comes to.
use Rattle.std.specs.Prelude.{ℕ, suc, ◌+◌, ◌*◌, ◌-◌, ◌/◌, ◌%◌, ◌≤◌, ◌<◌, ◌≡◌, List, ℤ, length, get_or, Option, Some, None}
use Rattle.std.specs.Int.Bits.{bit_xor}
use Rattle.table_places.specs.Places.{group_in}
use Rattle.table_probes.specs.Room.{room}
use Rattle.table_probes.specs.Probes.{Kept, Has}

-- the slot in which a search for a group begins
unfoldable pub home_of : ℕ → ℕ → ℕ
home_of size group = bit_xor group (group / 256) % 4294967296 * 2654435769 % 4294967296 * size / 4294967296

-- a slot has the number of a place, from 1
abbrev pub key_in : List ℤ → ℕ → ℕ
key_in ws w = group_in ws (w - 1)

-- the first n places are in the slots
pub record Indexed (ws : List ℤ) (n : ℕ) (slots : List ℕ) : Type 0 where
  pub kept : Kept (key_in ws) (home_of (length slots)) slots
  pub rest : room slots + n ≡ length slots
  pub more : n < length slots
  pub low : (q : ℕ) → get_or slots q 0 ≤ n
  pub has : (p : ℕ) → p < n → Has slots (suc p)

-- the place with the group, or nothing where none of n has it
pub record Sought (ws : List ℤ) (n group : ℕ) (r : Option ℕ) : Type 0 where
  pub there : (p : ℕ) → r ≡ Some p → (p < n) × (group_in ws p ≡ group)
  pub none : r ≡ None → (p : ℕ) → p < n → group_in ws p ≡ group → ⊥
