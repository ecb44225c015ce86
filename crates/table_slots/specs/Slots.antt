-- What the slots of a pass hold.
use Rattle.std.specs.Prelude.{ℕ, ◌+◌, ◌-◌, ◌/◌, ◌%◌, ◌≤◌, ◌<◌, ◌≡◌, Bool, true, false, ◌&&◌, List, map, eqb, ℤ, length, get_or}
use Rattle.laws.specs.Tables.{group_at, member_at}
use Rattle.table_keys.specs.Keys.{same_at, rank_at, alike}
use Rattle.table_hash.specs.Hashes.{class_at, bucket_at}
use Rattle.table_filter.specs.Filter.{suspected}
use Rattle.table_slots.specs.declared.Slot.{Slot}
use Rattle.table_slots.specs.declared.Slot.TheVariants.{Empty, Held, Full}

-- A slot has the place of the first pair with its key, plus 1, and 2 ^ 32 times how many pairs with the key were passed.
abbrev pub place_in : ℕ → ℕ
place_in v = v % 4294967296

abbrev pub number_in : ℕ → ℕ
number_in v = v / 4294967296

abbrev pub firsts : List ℕ → List ℕ
firsts = map place_in

abbrev pub numbers : List ℕ → List ℕ
numbers = map number_in

abbrev pub slot_at : Bool → List ℤ → ℕ → ℕ
slot_at whole ws i = bucket_at 27904 whole ws i

-- ---- a search for a key, from its slot on

-- t slots are in use, each by another key; `alikes` tells the places of pairs with the key
abbrev pub Passed : (ℕ → Bool) → ℕ → List ℕ → ℕ → Type 0
Passed alikes slot first t = (s : ℕ) → s < t → (get_or first (slot + s) 0 ≡ 0 → ⊥) × (alikes (get_or first (slot + s) 0 - 1) ≡ false)

pub record EndsEmpty (alikes : ℕ → Bool) (slot : ℕ) (first : List ℕ) (q : ℕ) : Type 0 where
  pub steps : ℕ
  pub within : steps < 256
  pub there : q ≡ slot + steps
  pub passed : Passed alikes slot first steps
  pub empty : get_or first (slot + steps) 0 ≡ 0

pub record EndsHeld (alikes : ℕ → Bool) (slot : ℕ) (first : List ℕ) (q : ℕ) : Type 0 where
  pub steps : ℕ
  pub within : steps < 256
  pub there : q ≡ slot + steps
  pub passed : Passed alikes slot first steps
  pub held : get_or first (slot + steps) 0 ≡ 0 → ⊥
  pub own : alikes (get_or first (slot + steps) 0 - 1) ≡ true

abbrev pub Probed : Bool → List ℤ → ℕ → List ℕ → ℕ → Slot → Type 0
Probed whole ws i first slot (Empty q) = EndsEmpty (same_at whole ws i) slot first q
Probed whole ws i first slot (Held q) = EndsHeld (same_at whole ws i) slot first q
Probed whole ws i first slot Full = Passed (same_at whole ws i) slot first 256

-- ---- the slots after i pairs, of which those that are `mine` are counted

-- A search for the key ends at no empty slot, and where it ends at the key's own, n pairs with it are counted there.
abbrev pub Kept : (ℕ → Bool) → ℕ → List ℕ → List ℕ → ℕ → Type 0
Kept alikes slot first number n =
    (t : ℕ) → t < 256 → Passed alikes slot first t →
    (get_or first (slot + t) 0 ≡ 0 → ⊥) × (alikes (get_or first (slot + t) 0 - 1) ≡ true → get_or number (slot + t) 0 ≡ n)

pub record Good (whole : Bool) (ws : List ℤ) (mine : ℕ → Bool) (i : ℕ) (slots : List ℕ) : Type 0 where
  pub slot-words : length slots ≡ 28160
  pub low : (q : ℕ) → get_or (firsts slots) q 0 ≤ i
  pub kept :
      (j : ℕ) → j < i → mine j ≡ true →
      Kept (same_at whole ws j) (slot_at whole ws j) (firsts slots) (numbers slots) (alike whole (group_at j ws) (member_at j ws) i ws)

-- whether the pair at j is counted in the pass of a class: the same for all pairs with its key
unfoldable pub wanted : Bool → List ℤ → ℕ → ℕ → List ℕ → ℕ → Bool
wanted whole ws classes class marks j = suspected whole ws marks j && eqb (class_at whole ws classes j) class

abbrev pub Keyed : Bool → List ℤ → (ℕ → Bool) → Type 0
Keyed whole ws mine = (j k : ℕ) → same_at whole ws j k ≡ true → mine j ≡ mine k

-- The pair at i is counted, whatever pairs are.
abbrev pub Counted : Bool → List ℤ → ℕ → ℕ → List ℕ → List ℕ → Type 0
Counted whole ws limit i slots after =
    (mine : ℕ → Bool) → Keyed whole ws mine → mine i ≡ true → Good whole ws mine i slots →
    Good whole ws mine (i + 1) after × (rank_at whole i ws ≤ limit)

abbrev pub TooMany : Bool → List ℤ → ℕ → ℕ → List ℕ → Type 0
TooMany whole ws limit i slots = (mine : ℕ → Bool) → Keyed whole ws mine → mine i ≡ true → Good whole ws mine i slots → limit < rank_at whole i ws
