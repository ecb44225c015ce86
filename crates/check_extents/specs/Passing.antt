-- What passing over records gives.
use Rattle.std.specs.Prelude.{ℕ, ◌+◌, ◌*◌, ◌-◌, ◌/◌, ◌%◌, ◌<◌, ◌≤◌, max, List, ◌≡◌, length, get_or, take, drop}
use Rattle.language.specs.Encoding.{BK-mark, PR-mark, VR-mark, CL-mark, GO-mark, KN-mark, AR-mark, QY-mark}
use Rattle.laws.specs.Fields.{field_at, FieldsStand}
use Rattle.check_extents.specs.Items.{Item, item_fields, items_fields, head_size, child_count, entries_of}
use Rattle.check_extents.specs.declared.passing.Step.{Step}

-- one record's head
pub record Passed (bs : List ℕ) (at : ℕ) (s : Step) : Type 0 where
  pub next-is : s.next ≡ at + head_size (field_at bs at) (field_at bs (at + 4))
  pub more-is : s.more ≡ child_count (field_at bs at) (field_at bs (at + 2)) (field_at bs (at + 4))
  pub on : at + 2 ≤ s.next
  pub near : s.next ≤ at + 131076
  pub few : s.more ≤ 131070

-- a record that holds no other
abbrev pub Alone : List ℕ → ℕ → ℕ → Type 0
Alone bs at next = Passed bs at (record { next = next; more = 0 })

-- a mark that holds no other record and no list, and of which no other number of fields is known than 2
pub record TwoFields (w : ℕ) : Type 0 where
  pub no-BK : w ≡ BK-mark → ⊥
  pub no-PR : w ≡ PR-mark → ⊥
  pub no-VR : w ≡ VR-mark → ⊥
  pub no-CL : w ≡ CL-mark → ⊥
  pub no-GO : w ≡ GO-mark → ⊥
  pub no-KN : w ≡ KN-mark → ⊥
  pub no-AR : w ≡ AR-mark → ⊥
  pub no-QY : w ≡ QY-mark → ⊥

-- a record with all that stands inside it
pub record Skipped (bs : List ℕ) (at end : ℕ) : Type 0 where
  pub ends : (x : Item) → FieldsStand bs at (item_fields x) → end ≡ at + 2 * length (item_fields x)
  pub after : at ≤ end
  pub close : end ≤ max at (length bs + 131076)

-- the records still to pass, from an offset on, of those that begin with a record
pub record Left (bs : List ℕ) (at here pending : ℕ) (x : Item) : Type 0 where
  pub items : List Item
  pub stand : FieldsStand bs here (items_fields items)
  pub number : length items ≡ pending
  pub reach : here + 2 * length (items_fields items) ≡ at + 2 * length (item_fields x)

-- one of the records still to pass, or its head alone
pub record Stepped (bs : List ℕ) (at : ℕ) (s : Step) : Type 0 where
  pub steps : (from pending : ℕ) (x : Item) → 0 < pending → Left bs from at pending x → Left bs from s.next (pending - 1 + s.more) x
  pub on : at + 2 ≤ s.next
  pub near : s.next ≤ length bs + 131076
  pub few : s.more ≤ 131070

-- a table of ends, each with the offset times 65536 of its record; an end 0 is none
pub record Ends (bs es : List ℕ) : Type 0 where
  pub long : length es ≡ 683
  pub right : (i : ℕ) → 0 < get_or es i 0 % 65536 → Skipped bs (get_or es i 0 / 65536) (get_or es i 0 % 65536)

-- the entries of so many records, put from `base` on
abbrev pub Pushed : List ℕ → ℕ → ℕ → ℕ → List ℕ → Type 0
Pushed bs at count base es =
    (xs : List Item) → length xs ≡ count → FieldsStand bs at (items_fields xs) → take count (drop base es) ≡ entries_of bs xs at

-- they are put there and nothing else is changed, and the ends noted are right
pub record Placed (bs es es' ends : List ℕ) (at count base : ℕ) : Type 0 where
  pub pushed : Pushed bs at count base es'
  pub above : drop (base + count) es' ≡ drop (base + count) es
  pub below : take base es' ≡ take base es
  pub noted : Ends bs ends
