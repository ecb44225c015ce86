-- What is left of the numbers of places.
use Rattle.std.specs.Prelude.{ℕ, ◌+◌, ◌≤◌, ◌<◌, ◌≡◌, Bool, true, false, cond, List, eqb, ℤ, length, get_or}
use Rattle.table_places.specs.Places.{group_in, number_in, places_in}
use Rattle.table_totals.specs.Placed.{members_of, Tallied}

-- 1 where a number is the one sought
abbrev pub once : ℕ → ℕ → ℕ
once g x = cond (eqb x g) 1 0

-- one is taken from the place of the group, if it has one
abbrev pub Lowered : List ℤ → ℕ → List ℕ → List ℕ → Type 0
Lowered l group lefts after = (p : ℕ) → p < places_in l → get_or after p 0 + once (group_in l p) group ≡ get_or lefts p 0

-- nothing is left at the place of the group
pub record Exhausted (l : List ℤ) (group : ℕ) (lefts : List ℕ) : Type 0 where
  pub place : ℕ
  pub within : place < places_in l
  pub here : group_in l place ≡ group
  pub none : get_or lefts place 0 ≡ 0

-- after i pairs
abbrev pub LeftsAre : List ℤ → ℕ → List ℤ → List ℕ → Type 0
LeftsAre ws i l lefts = (p : ℕ) → p < places_in l → get_or lefts p 0 + members_of ws i l p ≡ number_in l p

pub record SomeLeft (lefts : List ℕ) (n : ℕ) : Type 0 where
  pub place : ℕ
  pub within : place < n
  pub some : get_or lefts place 0 ≡ 0 → ⊥

-- an answer that tells whether each number is a full count
abbrev pub TalliedIs : Bool → List ℤ → ℕ → List ℤ → Type 0
TalliedIs r ws count l = (r ≡ true → Tallied ws count l (places_in l)) × (r ≡ false → Tallied ws count l (places_in l) → ⊥)

-- slots and numbers for n places
pub record Roomy (n : ℕ) (slots lefts : List ℕ) : Type 0 where
  pub few : n < 65535
  pub more : n < length slots
  pub most : length slots ≤ 4294967296
  pub long : n ≤ length lefts
