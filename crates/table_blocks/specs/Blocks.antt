-- Groups gathered from some pairs, and what they take.
use Rattle.std.specs.Prelude.{◌≡◌, ℕ, ◌+◌, ◌<◌, ◌≤◌, List, [], ◌∷◌, ℤ, pos, slice_index, slice_index_or}
use Rattle.language.specs.Table.{members}
use Rattle.table_places.specs.Places.{group_in, places_in}
use Rattle.table_lefts.specs.Lefts.{once}

-- how often a group stands in a block
unfoldable pub times : ℕ → List ℕ → ℕ
times g [] = 0
times g (x ∷ xs) = once g x + times g xs

-- a block has each group of the window as often as the pairs do
abbrev pub Gathered : List ℤ → ℕ → ℕ → ℕ → ℕ → List ℕ → Type 0
Gathered ws from to first span block = (g : ℕ) → first ≤ g → g ≤ first + span → members (pos g) to ws ≡ members (pos g) from ws + times g block

-- each group of a block takes one from its place
abbrev pub Taken : List ℤ → List ℕ → List ℕ → List ℕ → Type 0
Taken l block lefts after = (p : ℕ) → p < places_in l → slice_index after p + times (group_in l p) block ≡ slice_index lefts p

-- a group stands in a block more often than is left of its number
pub record Overdrawn (l : List ℤ) (block lefts : List ℕ) : Type 0 where
  pub place : ℕ
  pub within : place < places_in l
  pub more : slice_index_or lefts place 0 < times (group_in l place) block
