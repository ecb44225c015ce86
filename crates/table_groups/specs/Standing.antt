-- Where a group stands in the list of groups.
use Rattle.std.specs.Prelude.{◌≡◌, ℕ, suc, true, false, List, [], ◌∷◌, ℤ, nat_lt}
use Rattle.table_laws.specs.Places.{number_in}
use Rattle.table_laws.specs.Listing.{Listing}
use Rattle.table_groups.specs.declared.GroupPlace.{GroupPlace}

-- how many places have a group below g, in a list whose groups rise: g's place, or the place where it is to stand
unfoldable pub place_in : ℕ → List ℕ → ℕ
place_in g [] = 0
place_in g (a ∷ []) = 0
place_in g (a ∷ n ∷ ps) = elim (nat_lt a g) [ true ↦ suc (place_in g ps) | false ↦ 0 ]

-- a lent list of so many places
abbrev pub HasListing : ℕ → List ℤ → Type 0
HasListing places ws = (ps : List ℕ) × ((past : List ℤ) × Listing places ps past ws)

-- a lent list, and what it says of g
pub record Found (places g : ℕ) (found : GroupPlace) (ps : List ℕ) (past ws : List ℤ) : Type 0 where
  pub listing : Listing places ps past ws
  pub place_is : found.place ≡ place_in g ps
  pub number_is : found.number ≡ number_in g ps
