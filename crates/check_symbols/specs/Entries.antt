-- The visible names: a list of entries, nearest first. An entry is a name and, times 65536, a number kept of it.
use Rattle.std.specs.Prelude.{ℕ, ◌+◌, ◌*◌, ◌/◌, ◌%◌, ◌<◌, ◌≤◌, ◌^◌, true, false, List, [], ◌∷◌, ◌≡◌, eqb, drop, Option, Some, None}

-- what is kept of a name
abbrev pub Binding : Type 0
Binding = Option ℕ

-- what the first entry with a name keeps of it
unfoldable pub found_in : ℕ → List ℕ → Binding
found_in n [] = None
found_in n (e ∷ es) = elim (eqb n (e % 65536)) [ true ↦ Some (e / 65536) | false ↦ found_in n es ]

abbrev pub Near : Binding → Type 0
Near (Some place) = place < 2 ^ 48
Near None = Unit {0}

-- what is found from `top` on is found from i on
pub record Seeking (es : List ℕ) (top n i : ℕ) : Type 0 where
  pub from : top ≤ i
  pub same : found_in n (drop i es) ≡ found_in n (drop top es)

-- an entry from its parts
abbrev pub entry_from : ℕ → ℕ → ℕ
entry_from name number = name + 65536 * number
