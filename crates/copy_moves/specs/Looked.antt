-- The looked-up name at a run's end, in numbers.
use Rattle.std.specs.Prelude.{ℕ, ◌≤◌, true, false, List, ◌≡◌, eqb, get_or}
use Rattle.arrays.specs.Holds.{designator_of}
use Rattle.copy_names.specs.Owner.{cell_in, Findable}

unfoldable pub looked_up : List ℕ → List ℕ → List ℕ → ℕ → ℕ
looked_up firsts starts looked live =
    elim (eqb (get_or looked live 0) 0) [ true ↦ 0 | false ↦ designator_of (cell_in firsts starts live (get_or looked live 0)) ]

pub record Lookable (firsts starts looked : List ℕ) (live : ℕ) : Type 0 where
  pub few : live ≤ 255
  pub found : (get_or looked live 0 ≡ 0 → ⊥) → Findable firsts starts live (get_or looked live 0)
