-- The looked-up name: its designator, by whether it reads as a new name.
use Prim.Native.Nat.{ℕ}
use mathlib.Core.List.{List}
use mathlib.Core.Path.{◌≡◌, ap, ◌∙◌}
use borrow.Author.Tests.{eq-eqb, ne_eqb}
use lib.ListN.{get_or}
use Rattle.arrays.specs.Holds.{designator_of}
use Rattle.copy_names.specs.Owner.{cell_in}
use Rattle.copy_moves.specs.Looked.{looked_up}

module _ (firsts starts looked : List ℕ) (live : ℕ) where
  pub looked-none : get_or looked live 0 ≡ 0 → 0 ≡ looked_up firsts starts looked live
  unfolding looked_up
  looked-none e = rw (eq-eqb _ _ e, looked_up)

  looked-some : (get_or looked live 0 ≡ 0 → ⊥) → designator_of (cell_in firsts starts live (get_or looked live 0)) ≡ looked_up firsts starts looked live
  unfolding looked_up
  looked-some d = rw (ne_eqb _ _ d, looked_up)

  module _ (name : ℕ) (name-is : name ≡ get_or looked live 0) (visible : name ≡ 0 → ⊥) where
    pub looked-cell : (cell r : ℕ) → cell ≡ cell_in firsts starts live name → r ≡ designator_of cell → r ≡ looked_up firsts starts looked live
    looked-cell cell r e q =
        q ∙ ap designator_of (e ∙ ap (cell_in firsts starts live) name-is) ∙ looked-some (λ z. visible (name-is ∙ z))
