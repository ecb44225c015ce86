-- A name's cell, home and target by whether it is a formal; and what a word of a local is, whose bits are held.
use Rattle.std.specs.Prelude.{ℕ, ◌+◌, ◌<◌, List, ◌≡◌, refl, ℤ, negsuc, get_or}
use Rattle.std.proofs.Common.{arith, ◌∙◌, eq-eqb, ne_eqb, to_z-of_z, to_z, of_z}
use Rattle.std.proofs.Math.Bool.{true, false}
use Rattle.std.proofs.Math.Path.{ap}
use Rattle.std.proofs.Math.IntN.{pos}
use Rattle.std.specs.Int.Signed.{mag}
use Rattle.std.specs.Int.{w32}
use Rattle.language.specs.Basics.{eq_z}
use Rattle.frames.specs.Frame.{designator_in}
use Rattle.resolved.specs.Resolved.{direct, position_in, formal_in, target_in}
use Rattle.arrays.specs.Found.{held_by, cell_by, home_by, target_by, handed_by}
use Rattle.run_moves.specs.Effects.{handed_word}
use Rattle.resolved.specs.Layout.{activation_in, held_from, cell_in, lead_in}

pub read_back : (z : ℤ) → mag z < 2147483648 → to_z w32 (of_z w32 z) ≡ z
read_back z h = to_z-of_z {w = w32} (record { sfits = h })

pub read-value : (ws : List ℤ) {c d : ℕ} → mag (get_or ws c (pos 0)) < 2147483648 → c ≡ d → to_z w32 (of_z w32 (get_or ws c (pos 0))) ≡ get_or ws d (pos 0)
read-value ws {c} h e = read_back (get_or ws c (pos 0)) h ∙ ap (λ (k : ℕ). get_or ws k (pos 0)) e

-- a test of a word for 0
pub is_zero : (z : ℤ) → mag z < 2147483648 → of_z w32 z ≡ 0 → eq_z z (pos 0) ≡ true
unfolding eq_z
is_zero (pos n) h e = eq-eqb n 0 e
is_zero (negsuc n) h e = absurd (omega arith)

pub not-zero : (z : ℤ) → mag z < 2147483648 → (of_z w32 z ≡ 0 → ⊥) → eq_z z (pos 0) ≡ false
unfolding eq_z
not-zero (pos n) h d = ne_eqb n 0 d
not-zero (negsuc n) h d = refl

pub is-direct : (w : ℕ) → formal_in w ≡ 0 → direct w ≡ true
unfolding direct
is-direct w e = eq-eqb (formal_in w) 0 e

pub is-formal : (w : ℕ) → (formal_in w ≡ 0 → ⊥) → direct w ≡ false
unfolding direct
is-formal w d = ne_eqb (formal_in w) 0 d

module _ (cells : List ℤ) (first w : ℕ) where
  pub cell-direct : direct w ≡ true → cell_by cells first w ≡ first + position_in w
  unfolding cell_by
  cell-direct e = rw (cell_by, e)

  pub home-direct : direct w ≡ true → home_by cells first w ≡ activation_in first
  unfolding home_by
  home-direct e = rw (home_by, e)

  pub target-direct : direct w ≡ true → target_by cells first w ≡ target_in w
  unfolding target_by
  target-direct e = rw (target_by, e)

  pub cell-formal : direct w ≡ false → cell_by cells first w ≡ cell_in (held_by cells first w)
  unfolding cell_by
  cell-formal e = rw (cell_by, e)

  pub home-formal : direct w ≡ false → home_by cells first w ≡ activation_in (cell_in (held_by cells first w))
  unfolding home_by
  home-formal e = rw (home_by, e)

  pub target-formal : direct w ≡ false → target_by cells first w ≡ lead_in (held_by cells first w)
  unfolding target_by
  target-formal e = rw (target_by, e)

  pub held-is : {n : ℕ} → get_or cells (first + position_in w) (pos 0) ≡ pos n → held_by cells first w ≡ n
  unfolding held_by designator_in
  held-is e = ap designator_in e

  pub handed-is :
      (vs : List ℤ) → get_or vs (first + position_in w) (pos 0) ≡ get_or cells (first + position_in w) (pos 0) →
      handed_word vs w (first + position_in w) ≡ handed_by cells first w
  unfolding handed_word handed_by
  handed-is vs e = ap (λ (z : ℤ). elim (direct w) as (λ b. ℤ) [ true ↦ pos (held_from (first + position_in w) (target_in w)) | false ↦ z ]) e
