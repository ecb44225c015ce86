-- The looked-up name, from its word and the first cell of the activation that declares it: 0 where it has no word, which no visible name has
-- (`looked-up-none`), else the designator of the name that it finally stands for (`looked-up-some`).
use Rattle.std.specs.Prelude.{ℕ, ◌+◌, ◌<◌, true, false, List, ◌≡◌, eqb, ℤ, pos, get_or}
use Rattle.std.proofs.Math.Path.{sym, ap}
use Rattle.std.proofs.Common.{◌∙◌}
use Rattle.std.specs.Int.Signed.{lt_z}
use borrow.Author.Tests.{eq-eqb, ne_eqb}
use Rattle.frames.specs.Frame.{designator_in}
use Rattle.resolved.specs.Resolved.{position_in, formal_in, direct}
use Rattle.arrays.specs.Holds.{designator_of}
use Rattle.arrays.specs.Found.{held_by, cell_by}
use Rattle.resolved.specs.Layout.{cell_in}

unfoldable pub looked_up_by : List ℤ → ℕ → ℕ → ℕ
looked_up_by cells first w = elim (eqb w 0) [ true ↦ 0 | false ↦ designator_of (cell_by cells first w) ]

-- its own cell is one of all words, and what a formal holds is not negative
pub record Nameable (cells : List ℤ) (first w : ℕ) : Type 0 where
  pub own : first + position_in w < 8192
  pub whole : direct w ≡ false → lt_z (get_or cells (first + position_in w) (pos 0)) (pos 0) ≡ false

module _ (cells : List ℤ) (first w : ℕ) where
  pub looked-up-none : w ≡ 0 → looked_up_by cells first w ≡ 0
  unfolding looked_up_by
  looked-up-none e = rw (looked_up_by, eq-eqb w 0 e)

  pub looked-up-some : (w ≡ 0 → ⊥) → looked_up_by cells first w ≡ designator_of (cell_by cells first w)
  unfolding looked_up_by
  looked-up-some d = rw (looked_up_by, ne_eqb w 0 d)

  cell-direct : direct w ≡ true → cell_by cells first w ≡ first + position_in w
  unfolding cell_by
  cell-direct e = rw (cell_by, e)

  cell-formal : direct w ≡ false → cell_by cells first w ≡ cell_in (held_by cells first w)
  unfolding cell_by
  cell-formal e = rw (cell_by, e)

  -- a name that has a word, from the parts of it that were read
  module _ (d : w ≡ 0 → ⊥) {formal position : ℕ} (f : formal ≡ formal_in w) (p : position ≡ position_in w) where
    is-formal : (formal ≡ 0 → ⊥) → direct w ≡ false
    unfolding direct
    is-formal q = ne_eqb (formal_in w) 0 (λ e. q (f ∙ e))

    own-cell : get_or cells (first + position) (pos 0) ≡ get_or cells (first + position_in w) (pos 0)
    own-cell = ap (λ (n : ℕ). get_or cells (first + n) (pos 0)) p

    pub designator-direct : formal ≡ 0 → {r : ℕ} → r ≡ designator_of (first + position) → r ≡ looked_up_by cells first w
    unfolding direct
    designator-direct q r =
        r ∙ ap designator_of (ap (λ (n : ℕ). first + n) p ∙ sym (cell-direct (eq-eqb (formal_in w) 0 (sym f ∙ q)))) ∙ sym (looked-up-some d)

    pub held_whole : (formal ≡ 0 → ⊥) → Nameable cells first w → {z : ℤ} → z ≡ get_or cells (first + position) (pos 0) → lt_z z (pos 0) ≡ false
    held_whole q n e = ap (λ (y : ℤ). lt_z y (pos 0)) (e ∙ own-cell) ∙ n.whole (is-formal q)

    pub designator-formal :
        (formal ≡ 0 → ⊥) → {h cell r : ℕ} → get_or cells (first + position) (pos 0) ≡ pos h → cell ≡ cell_in h → r ≡ designator_of cell →
        r ≡ looked_up_by cells first w
    unfolding held_by designator_in
    designator-formal q h c r =
        r ∙ ap designator_of (c ∙ ap cell_in (sym (ap designator_in (sym own-cell ∙ h))) ∙ sym (cell-formal (is-formal q))) ∙ sym (looked-up-some d)
