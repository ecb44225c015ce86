-- What the first cells of the activations that declare a statement's names give, by any way of finding names that has these: a name's cell, activation
-- and target, and from these what the statement comes to.
use Rattle.std.specs.Prelude.{ℕ, ◌+◌, true, false, List, ◌≡◌, ℤ, pos, get_or, set}
use Rattle.std.proofs.Common.{sym, ap, ◌∙◌}
use Rattle.language.specs.Basics.{eq_z}
use Rattle.language.specs.Encoding.{signed}
use Rattle.language.specs.Machine.{compute}
use Rattle.language.specs.Text.{Operation, less}
use Rattle.resolved.specs.Resolved.{direct, position_in, target_in}
use Rattle.arrays.specs.Found.{held_by, cell_by}
use Rattle.run_moves.specs.Effects.{Effect}
use Rattle.run_moves.specs.declared.Move.{Move}
use Rattle.run_moves.specs.declared.Move.TheVariants.{On, Jump}
use Rattle.run_moves.specs.Effects.{effect_of, cells_of}
use Rattle.run_moves.specs.Acting.{Scene, do_constant, do_arithmetic, do_goto, do_branch}
use Rattle.resolved.specs.Layout.{activation_in, cell_in, lead_in}
use Rattle.run_statements.specs.Pieces.{only-cells, move_after}
use Rattle.run_statements.specs.Words.{cell-formal, home-direct, target-direct, home-formal, target-formal}
use Rattle.run_statements.specs.Doing.{direct-cell, constant-done, arithmetic-done, compare-done, goto-done, branch-not, branch-goes}
use Rattle.steps.specs.Finding.{by_first}
use Rattle.run_cells.specs.Finding.{Direct}
use Rattle.run_cells.specs.Calling.{word_after}

-- the cell of a name that is no formal
pub own-cell : {cells : List ℤ} {first w c : ℕ} → Direct cells first w → c ≡ first + position_in w → c ≡ cell_by cells first w
own-cell {cells} {first} {w} d e = direct-cell cells first w e d.is

-- and of a formal
pub held-cell : (cells : List ℤ) (first w : ℕ) {h : ℕ} → direct w ≡ false → h ≡ held_by cells first w → cell_in h ≡ cell_by cells first w
held-cell cells first w d e = ap cell_in e ∙ sym (cell-formal cells first w d)

module _ (cells : List ℤ) (first_of : ℕ → ℕ) (w : ℕ) {first : ℕ} (e : first ≡ first_of w) where
  pub cell-by : {c : ℕ} → c ≡ cell_by cells first w → c ≡ (by_first cells first_of).cell w
  cell-by t = t ∙ ap (λ (m : ℕ). cell_by cells m w) e

  -- a name that is no formal
  pub home-own : direct w ≡ true → activation_in first ≡ (by_first cells first_of).home w
  home-own d = ap activation_in e ∙ sym (home-direct cells (first_of w) w d)

  pub target-own : direct w ≡ true → target_in w ≡ (by_first cells first_of).target w
  target-own d = sym (target-direct cells (first_of w) w d)

  -- a formal, by what it holds
  module _ (d : direct w ≡ false) {h : ℕ} (t : h ≡ held_by cells first w) where
    holds : h ≡ held_by cells (first_of w) w
    holds = t ∙ ap (λ (m : ℕ). held_by cells m w) e

    pub home-held : {cell home : ℕ} → cell ≡ cell_in h → home ≡ activation_in cell → home ≡ (by_first cells first_of).home w
    home-held c k = k ∙ ap activation_in (c ∙ ap cell_in holds) ∙ sym (home-formal cells (first_of w) w d)

    pub target-held : {place : ℕ} → place ≡ lead_in h → place ≡ (by_first cells first_of).target w
    target-held k = k ∙ ap lead_in holds ∙ sym (target-formal cells (first_of w) w d)

module _ (code : List ℕ) (cells : List ℤ) (at : ℕ) where
  abbrev name : ℕ → ℕ
  name i = word_after code at i

  abbrev scene : Scene
  scene = only-cells code cells at

  -- KN
  pub constant-at :
      {first target : ℕ} {m : Move} {ws : List ℤ} → target ≡ cell_by cells first (name 1) → m ≡ On (at + 4) →
      ws ≡ set cells target (signed (name 2)) →
      (first_of : ℕ → ℕ) → first ≡ first_of (name 1) →
      (m ≡ (do_constant (by_first cells first_of) scene).move) × (ws ≡ (do_constant (by_first cells first_of) scene).cells)
  constant-at t m ws first_of p =
      let d = constant-done (by_first cells first_of) scene (cell-by cells first_of (name 1) p t) ws in
      (m ∙ d.0, d.1)

  -- AR
  abbrev result : Operation → ℕ → ℕ → ℤ
  result o left right = compute o (get_or cells left (pos 0)) (get_or cells right (pos 0))

  module _ {first second third target left right : ℕ} (t : target ≡ cell_by cells first (name 1)) (l : left ≡ cell_by cells second (name 3))
      (r : right ≡ cell_by cells third (name 4)) where
    pub arithmetic-at :
        (o : Operation) {m : Move} {e : Effect} {ws : List ℤ} → m ≡ move_after e (at + 5) → e ≡ effect_of (result o left right) →
        ws ≡ cells_of cells target (result o left right) →
        (first_of : ℕ → ℕ) → first ≡ first_of (name 1) → second ≡ first_of (name 3) → third ≡ first_of (name 4) →
        (m ≡ (do_arithmetic (by_first cells first_of) scene o).move) × (ws ≡ (do_arithmetic (by_first cells first_of) scene o).cells)
    arithmetic-at o m e ws first_of p q u =
        arithmetic-done (by_first cells first_of) scene o (cell-by cells first_of (name 1) p t) (cell-by cells first_of (name 3) q l) (cell-by cells first_of (name 4) u r)
        m e ws

    pub compare-at :
        {ws : List ℤ} → ws ≡ set cells target (result less left right) →
        (first_of : ℕ → ℕ) → first ≡ first_of (name 1) → second ≡ first_of (name 3) → third ≡ first_of (name 4) →
        (On (at + 5) ≡ (do_arithmetic (by_first cells first_of) scene less).move) × (ws ≡ (do_arithmetic (by_first cells first_of) scene less).cells)
    compare-at ws first_of p q u =
        compare-done (by_first cells first_of) scene (cell-by cells first_of (name 1) p t) (cell-by cells first_of (name 3) q l) (cell-by cells first_of (name 4) u r) ws

  -- GO
  pub goto-own :
      {first : ℕ} {m : Move} → m ≡ Jump (activation_in first) (target_in (name 1)) → direct (name 1) ≡ true →
      (first_of : ℕ → ℕ) → first ≡ first_of (name 1) → m ≡ (do_goto (by_first cells first_of) scene).move
  goto-own m d first_of p = m ∙ goto-done (by_first cells first_of) scene (home-own cells first_of (name 1) p d) (target-own cells first_of (name 1) p d)

  pub goto-held :
      {first h cell home place : ℕ} → h ≡ held_by cells first (name 1) → direct (name 1) ≡ false →
      cell ≡ cell_in h → home ≡ activation_in cell → place ≡ lead_in h →
      (first_of : ℕ → ℕ) → first ≡ first_of (name 1) → Jump home place ≡ (do_goto (by_first cells first_of) scene).move
  goto-held t d c k l first_of p =
      goto-done (by_first cells first_of) scene (home-held cells first_of (name 1) p d t c k) (target-held cells first_of (name 1) p d t l)

  -- IF
  module _ {first second c : ℕ} (t : c ≡ cell_by cells second (name 2)) where
    pub stays_at :
        eq_z (get_or cells c (pos 0)) (pos 0) ≡ true →
        (first_of : ℕ → ℕ) → first ≡ first_of (name 1) → second ≡ first_of (name 2) → On (at + 3) ≡ (do_branch (by_first cells first_of) scene).move
    stays_at z first_of p q = branch-not (by_first cells first_of) scene (cell-by cells first_of (name 2) q t) z

    pub goes_at :
        eq_z (get_or cells c (pos 0)) (pos 0) ≡ false → {m : Move} →
        ((first_of : ℕ → ℕ) → first ≡ first_of (name 1) → m ≡ (do_goto (by_first cells first_of) scene).move) →
        (first_of : ℕ → ℕ) → first ≡ first_of (name 1) → second ≡ first_of (name 2) → m ≡ (do_branch (by_first cells first_of) scene).move
    goes_at z m first_of p q = m first_of p ∙ branch-goes (by_first cells first_of) scene (cell-by cells first_of (name 2) q t) z
