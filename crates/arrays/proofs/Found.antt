-- What an engine makes of a name's word w, once it has the first cell of the activation that declares the name, whichever way it found that:
-- the cell of the declared name that the name finally stands for (`cell_by`), the activation there (`home_by`), what it leads to (`target_by`),
-- and what a call hands on of it (`handed_by`). `finds`: these are what the frame machine has of what the name designates; in a run,
-- `found-by-display` and `found-by-links`.
use Rattle.std.specs.Prelude.{ℕ, zero, suc, pred, ◌+◌, ◌*◌, ◌-◌, ◌/◌, ◌<◌, Bool, List, ◌≡◌, refl, ℤ, length, get_or}
use Rattle.std.proofs.Common.{arith, ◌∙◌, eqb-true}
use Rattle.std.proofs.Math.Bool.{true, false}
use Rattle.std.proofs.Math.Option.{some}
use Rattle.std.proofs.Math.Path.{ap}
use Rattle.std.proofs.lemmas.Bool.{eqb-false}
use Rattle.std.proofs.Math.IntN.{pos}
use Rattle.language.specs.Text.{Block}
use Rattle.language.specs.Machine.{Limits}
use Rattle.grammar.specs.Rules.{Keeps}
use Rattle.frames.specs.Frame.{Frame, Stack, designator_in, designates, frame_number}
use Rattle.coordinates.specs.Enclosure.{Coordinate, coordinate_of}
use Rattle.coordinates.specs.Chain.{enclosure_of, level_of}
use Rattle.coordinates.proofs.Sound.{Sound}
use Rattle.resolved.specs.Resolved.{position_in, formal_in, level_in, name_word, direct}
use Rattle.resolved.specs.Layout.{activation_in, cell_in, lead_in}
use Rattle.arrays.specs.Holds.{cell_of, formal_word, Holds, Shows}
use Rattle.arrays.proofs.Cells.{Celled, points-celled, cell-activation, word_cell, word-target}
use Rattle.arrays.proofs.Names.{NameAt, handed-word, follow, named-points, named-by-display, named-by-links}
use Rattle.arrays.specs.Found.{Finds, cell_by, handed_by, held_by, home_by, target_by}

pub direct_is : (w : ℕ) → direct w ≡ true → formal_in w ≡ 0
unfolding direct
direct_is w e = eqb-true (formal_in w) 0 e

pub formal-is : (w : ℕ) → direct w ≡ false → formal_in w ≡ 1
unfolding direct
formal-is w e = one (formal_in w) (omega arith) (eqb-false (formal_in w) 0 e)
  where
    one : (b : ℕ) → b < 2 → (b ≡ 0 → ⊥) → b ≡ 1
    one zero h d = absurd (d refl)
    one (suc zero) h d = refl
    one (suc (suc b)) h d = absurd (omega arith)

module _ (fs : List Frame) (cells : List ℤ) (n w first : ℕ) (at : NameAt fs cells n w first) (c : Celled (designates fs n)) where
  -- the name's own cell is one of the stack's
  pub own-cell-bound : first + position_in w < 32 * length fs
  own-cell-bound = omega (arith, at.within)

  home-direct : formal_in w ≡ 0 → activation_in first ≡ pred (frame_number (designates fs n))
  home-direct z =
      let e : first / 32 ≡ cell_of (designates fs n) / 32 = omega (arith, at.direct-cell z, at.whole) in
      e ∙ cell-activation (designates fs n) c

  pub held-is : formal_in w ≡ 1 → held_by cells first w ≡ formal_word fs (designates fs n)
  unfolding held_by designator_in
  held-is z = ap designator_in (at.formal-word z)

  cell-formal : formal_in w ≡ 1 → cell_in (held_by cells first w) ≡ cell_of (designates fs n)
  cell-formal z = ap cell_in (held-is z) ∙ word_cell fs (designates fs n) c

  found : (b : Bool) → direct w ≡ b → Finds fs cells n w first
  unfolding cell_by home_by target_by handed_by
  found true e =
      let z = direct_is w e in
      record {
        cell = rw (cell_by, e) (at.direct-cell z);
        home = rw (home_by, e) (home-direct z);
        target = rw (target_by, e) (at.direct-target z);
        handed = rw (handed_by, e) (ap pos (handed-word fs cells n w first at z));
      }
  found false e =
      let z = formal-is w e in
      record {
        cell = rw (cell_by, e) (cell-formal z);
        home = rw (home_by, e) (ap activation_in (cell-formal z) ∙ cell-activation (designates fs n) c);
        target = rw (target_by, e) (ap lead_in (held-is z) ∙ word-target fs (designates fs n) c);
        handed = rw (handed_by, e) (at.formal-word z);
      }

  pub finds : Finds fs cells n w first
  finds = found (direct w) refl

-- The two ways, from the invariant of a run

module _ (l : Limits) (t : Block) (keeps : Keeps t) (s : Stack) (sound : Sound l t s) (blocks nexts links : List ℕ) (cells : List ℤ) (holds : Holds s.frames blocks nexts links cells)
    (n : ℕ) (c : Coordinate) (here : coordinate_of (enclosure_of s.frames (length s.frames)) n ≡ some c) where
  abbrev fs : List Frame
  fs = s.frames

  abbrev w : ℕ
  w = name_word (enclosure_of fs (length fs)) n

  -- what it designates has a cell
  pub named-celled : Celled (designates fs n)
  named-celled =
      points-celled fs (length fs) (designates fs n) sound.bounded.each (omega (arith, sound.bounded.live, sound.few)) (named-points t keeps fs sound.chained n c here sound.bounded.each)

  pub found-by-display : (display : List ℕ) → Shows fs display → Finds fs cells n w (get_or display (level_in w) 0)
  found-by-display display shows =
      finds fs cells n w (get_or display (level_in w) 0) (named-by-display t keeps fs sound.chained n c here sound.wired blocks nexts links cells holds display shows) named-celled

  pub found-by-links : Finds fs cells n w (32 * follow links (pred (length fs)) (level_of fs (length fs) - level_in w))
  found-by-links = finds fs cells n w _ (named-by-links t keeps fs sound.chained n c here sound.wired blocks nexts links cells holds) named-celled
