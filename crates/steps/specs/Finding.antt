-- Two ways of finding names that are right: `finds-by-display`, where the display is that of the innermost activation, and `finds-by-links`.
-- `by_first` is the way that has, by a name's word, the first cell of the activation that declares it. `Reaches`: what an engine may then
-- read of a name; `reached-by-display`, `reached-by-links`. Of any name, as the looked-up one: `unseen-word`, `seen-by-display`, `seen-by-links`.
use Rattle.std.specs.Prelude.{ℕ, pred, ◌+◌, ◌*◌, ◌-◌, ◌<◌, false, List, ◌≡◌, ℤ, pos, length, get_or, set}
use Rattle.std.proofs.Common.{arith, ap, ◌∙◌, le-ltb}
use Rattle.std.proofs.Math.Option.{some}
use Rattle.std.specs.Int.Signed.{lt_z}
use Rattle.language.specs.Machine.{Limits}
use Rattle.frames.specs.Frame.{designates}
use Rattle.coordinates.specs.Enclosure.{Coordinate, coordinate_of}
use Rattle.coordinates.specs.Chain.{enclosure_of, level_of}
use Rattle.coordinates.proofs.Next.{Resolved}
use Rattle.resolved.specs.Resolved.{position_in, level_in, direct, name_word}
use Rattle.arrays.specs.Holds.{designator_of, Shows}
use Rattle.arrays.proofs.Cells.{Celled, cell-bound, designator-of-cell}
use Rattle.arrays.proofs.Names.{NameAt, follow, unseen, seen, named-by-display, named-by-links}
use Rattle.arrays.specs.Found as found
use Rattle.arrays.proofs.Found as arrays_found
use Rattle.run_moves.specs.Acting.{Finding}
use Rattle.steps.specs.Standing.{Standing, Finds}
use Rattle.steps.specs.Here.{many}

abbrev pub by_first : List ℤ → (ℕ → ℕ) → Finding
by_first cells first =
    record {
      cell = λ v. found.cell_by cells (first v) v;
      home = λ v. found.home_by cells (first v) v;
      target = λ v. found.target_by cells (first v) v;
      handed = λ v. found.handed_by cells (first v) v;
    }

-- the name's own cell is one of the live activations', what a formal holds is not negative, and the cell that it finally stands for is one of
-- all words
pub record Reaches (cells : List ℤ) (live first v : ℕ) : Type 0 where
  pub own : first + position_in v < 32 * live + 32
  pub whole : direct v ≡ false → lt_z (get_or cells (first + position_in v) (pos 0)) (pos 0) ≡ false
  pub cell : found.cell_by cells first v < 8192

not_negative : (z : ℤ) (n : ℕ) → z ≡ pos n → lt_z z (pos 0) ≡ false
not_negative z n e = ap (λ (y : ℤ). lt_z y (pos 0)) e ∙ le-ltb n 0 (omega arith)

module _ {code : List ℕ} {l : Limits} {cells : List ℤ} {blocks nexts links : List ℕ} {table : List ℤ} {pairs live at end : ℕ} (w : Standing code l cells blocks nexts links table pairs live at end) where
  abbrev pub word_of : ℕ → ℕ
  word_of n = name_word (enclosure_of w.stack.frames (length w.stack.frames)) n

  -- the first cell of the activation so many links further out
  abbrev pub first_by_links : ℕ → ℕ
  first_by_links v = 32 * follow links (pred (length w.stack.frames)) (level_of w.stack.frames (length w.stack.frames) - level_in v)

  -- a name that is seen
  module _ (n : ℕ) (c : Coordinate) (e : coordinate_of (enclosure_of w.stack.frames (length w.stack.frames)) n ≡ some c) where
    celled : Celled (designates w.stack.frames n)
    celled = arrays_found.named-celled l w.program w.keeps w.stack w.sound blocks (set nexts live at) links cells w.holds n c e

    at-display : (display : List ℕ) → Shows w.stack.frames display → NameAt w.stack.frames cells n (word_of n) (get_or display (level_in (word_of n)) 0)
    at-display display shows = named-by-display w.program w.keeps w.stack.frames w.sound.chained n c e w.sound.wired blocks (set nexts live at) links cells w.holds display shows

    at-links : NameAt w.stack.frames cells n (word_of n) (first_by_links (word_of n))
    at-links = named-by-links w.program w.keeps w.stack.frames w.sound.chained n c e w.sound.wired blocks (set nexts live at) links cells w.holds

    module _ (first : ℕ) (a : NameAt w.stack.frames cells n (word_of n) first) where
      as-found : found.Finds w.stack.frames cells n (word_of n) first
      as-found = arrays_found.finds w.stack.frames cells n (word_of n) first a celled

      reaches : Reaches cells live first (word_of n)
      reaches =
          record {
            own = omega (arith, arrays_found.own-cell-bound w.stack.frames cells n (word_of n) first a celled, many w);
            whole = λ d. not_negative _ _ (a.formal-word (arrays_found.formal-is (word_of n) d));
            cell = omega (arith, as-found.cell, cell-bound (designates w.stack.frames n) celled);
          }

      designator : designator_of (found.cell_by cells first (word_of n)) ≡ designates w.stack.frames n
      designator = ap designator_of as-found.cell ∙ designator-of-cell (designates w.stack.frames n) celled

  -- the names of the next statement

  pub reached-by-display : (display : List ℕ) → Shows w.stack.frames display → (n : ℕ) → Resolved w.stack.frames n → Reaches cells live (get_or display (level_in (word_of n)) 0) (word_of n)
  reached-by-display display shows n r = reaches n r.coordinate r.here (get_or display (level_in (word_of n)) 0) (at-display n r.coordinate r.here display shows)

  pub reached-by-links : (n : ℕ) → Resolved w.stack.frames n → Reaches cells live (first_by_links (word_of n)) (word_of n)
  reached-by-links n r = reaches n r.coordinate r.here (first_by_links (word_of n)) (at-links n r.coordinate r.here)

  pub finds-by-display : (display : List ℕ) → Shows w.stack.frames display → Finds w.stack.frames (by_first cells (λ v. get_or display (level_in v) 0))
  finds-by-display display shows n r =
      let f = as-found n r.coordinate r.here (get_or display (level_in (word_of n)) 0) (at-display n r.coordinate r.here display shows) in
      record { cell-is = f.cell; home-is = f.home; target_is = f.target; handed-is = f.handed }

  pub finds-by-links : Finds w.stack.frames (by_first cells first_by_links)
  finds-by-links n r =
      let f = as-found n r.coordinate r.here (first_by_links (word_of n)) (at-links n r.coordinate r.here) in
      record { cell-is = f.cell; home-is = f.home; target_is = f.target; handed-is = f.handed }

  -- any name, as the looked-up one

  pub unseen-word : (n : ℕ) → word_of n ≡ 0 → designates w.stack.frames n ≡ 0
  unseen-word = unseen w.program w.keeps w.stack.frames w.sound.chained

  pub seen-by-display : (display : List ℕ) → Shows w.stack.frames display → (n : ℕ) → (word_of n ≡ 0 → ⊥)
      → Reaches cells live (get_or display (level_in (word_of n)) 0) (word_of n) × (designator_of (found.cell_by cells (get_or display (level_in (word_of n)) 0) (word_of n)) ≡ designates w.stack.frames n)
  seen-by-display display shows n d =
      let c = seen w.program w.keeps w.stack.frames w.sound.chained n d in
      let a = at-display n c.0 c.1 display shows in
      (reaches n c.0 c.1 (get_or display (level_in (word_of n)) 0) a, designator n c.0 c.1 (get_or display (level_in (word_of n)) 0) a)

  pub seen-by-links : (n : ℕ) → (word_of n ≡ 0 → ⊥)
      → Reaches cells live (first_by_links (word_of n)) (word_of n) × (designator_of (found.cell_by cells (first_by_links (word_of n)) (word_of n)) ≡ designates w.stack.frames n)
  seen-by-links n d =
      let c = seen w.program w.keeps w.stack.frames w.sound.chained n d in
      let a = at-links n c.0 c.1 in
      (reaches n c.0 c.1 (first_by_links (word_of n)) a, designator n c.0 c.1 (first_by_links (word_of n)) a)
