-- Words read and stored. `word_held`: the word of a declared name stands in its cell. `holds-stored`: storing a value there is what the frame
-- machine's store is. `holds-agreeing`: arrays that agree with these as far as the stack goes hold it too.
use Prim.Native.Nat.{ℕ, pred, ◌+◌, ◌*◌, ◌%◌, ◌/◌, ◌≤◌, ◌<◌}
use Rattle.std.proofs.Common.{arith, ◌∙◌}
use mathlib.Core.List.{List}
use Rattle.std.proofs.Math.Option.{some}
use Rattle.std.specs.Prelude.{◌≡◌, eqb, ℤ, set}
use Rattle.std.proofs.Math.Path.{sym, ap, subst, subst₂}
use borrow.Author.Tests.{eqb-true, eqb-false}
use Rattle.std.proofs.Math.IntN.{pos}
use Rattle.std.proofs.Math.ListN.{length, get_or, get_elem?, length-set}
use Rattle.std.proofs.Math.Seq.{get_or-set_same, get_or-set_other}
use Rattle.laws.specs.Tests.{split, some_inj}
use Rattle.laws.specs.Lists.{get_elem-bound, get_elem-set-same, get_elem-set-other}
use Rattle.frames.specs.Frame.{Frame, designator_in, frame_number, place, word_at, put_word, rewritten}
use Rattle.frames.specs.Numbered.{numbered-high, numbered-index}
use Rattle.frame_laws.specs.Finding.{word_at-found, put_word-found}
use Rattle.frame_laws.specs.Bounds.{Points, FrameBounded, BoundedFrames}
use Rattle.coordinates.specs.Chain.{SameOutlines}
use Rattle.coordinates.proofs.Moves.{alike_set, outline-rewritten}
use Rattle.arrays.specs.Holds.{cell_of, formal_word, HoldsFrame, Holds}
use Rattle.arrays.proofs.Cells.{word-alike}

-- what a frame's formals stand for lies in the first b frames
abbrev pub Outer : ℕ → Frame → Type 0
Outer b f = (i : ℕ) → i < length f.formals → frame_number (designator_in (get_or f.words i (pos 0))) ≤ b

pub bounded-outer : (fs : List Frame) (k : ℕ) (f : Frame) → FrameBounded fs k f → Outer k f
unfolding frame_number designator_in
bounded-outer fs k f s i h = let w = s.handed i h in subst (λ (z : ℤ). designator_in z / 64 ≤ k) (sym w.1) w.2.last

-- a frame depends on the stack only through what its formals lead to
pub frame-over : (fs gs : List Frame) (b : ℕ) → SameOutlines b fs gs → (cells : List ℤ) (block next link k : ℕ) (f : Frame) → k ≤ b → Outer k f → HoldsFrame fs cells block next link k f → HoldsFrame gs cells block next link k f
frame-over fs gs b a cells block next link k f l outer h =
    record {
      block-is = h.block-is;
      next-is = h.next-is;
      link-is = h.link-is;
      formals-are = λ i p. h.formals-are i p ∙ ap pos (sym (word-alike fs gs b a (designator_in (get_or f.words i (pos 0))) (omega (arith, outer i p))));
      others-are = h.others-are;
    }

module _ (fs : List Frame) (cells : List ℤ) (block next link k : ℕ) (f : Frame) (s : FrameBounded fs k f) (h : HoldsFrame fs cells block next link k f) where
  -- and on the words of its own names alone
  pub frame-words : (cells' : List ℤ) → ((i : ℕ) → i < 32 → get_or cells' (32 * k + i) (pos 0) ≡ get_or cells (32 * k + i) (pos 0)) → HoldsFrame fs cells' block next link k f
  frame-words cells' same =
      record {
        block-is = h.block-is;
        next-is = h.next-is;
        link-is = h.link-is;
        formals-are = λ i p. same i (omega (arith, s.count, s.few)) ∙ h.formals-are i p;
        others-are = λ i p q. same i (omega (arith, s.few)) ∙ h.others-are i p q;
      }

-- Arrays that agree as far as the stack goes

pub holds-agreeing : (fs : List Frame) (blocks blocks' nexts nexts' links links' : List ℕ) (cells cells' : List ℤ) → BoundedFrames fs
    → ((k : ℕ) → k < length fs → get_or blocks' k 0 ≡ get_or blocks k 0) → ((k : ℕ) → k < length fs → get_or nexts' k 0 ≡ get_or nexts k 0) → ((k : ℕ) → k < length fs → get_or links' k 0 ≡ get_or links k 0)
    → ((c : ℕ) → c < 32 * length fs → get_or cells' c (pos 0) ≡ get_or cells c (pos 0)) → Holds fs blocks nexts links cells → Holds fs blocks' nexts' links' cells'
holds-agreeing fs blocks blocks' nexts nexts' links links' cells cells' bounded b n l w h k f e =
    let p = get_elem-bound fs k f e in
    let g = frame-words fs cells (get_or blocks k 0) (get_or nexts k 0) (get_or links k 0) k f (bounded k f e) (h k f e) cells' (λ i q. w (32 * k + i) (omega arith)) in
    record { block-is = b k p ∙ g.block-is; next-is = n k p ∙ g.next-is; link-is = l k p ∙ g.link-is; formals-are = g.formals-are; others-are = g.others-are }

-- The word of a declared name

module _ (fs : List Frame) (blocks nexts links : List ℕ) (cells : List ℤ) (bounded : BoundedFrames fs) (holds : Holds fs blocks nexts links cells) (m x : ℕ) (p : Points fs m x) where
  home-index : get_elem? fs (pred (frame_number x)) ≡ some p.home
  unfolding frame_number
  home-index = numbered-index fs (x / 64) p.home p.stands

  home-held : HoldsFrame fs cells (get_or blocks (pred (frame_number x)) 0) (get_or nexts (pred (frame_number x)) 0) (get_or links (pred (frame_number x)) 0) (pred (frame_number x)) p.home
  home-held = holds (pred (frame_number x)) p.home home-index

  home-bounded : FrameBounded fs (pred (frame_number x)) p.home
  home-bounded = bounded (pred (frame_number x)) p.home home-index

  -- its place is past the formals, and within the frame's words
  past-formals : length p.home.formals ≤ place x
  unfolding place
  past-formals = let e : length p.home.formals ≤ pred (x % 64) = omega (arith, p.past) in e

  within-words : place x < length p.home.words
  unfolding place
  within-words = let e : pred (x % 64) < length p.home.words = omega (arith, p.past, p.within, home-bounded.count) in e

  pub word_held : get_or cells (cell_of x) (pos 0) ≡ word_at fs x
  unfolding cell_of frame_number
  word_held = home-held.others-are (place x) past-formals within-words ∙ sym (word_at-found fs x p.home p.stands)

  -- A store

  module _ (z : ℤ) (room : 32 * length fs ≤ length cells) where
    stored : Frame
    stored = rewritten p.home (set p.home.words (place x) z)

    after : List Frame
    after = set fs (pred (frame_number x)) stored

    alike : SameOutlines (length fs) fs after
    unfolding stored after frame_number
    alike = alike_set fs (x / 64) p.home stored p.stands (outline-rewritten p.home (set p.home.words (place x) z)) (length fs)

    cell_room : cell_of x < length cells
    unfolding cell_of frame_number
    cell_room =
        let h : x / 64 ≤ length fs = numbered-high fs (x / 64) p.home p.stands in
        let e : 32 * pred (x / 64) + place x < length cells = omega (arith, p.first, within-words, home-bounded.few) in
        e

    home-stored : HoldsFrame fs (set cells (cell_of x) z) (get_or blocks (pred (frame_number x)) 0) (get_or nexts (pred (frame_number x)) 0) (get_or links (pred (frame_number x)) 0) (pred (frame_number x)) stored
    unfolding stored rewritten cell_of
    home-stored =
        let c = 32 * pred (frame_number x) + place x in
        let f = p.home in
        let h = home-held in
        record {
          block-is = h.block-is;
          next-is = h.next-is;
          link-is = h.link-is;
          formals-are = λ i q.
              get_or-set_other cells c (32 * pred (frame_number x) + i) z (pos 0) (λ e. omega (arith, past-formals)) ∙ h.formals-are i q
              ∙ ap (λ (y : ℤ). pos (formal_word fs (designator_in y))) (sym (get_or-set_other f.words (place x) i z (pos 0) (λ e. omega (arith, past-formals))));
          others-are = λ i q r.
              split (eqb i (place x))
              (λ t. let e : i ≡ place x = eqb-true i (place x) t in
              ap (λ j. get_or (set cells c z) (32 * pred (frame_number x) + j) (pos 0)) e ∙ get_or-set_same cells c z (pos 0) cell_room
              ∙ sym (ap (λ j. get_or (set f.words (place x) z) j (pos 0)) e ∙ get_or-set_same f.words (place x) z (pos 0) within-words))
              (λ t. let d = eqb-false i (place x) t in
              get_or-set_other cells c (32 * pred (frame_number x) + i) z (pos 0) (λ e. d (omega arith)) ∙ h.others-are i q (omega (arith, length-set f.words (place x) z))
              ∙ sym (get_or-set_other f.words (place x) i z (pos 0) d));
        }

    other-stored : (k : ℕ) (f : Frame) → get_elem? fs k ≡ some f → (k ≡ pred (frame_number x) → ⊥) → HoldsFrame fs (set cells (cell_of x) z) (get_or blocks k 0) (get_or nexts k 0) (get_or links k 0) k f
    unfolding cell_of
    other-stored k f e d =
        frame-words fs cells (get_or blocks k 0) (get_or nexts k 0) (get_or links k 0) k f (bounded k f e) (holds k f e) (set cells (cell_of x) z)
        (λ i q. get_or-set_other cells (32 * pred (frame_number x) + place x) (32 * k + i) z (pos 0) (λ j. d (omega (arith, within-words, home-bounded.few))))

    outer-stored : Outer (pred (frame_number x)) stored
    unfolding stored rewritten
    outer-stored i q =
        subst (λ (y : ℤ). frame_number (designator_in y) ≤ pred (frame_number x)) (sym (get_or-set_other p.home.words (place x) i z (pos 0) (λ e. omega (arith, past-formals))))
        (bounded-outer fs (pred (frame_number x)) p.home home-bounded i q)

    by-stored : (P : ℕ → Frame → Type 0) → P (pred (frame_number x)) stored → ((k : ℕ) (f : Frame) → get_elem? fs k ≡ some f → (k ≡ pred (frame_number x) → ⊥) → P k f)
        → (k : ℕ) (f : Frame) → get_elem? after k ≡ some f → P k f
    unfolding after frame_number
    by-stored P new old k f e =
        split (eqb k (pred (x / 64)))
        (λ t. let c : k ≡ pred (x / 64) = eqb-true k (pred (x / 64)) t in
        let q : stored ≡ f = some_inj (sym (get_elem-set-same fs (pred (x / 64)) p.home stored (numbered-index fs (x / 64) p.home p.stands)) ∙ ap (get_elem? after) (sym c) ∙ e) in
        subst₂ P (sym c) q new)
        (λ t. let d = eqb-false k (pred (x / 64)) t in
        old k f (sym (get_elem-set-other fs (pred (x / 64)) k stored d) ∙ e) d)

    abbrev Kept : ℕ → Frame → Type 0
    Kept k f = (k < length fs) × Outer k f × HoldsFrame fs (set cells (cell_of x) z) (get_or blocks k 0) (get_or nexts k 0) (get_or links k 0) k f

    frames-kept : (k : ℕ) (f : Frame) → get_elem? after k ≡ some f → Kept k f
    frames-kept =
        by-stored Kept (get_elem-bound fs (pred (frame_number x)) p.home home-index, outer-stored, home-stored)
        (λ k f e d. (get_elem-bound fs k f e, bounded-outer fs k f (bounded k f e), other-stored k f e d))

    pub holds-stored : Holds (put_word fs x z) blocks nexts links (set cells (cell_of x) z)
    unfolding after stored frame_number
    holds-stored =
        subst (λ (gs : List Frame). Holds gs blocks nexts links (set cells (cell_of x) z)) (sym (put_word-found fs x z p.home p.stands))
        (λ k f e. let h = frames-kept k f e in
        frame-over fs after (length fs) alike (set cells (cell_of x) z) (get_or blocks k 0) (get_or nexts k 0) (get_or links k 0) k f (omega (arith, h.0)) h.1 h.2)
