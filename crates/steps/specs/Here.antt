-- What is known of an engine between two steps (`Standing`): `many`, `last-is`, `here`: which of its frames is the innermost; `at-is`: the place
-- `at` is that of its next statement; `ended`: at the end of the text there is none; `next-stmt`: before the end there is one, and of it
-- `stands_at` (its place), `covered` (its words in the resolved script) and `goes-on-at` (the place after it).
use Rattle.std.specs.Prelude.{ℕ, suc, pred, ◌+◌, ◌*◌, ◌≤◌, ◌<◌, List, [], ◌∷◌, ◌++◌, ◌≡◌, ltb, ℤ, get_or, set}
use Rattle.std.proofs.Common.{arith, ◌∙◌, get_or-set_same}
use Rattle.std.proofs.Math.Option.{none, some}
use Rattle.std.proofs.Math.Path.{sym, ap, subst}
use borrow.Author.Tests.{ltb-true, ltb-false}
use Rattle.std.proofs.Math.ListN.{length, get_elem?}
use Rattle.language.specs.Basics.{last?}
use Rattle.language.specs.Text.{Stmt, block_stmts, stmt_at}
use Rattle.language.specs.Encoding.{stmt_fields}
use Rattle.language.specs.Machine.{Limits}
use Rattle.laws.specs.Tests.{split, some_inj}
use Rattle.laws.specs.Lists.{snoc-length, get_elem-seam, get_elem-none, get_elem-in}
use Rattle.frames.specs.Frame.{Frame, numbered, frame_stmt}
use Rattle.frames.specs.Numbered.{numbered-suc}
use Rattle.frame_laws.specs.Bounds.{FrameBounded}
use Rattle.frame_laws.specs.Innermost.{last-innermost}
use Rattle.coordinates.specs.Enclosure.{Encloses}
use Rattle.coordinates.specs.Chain.{enclosing, enclosure_of, Downward}
use Rattle.coordinates.proofs.Kept.{chained-downward}
use Rattle.coordinates.proofs.Levels.{frame-encloses, in-innermost}
use Rattle.resolved.specs.Resolved.{place_of, end_place, stmt_place, resolved_stmt, Covers}
use Rattle.resolved.proofs.Places.{stmt-place, enclosed-end-iff, enclosed-next, even-stmt}
use Rattle.resolved.proofs.Standing.{stmt-covered}
use Rattle.arrays.specs.Holds.{HoldsFrame}
use Rattle.steps.specs.Standing.{Standing}

module _ {code : List ℕ} {l : Limits} {cells : List ℤ} {blocks nexts links : List ℕ} {table : List ℤ} {pairs live at end : ℕ} (w : Standing code l cells blocks nexts links table pairs live at end) where
  pub many : length w.stack.frames ≡ suc live
  many = ap length w.frames-are ∙ snoc-length w.below w.frame ∙ ap suc w.depth

  pub last-is : last? w.stack.frames ≡ some w.frame
  last-is = last-innermost w.stack w.below w.frame w.frames-are

  pub here : get_elem? w.stack.frames live ≡ some w.frame
  here = ap (λ (fs : List Frame). get_elem? fs live) w.frames-are ∙ ap (get_elem? (w.below ++ (w.frame ∷ []))) (sym w.depth) ∙ get_elem-seam w.below w.frame []

  pub numbered-here : numbered w.stack.frames (suc live) ≡ some w.frame
  numbered-here = numbered-suc w.stack.frames live ∙ here

  pub same_end : (f : Frame) → numbered w.stack.frames (suc live) ≡ some f → end_place f.text ≡ end
  same_end f e = ap (λ (g : Frame). end_place g.text) (some_inj (sym e ∙ numbered-here)) ∙ sym w.end_is

  pub within-activations : suc live ≤ l.activations
  within-activations = omega (arith, many, w.sound.bounded.live)

  pub live-few : suc live ≤ 256
  live-few = omega (arith, within-activations, w.sound.few)

  pub held : HoldsFrame w.stack.frames cells (get_or blocks live 0) (get_or (set nexts live at) live 0) (get_or links live 0) live w.frame
  held = w.holds live w.frame here

  pub at-is : at ≡ stmt_place w.frame.text w.frame.next
  at-is = sym (get_or-set_same nexts live at 0 (omega (arith, live-few, w.nexts-long))) ∙ held.next-is

  pub here-bounded : FrameBounded w.stack.frames live w.frame
  here-bounded = w.sound.bounded.each live w.frame here

  pub downward : Downward w.stack.frames
  downward = chained-downward w.program w.stack.frames w.sound.chained

  pub encloses-here : Encloses w.program (enclosing w.frame ∷ enclosure_of w.stack.frames w.frame.link)
  encloses-here = frame-encloses w.program w.stack.frames w.sound.chained (suc live) w.frame numbered-here

  -- The end of the text

  ends-iff : (stmt_place w.frame.text w.frame.next ≡ end_place w.frame.text → length (block_stmts w.frame.text) < w.frame.next)
      × (length (block_stmts w.frame.text) < w.frame.next → stmt_place w.frame.text w.frame.next ≡ end_place w.frame.text)
  unfolding enclosing
  ends-iff = enclosed-end-iff w.program w.keeps (enclosing w.frame) (enclosure_of w.stack.frames w.frame.link) encloses-here w.frame.next here-bounded.next-first

  pub ended : at ≡ end → frame_stmt w.frame ≡ none
  unfolding frame_stmt
  ended e =
      let h : length (block_stmts w.frame.text) < w.frame.next = ends-iff.0 (sym at-is ∙ e ∙ w.end_is) in
      get_elem-none (block_stmts w.frame.text) (pred w.frame.next) (omega arith)

  pub next-stmt : (at ≡ end → ⊥) → (x : Stmt) × (frame_stmt w.frame ≡ some x)
  unfolding frame_stmt
  next-stmt d =
      split (ltb (length (block_stmts w.frame.text)) w.frame.next)
      (λ t. absurd (d (at-is ∙ ends-iff.1 (ltb-true (length (block_stmts w.frame.text)) w.frame.next t) ∙ sym w.end_is)))
      (λ t. get_elem-in (block_stmts w.frame.text) (pred w.frame.next) (omega (arith, ltb-false (length (block_stmts w.frame.text)) w.frame.next t, here-bounded.next-first)))

  -- The next statement

  module _ (x : Stmt) (q : frame_stmt w.frame ≡ some x) where
    numbered-one : suc (pred w.frame.next) ≡ w.frame.next
    numbered-one = omega (arith, here-bounded.next-first)

    at-index : get_elem? (block_stmts w.frame.text) (pred w.frame.next) ≡ some x
    unfolding frame_stmt
    at-index = q

    pub stands_at : at ≡ place_of (stmt_at x)
    stands_at = at-is ∙ ap (stmt_place w.frame.text) (sym numbered-one) ∙ stmt-place w.frame.text (pred w.frame.next) x at-index

    pub even-at : 2 * at ≡ stmt_at x
    unfolding enclosing
    even-at = ap (λ i. 2 * i) stands_at ∙ even-stmt w.program w.keeps (enclosing w.frame) (enclosure_of w.stack.frames w.frame.link) encloses-here (pred w.frame.next) x at-index

    pub covered : Covers code at (resolved_stmt w.name x (enclosure_of w.stack.frames (length w.stack.frames)))
    unfolding enclosing
    covered =
        subst (λ i. Covers code i (resolved_stmt w.name x (enclosure_of w.stack.frames (length w.stack.frames)))) (sym stands_at)
        (in-innermost w.program w.stack.frames w.sound.chained w.frame last-is (λ es. Covers code (place_of (stmt_at x)) (resolved_stmt w.name x es))
        (λ es h. stmt-covered code w.name w.program w.keeps w.covers (enclosing w.frame) es h (pred w.frame.next) x at-index))

    pub goes-on-at : stmt_place w.frame.text (suc w.frame.next) ≡ at + length (stmt_fields x)
    unfolding enclosing
    goes-on-at =
        ap (λ i. stmt_place w.frame.text (suc i)) (sym numbered-one)
        ∙ enclosed-next w.program w.keeps (enclosing w.frame) (enclosure_of w.stack.frames w.frame.link) encloses-here (pred w.frame.next) x at-index
        ∙ ap (λ i. i + length (stmt_fields x)) (sym stands_at)
