-- Arrays that hold a stack of frames show its sheet: `frame-shown`, for each activation, and `encloser-is`, what encloses it; `sheet-more`: the sheet goes on
-- with the next one's words.
use Prim.Native.Nat.{ℕ, zero, suc, pred, ◌+◌, ◌*◌, ◌≤◌, ◌<◌}
use Rattle.std.proofs.Common.{arith, add-one, append_assoc, append-nil, ◌∙◌, length-append}
use Rattle.std.specs.Prelude.{List, [], ◌∷◌, ◌++◌, ◌≡◌, refl, ℤ, take, get_or}
use Rattle.std.proofs.Math.Option.{some}
use Rattle.std.proofs.Math.Path.{sym, ap, subst}
use Rattle.std.proofs.Math.IntN.{pos}
use Rattle.std.proofs.Math.ListN.{length, get_elem?}
use Rattle.language.specs.Sheet.{sheet_share}
use Rattle.language.specs.Text.{Block, block_at, block_stmts, stmt_at}
use Rattle.language.specs.Encoding.{stmt_fields}
use Rattle.language.specs.Call.{written}
use Rattle.laws.specs.Tests.{none≢some, some_inj}
use Rattle.laws.specs.Lists.{get_elem-in, get_elem-bound}
use Rattle.grammar.specs.Rules.{Keeps}
use Rattle.frames.specs.Frame.{Frame, designator_in, frame_words, frame_sheet}
use Rattle.frames.specs.Numbered.{numbered-suc, numbered-low}
use Rattle.frame_laws.specs.Innermost.{frame_words-length}
use Rattle.frame_laws.specs.Bounds.{BoundedFrames}
use Rattle.coordinates.specs.Enclosure.{Enclosure, Encloses}
use Rattle.coordinates.specs.Chain.{enclosing, enclosure_of, Linked, outermost, within, Chained}
use Rattle.coordinates.proofs.Levels.{frame-encloses}
use Rattle.coordinates.proofs.Kept.{chained-downward}
use Rattle.resolved.specs.Resolved.{place_of, stmt_place, resolved_of, Covers}
use Rattle.resolved.proofs.Places.{block-fields, stmt-place, even-block, enclosed-next, place-bound, end-bound}
use Rattle.resolved.proofs.Standing.{bounds-stands}
use Rattle.resolved.proofs.Words.{bounds-first}
use Rattle.arrays.specs.Holds.{designator_of, formal_word, Holds}
use Rattle.arrays.proofs.Cells.{points-celled, designator-of-cell, word_cell}
use Rattle.arrays.proofs.Reading.{formals-read, names-read}
use Rattle.resolved.specs.Layout.{first_in, cell_from, cell_in}
use Rattle.run_sheet.specs.Sizes.{size_at, readable, end-sum, size-read}
use Rattle.run_sheet.specs.Shown.{Passes, Counts, Owned, Shown, written_none}

-- the number of activation k's encloser, from its link: an activation is counted from 0, a frame from 1, and the program's link is none
unfoldable pub encloser_by : ℕ → ℕ → ℕ
encloser_by zero link = 0
encloser_by (suc k) link = suc link

pub encloser-none : (k link : ℕ) → k ≡ 0 → 0 ≡ encloser_by k link
unfolding encloser_by
encloser-none zero link e = refl
encloser-none (suc k) link e = absurd (omega arith)

pub encloser-some : (k link : ℕ) → (k ≡ 0 → ⊥) → link + 1 ≡ encloser_by k link
unfolding encloser_by
encloser-some zero link d = absurd (d refl)
encloser-some (suc k) link d = add-one link

-- the arrays hold the frames of a script that keeps the rules
pub record Held (code : List ℕ) (cells : List ℤ) (blocks nexts links : List ℕ) (fs : List Frame) : Type 0 where
  pub name : ℕ
  pub program : Block
  pub keeps : Keeps program
  pub covers : Covers code 0 (resolved_of name program)
  pub chained : Chained program fs
  pub bounded : BoundedFrames fs
  pub most : length fs ≤ 256
  pub holds : Holds fs blocks nexts links cells

module _ {code : List ℕ} {cells : List ℤ} {blocks nexts links : List ℕ} {fs : List Frame} (h : Held code cells blocks nexts links fs) (k : ℕ) (f : Frame) (e : get_elem? fs k ≡ some f) where
  around : Enclosure
  around = enclosure_of fs f.link

  encloses : Encloses h.program (enclosing f ∷ around)
  unfolding around
  encloses = frame-encloses h.program fs h.chained (suc k) f (numbered-suc fs k ∙ e)

  block-is : get_or blocks k 0 ≡ place_of (block_at f.text)
  block-is = (h.holds k f e).block-is

  pub block-even : 2 * get_or blocks k 0 ≡ block_at f.text
  unfolding enclosing
  block-even = ap (λ p. 2 * p) block-is ∙ even-block h.program h.keeps (enclosing f) around encloses

  passes : (i : ℕ) → 1 ≤ i → i < f.next → Passes code (stmt_place f.text i) (stmt_place f.text (suc i))
  unfolding enclosing
  passes zero l b = absurd (omega arith)
  passes (suc i) l b =
      let w = get_elem-in (block_stmts f.text) i (omega (arith, (h.bounded k f e).next_last)) in
      let x = w.0 in
      let at : stmt_place f.text (suc i) ≡ place_of (stmt_at x) = stmt-place f.text i x w.1 in
      let on = enclosed-next h.program h.keeps (enclosing f) around encloses i x w.1 in
      let s = size-read code h.name h.program h.keeps h.covers (enclosing f) around encloses i x w.1 in
      let size : size_at code (stmt_place f.text (suc i)) ≡ length (stmt_fields x) = ap (size_at code) at ∙ s.0 in
      let bound = place-bound h.program h.keeps (enclosing f) around encloses (suc (suc i)) (omega arith) in
      record {
        readable = readable code (stmt_place f.text (suc i)) (length (stmt_fields x)) size s.1 (omega arith);
        rises = omega arith;
        after = omega arith;
      }

  counts : Counts code (get_or blocks k 0) (get_or nexts k 0) f.next
  unfolding enclosing
  counts =
      record {
        places = stmt_place f.text;
        first = ap (λ p. first_in (get_or code (p + 1) 0)) block-is ∙ ap first_in (bounds-stands code h.name h.program h.keeps h.covers (enclosing f) around encloses) ∙ bounds-first h.program h.keeps (enclosing f) around encloses;
        one = (h.bounded k f e).next-first;
        last = sym (h.holds k f e).next-is;
        step = passes;
      }

  formal-shown : (i : ℕ) → i < length f.formals → (x : ℕ) × (get_or cells (cell_from k i) (pos 0) ≡ pos x) × (get_or f.words i (pos 0) ≡ pos (designator_of (cell_in x)))
  unfolding designator_in
  formal-shown i l =
      let w = (h.bounded k f e).handed i l in
      let y = w.0 in
      let c = points-celled fs k y h.bounded h.most w.2 in
      (formal_word fs y, (h.holds k f e).formals-are i l ∙ ap (λ (z : ℤ). pos (formal_word fs (designator_in z))) w.1, w.1 ∙ ap pos (sym (ap designator_of (word_cell fs y c) ∙ designator-of-cell y c)))

  owned : Owned cells (32 * k) (length f.formals) f.words
  owned =
      let b = h.bounded k f e in
      record {
        within = omega (arith, b.few, get_elem-bound fs k f e, h.most);
        formals-are = λ i l m. formal-shown i l;
        others-are = λ i l m. (h.holds k f e).others-are i l m;
      }

  linked : Linked h.program fs (suc k) f → encloser_by k (pred f.link) ≡ f.link
  linked (outermost one none stands) = sym (encloser-none k (pred f.link) (omega arith)) ∙ sym none
  linked (within g below stands inside) =
      let some-link = numbered-low fs f.link g stands in
      sym (encloser-some k (pred f.link) (λ z. omega arith)) ∙ omega arith

  -- its link leads to the frame that encloses its text
  pub encloser-is : encloser_by k (get_or links k 0) ≡ f.link
  encloser-is = ap (encloser_by k) (h.holds k f e).link-is ∙ linked (h.chained (suc k) f (numbered-suc fs k ∙ e))

  pub frame-shown : Shown code cells (get_or blocks k 0) (get_or nexts k 0) (32 * k) f.next f.words
  unfolding enclosing
  frame-shown =
      let b = h.bounded k f e in
      let formals = formals-read code h.name h.program h.keeps h.covers fs h.chained blocks nexts links cells h.holds k f e in
      let names = names-read code h.name h.program h.keeps h.covers fs h.chained blocks nexts links cells h.holds k f e in
      record {
        within = omega (arith, block-is, end-sum f.text, block-fields f.text, end-bound h.program h.keeps (enclosing f) around encloses);
        counts = counts;
        ends = omega (arith, (h.holds k f e).next-is, place-bound h.program h.keeps (enclosing f) around encloses f.next b.next-first);
        names-are = names ∙ sym b.count;
        owned = subst (λ n. Owned cells (32 * k) n f.words) (sym formals) owned;
      }

-- the sheet of one activation more
pub sheet-more : (fs : List Frame) (k : ℕ) (f : Frame) → get_elem? fs k ≡ some f → frame_sheet (take (suc k) fs) ≡ frame_sheet (take k fs) ++ frame_words f
unfolding frame_sheet
sheet-more (g ∷ fs) zero f e = ap (λ (x : Frame). frame_words x ++ []) (some_inj e) ∙ append-nil (frame_words f)
sheet-more (g ∷ fs) (suc k) f e = ap (λ (ws : List ℤ). frame_words g ++ ws) (sheet-more fs k f e) ∙ sym (append_assoc (frame_words g) (frame_sheet (take k fs)) (frame_words f))
sheet-more [] k f e = none≢some e

none-shown : (fs : List Frame) → frame_sheet (take 0 fs) ≡ []
unfolding frame_sheet
none-shown fs = refl

pub none_written : (fs : List Frame) (sheet : List ℤ) → (sheet ≡ written (frame_sheet (take 0 fs)) sheet) × (0 ≡ length (frame_sheet (take 0 fs)))
none_written fs sheet = (sym (ap (λ (x : List ℤ). written x sheet) (none-shown fs) ∙ written_none sheet), sym (ap length (none-shown fs)))

module _ {code : List ℕ} {cells : List ℤ} {blocks nexts links : List ℕ} {fs : List Frame} (h : Held code cells blocks nexts links fs) where
  -- there is room for it
  pub sheet-room : (k : ℕ) → k ≤ length fs → length (frame_sheet (take k fs)) ≤ sheet_share * k
  sheet-room zero l = omega (arith, ap length (none-shown fs))
  sheet-room (suc k) l =
      let w = get_elem-in fs k l in
      omega (arith, sheet-room k (omega arith), ap length (sheet-more fs k w.0 w.1), length-append (frame_sheet (take k fs)) (frame_words w.0), frame_words-length w.0, (h.bounded k w.0 w.1).few)

  module _ (k : ℕ) (f : Frame) (e : get_elem? fs k ≡ some f) where
    pub shown-at : (block next : ℕ) → block ≡ get_or blocks k 0 → next ≡ get_or nexts k 0 → Shown code cells block next (32 * k) f.next f.words
    shown-at block next p q = rw (p, q) (frame-shown h k f e)

    shown-words : pos (2 * get_or blocks k 0) ∷ pos f.next ∷ pos (encloser_by k (get_or links k 0)) ∷ f.words ≡ frame_words f
    unfolding frame_words
    shown-words = let block = block-even h k f e in let encloser = encloser-is h k f e in λ i. pos (block i) ∷ pos f.next ∷ pos (encloser i) ∷ f.words

    -- its encloser is a frame further out
    pub encloser-few : {encloser : ℕ} → encloser ≡ encloser_by k (get_or links k 0) → encloser < 2147483648
    encloser-few p = omega (arith, encloser-is h k f e, chained-downward h.program fs h.chained (suc k) f (numbered-suc fs k ∙ e), get_elem-bound fs k f e, h.most)

    -- the sheet goes on with what is shown
    pub sheet-on : (block encloser : ℕ) → block ≡ get_or blocks k 0 → encloser ≡ encloser_by k (get_or links k 0)
        → frame_sheet (take k fs) ++ (pos (2 * block) ∷ pos f.next ∷ pos encloser ∷ f.words) ≡ frame_sheet (take (k + 1) fs)
    sheet-on block encloser p q =
        (λ i. frame_sheet (take k fs) ++ (pos (2 * p i) ∷ pos f.next ∷ pos (q i) ∷ f.words)) ∙ ap (λ (ws : List ℤ). frame_sheet (take k fs) ++ ws) shown-words
        ∙ sym (ap (λ n. frame_sheet (take n fs)) (add-one k) ∙ sheet-more fs k f e)

    pub sheet-on-length : (at : ℕ) → at ≡ length (frame_sheet (take k fs)) → at + 3 + length f.words ≡ length (frame_sheet (take (k + 1) fs))
    sheet-on-length at p =
        omega (arith, ap (λ n. length (frame_sheet (take n fs))) (add-one k), ap length (sheet-more fs k f e), length-append (frame_sheet (take k fs)) (frame_words f), frame_words-length f)
