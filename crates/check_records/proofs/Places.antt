-- The record at an offset, at each place: the cases of `record_at`.
-- Assumes nothing.
use mathlib.Core.Path.{◌≡◌, sym, ◌∙◌, ap}
use mathlib.Core.Bool.{Bool, false}
use mathlib.Core.List.{List}
use Prim.Native.Nat.{ℕ, ◌+◌, ◌*◌, ◌<◌, ◌≤◌}
use native.Mathlib.Omega.{arith}
use lib.Dec.{leb}
use lib.ListN.{length, get_or}
use borrow.Author.Tests.{leb-false}
use Rattle.language.specs.Encoding.{two}
use Rattle.language.specs.Structure.{Row, block_marks, formal_marks, decl_marks, stmt_marks, take-record}
use Rattle.language.specs.declared.Refusal.TheVariants.{PastTheEnd, MarkMisplaced}
use Rattle.check_marks.specs.Marks.{decl_mark, stmt_mark, only_mark, Fit, fit_in, fit_at}
use Rattle.check_records.specs.Taking.{unread, taken, taken_at, record_at}
use Rattle.check_marks.specs.declared.Mark.{Mark}
use Rattle.check_marks.specs.declared.Mark.TheVariants.{BK, FM}
use Rattle.check_marks.specs.declared.Place.{Place}
use Rattle.check_marks.specs.declared.Place.TheVariants.{Block, Formal, Declaration, Statement}
use Rattle.check_marks.proofs.Table.{matched}
use Rattle.std.specs.Prelude.{None}
use Rattle.check_records.specs.declared.Reading.TheVariants.{Refused}
use Rattle.check_records.proofs.Taking.{fitted, no-mark, misplaced, cut_off, whole}

module _ (bs : List ℕ) (at : ℕ) where
  abbrev letters : ℕ
  letters = two (get_or bs at 0) (get_or bs (at + 1) 0)

  module _ {M : Type 0} (f : M → Mark) (rows : List (Row M)) where
    none_of : length bs < at + 2 → taken f (take-record rows at (unread bs at)) ≡ Refused PastTheEnd at
    unfolding taken
    none_of h = ap (taken f) (no-mark rows bs at h)

    stray-of : at + 2 ≤ length bs → fit_in f letters rows ≡ None → taken f (take-record rows at (unread bs at)) ≡ Refused MarkMisplaced at
    unfolding taken
    stray-of h e = ap (taken f) (misplaced rows bs at f h e)

    cut_of : (n : ℕ) (m : Mark) → at + 2 ≤ length bs → fit_in f letters rows ≡ matched n m → length bs < at + 2 + 2 * n → taken f (take-record rows at (unread bs at)) ≡ Refused PastTheEnd at
    unfolding taken
    cut_of n m h e short = ap (taken f) (cut_off rows bs at f n m h e short)

    whole_of : (n : ℕ) (m : Mark) → at + 2 ≤ length bs → fit_in f letters rows ≡ matched n m → at + 2 + 2 * n ≤ length bs → taken f (take-record rows at (unread bs at)) ≡ taken_at m n bs (at + 2)
    unfolding taken
    whole_of n m h e fits =
        ap (taken f) (whole rows bs at f n m h e fits) ∙ ap (λ (x : Mark). taken_at x n bs (at + 2)) (fitted f letters rows n m e).mark-is

  pub at_none : (p : Place) → length bs < at + 2 → record_at p bs at ≡ Refused PastTheEnd at
  unfolding record_at
  at_none Block = none_of (only_mark BK) block_marks
  at_none Formal = none_of (only_mark FM) formal_marks
  at_none Declaration = none_of decl_mark decl_marks
  at_none Statement = none_of stmt_mark stmt_marks

  pub at-stray : (p : Place) → at + 2 ≤ length bs → fit_at p letters ≡ None → record_at p bs at ≡ Refused MarkMisplaced at
  unfolding record_at fit_at
  at-stray Block = stray-of (only_mark BK) block_marks
  at-stray Formal = stray-of (only_mark FM) formal_marks
  at-stray Declaration = stray-of decl_mark decl_marks
  at-stray Statement = stray-of stmt_mark stmt_marks

  pub at_cut : (p : Place) (n : ℕ) (m : Mark) → at + 2 ≤ length bs → fit_at p letters ≡ matched n m → length bs < at + 2 + 2 * n → record_at p bs at ≡ Refused PastTheEnd at
  unfolding record_at fit_at
  at_cut Block = cut_of (only_mark BK) block_marks
  at_cut Formal = cut_of (only_mark FM) formal_marks
  at_cut Declaration = cut_of decl_mark decl_marks
  at_cut Statement = cut_of stmt_mark stmt_marks

  pub at-whole : (p : Place) (n : ℕ) (m : Mark) → at + 2 ≤ length bs → fit_at p letters ≡ matched n m → at + 2 + 2 * n ≤ length bs → record_at p bs at ≡ taken_at m n bs (at + 2)
  unfolding record_at fit_at
  at-whole Block = whole_of (only_mark BK) block_marks
  at-whole Formal = whole_of (only_mark FM) formal_marks
  at-whole Declaration = whole_of decl_mark decl_marks
  at-whole Statement = whole_of stmt_mark stmt_marks

-- the same by the code's search for the letters that are there
module _ (p : Place) (bs : List ℕ) (at : ℕ) (h : at + 2 ≤ length bs) {w : ℕ} {x : Fit} (q : w ≡ letters bs at) (f : x ≡ fit_at p w) where
  is-fit : {y : Fit} → x ≡ y → fit_at p (letters bs at) ≡ y
  is-fit e = sym (f ∙ ap (fit_at p) q) ∙ e

  pub is-stray : x ≡ None → Refused MarkMisplaced at ≡ record_at p bs at
  is-stray e = sym (at-stray bs at p h (is-fit e))

  module _ (n : ℕ) (m : Mark) (e : x ≡ matched n m) where
    pub is_cut : length bs < at + 2 + 2 * n → Refused PastTheEnd at ≡ record_at p bs at
    is_cut short = sym (at_cut bs at p n m h (is-fit e) short)

    pub is_whole : at + 2 + 2 * n ≤ length bs → taken_at m n bs (at + 2) ≡ record_at p bs at
    is_whole fits = sym (at-whole bs at p n m h (is-fit e) fits)

-- and by its test whether a mark is there
module _ (bs : List ℕ) (at : ℕ) {b : Bool} (e : b ≡ leb (at + 2) (length bs)) where
  pub absent : (p : Place) → b ≡ false → Refused PastTheEnd at ≡ record_at p bs at
  absent p t = let h = leb-false (at + 2) (length bs) (sym e ∙ t) in sym (at_none bs at p (omega arith))
