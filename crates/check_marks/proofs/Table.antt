-- The constant table, and its rule: the marks that it allows at a place, searched in order, give what the definitions' rows of that place
-- give. Assumes nothing.
use mathlib.Core.Path.{◌≡◌, refl, sym, ◌∙◌, ap}
use mathlib.Core.Bool.{true, false, ◌&&◌}
use mathlib.Core.List.{List, [], ◌∷◌}
use Prim.Native.Nat.{ℕ, suc, ◌+◌, ◌/◌, ◌%◌, ◌<◌, ◌≤◌}
use native.Mathlib.Numerals.{add-one}
use lib.Dec.{eqb}
use lib.ListN.{length, get_or, drop, drop_of_length-le}
use lib.Seq.{drop-cons}
use borrow.Author.Tests.{eq-eqb, ne_eqb}
use Rattle.language.specs.Structure.{block_marks, formal_marks, decl_marks, stmt_marks}
use Rattle.check_marks.specs.Marks.{Fit, decl_mark, stmt_mark, only_mark, bit_of, fit_in, fit_at}
use Rattle.check_marks.specs.declared.Mark.{Mark}
use Rattle.check_marks.specs.declared.Mark.TheVariants.{BK, VR, LB, PR, FM, CL, GO, IF, KN, AR, AD, RM, QY}
use Rattle.check_marks.specs.declared.Place.{Place}
use Rattle.check_marks.specs.declared.Place.TheVariants.{Block, Formal, Declaration, Statement}
use Rattle.check_marks.specs.declared.Entry.{Entry}
use Rattle.std.specs.Prelude.{Some, None}

-- what is found: so many fields, and the mark
abbrev pub matched : ℕ → Mark → Fit
matched n m = Some (record { count = n; mark = m })

abbrev entry : ℕ → ℕ → ℕ → Mark → Entry
entry w n ps m = record { letters = w; count = n; places = ps; mark = m }

-- `MARKS`, as the code has it
abbrev entries : List Entry
entries =
    entry 0x4d46 2 2 FM ∷
    entry 0x5256 1 4 VR ∷
    entry 0x424c 2 4 LB ∷
    entry 0x5250 2 4 PR ∷
    entry 0x4b42 2 9 BK ∷
    entry 0x4c43 2 8 CL ∷
    entry 0x4f47 1 8 GO ∷
    entry 0x4649 2 8 IF ∷
    entry 0x4e4b 3 8 KN ∷
    entry 0x5241 4 8 AR ∷
    entry 0x4441 2 8 AD ∷
    entry 0x4d52 2 8 RM ∷
    entry 0x5951 3 8 QY ∷
    []

-- the first with these letters, of those that may stand at the place with this bit
pub fit_from : ℕ → ℕ → List Entry → Fit
fit_from b w [] = None
fit_from b w (e ∷ es) = elim (eqb (e.places / b % 2) 1 && eqb w e.letters) [ true ↦ matched e.count e.mark | false ↦ fit_from b w es ]

table-rule : (p : Place) (w : ℕ) → fit_from (bit_of p) w entries ≡ fit_at p w
unfolding fit_from fit_at fit_in block_marks formal_marks decl_marks stmt_marks decl_mark stmt_mark only_mark
table-rule Block w = refl
table-rule Formal w = refl
table-rule Declaration w = refl
table-rule Statement w = refl

pub bit-rule : (p : Place) (w : ℕ) {b : ℕ} → b ≡ bit_of p → fit_from b w entries ≡ fit_at p w
bit-rule p w q = ap (λ k. fit_from k w entries) q ∙ table-rule p w

-- a search through any table, row by row
module _ (b w : ℕ) where
  cons-fits : (e : Entry) (es : List Entry) → e.places / b % 2 ≡ 1 → e.letters ≡ w → fit_from b w (e ∷ es) ≡ matched e.count e.mark
  unfolding fit_from
  cons-fits e es p q = rw (eq-eqb (e.places / b % 2) 1 p, eq-eqb w e.letters (sym q), fit_from)

  cons-other : (e : Entry) (es : List Entry) → e.places / b % 2 ≡ 1 → (e.letters ≡ w → ⊥) → fit_from b w (e ∷ es) ≡ fit_from b w es
  unfolding fit_from
  cons-other e es p q = rw (eq-eqb (e.places / b % 2) 1 p, ne_eqb w e.letters (λ x. q (sym x)), fit_from)

  cons-barred : (e : Entry) (es : List Entry) → (e.places / b % 2 ≡ 1 → ⊥) → fit_from b w (e ∷ es) ≡ fit_from b w es
  unfolding fit_from
  cons-barred e es p = rw (ne_eqb (e.places / b % 2) 1 p, fit_from)

  module _ (es : List Entry) (i : ℕ) (d : Entry) (h : i < length es) where
    abbrev here : Entry
    here = get_or es i d

    at_row : fit_from b w (drop i es) ≡ fit_from b w (here ∷ drop (suc i) es)
    at_row = ap (fit_from b w) (drop-cons es i d h)

    next_row : fit_from b w (here ∷ drop (suc i) es) ≡ fit_from b w (drop (suc i) es) → fit_from b w (drop (i + 1) es) ≡ fit_from b w (drop i es)
    next_row q = ap (λ k. fit_from b w (drop k es)) (add-one i) ∙ sym (at_row ∙ q)

    pub at-fits : here.places / b % 2 ≡ 1 → here.letters ≡ w → fit_from b w (drop i es) ≡ matched here.count here.mark
    at-fits p q = at_row ∙ cons-fits here (drop (suc i) es) p q

    pub at_other : here.places / b % 2 ≡ 1 → (here.letters ≡ w → ⊥) → fit_from b w (drop (i + 1) es) ≡ fit_from b w (drop i es)
    at_other p q = next_row (cons-other here (drop (suc i) es) p q)

    pub at-barred : (here.places / b % 2 ≡ 1 → ⊥) → fit_from b w (drop (i + 1) es) ≡ fit_from b w (drop i es)
    at-barred p = next_row (cons-barred here (drop (suc i) es) p)

  pub none_left : (es : List Entry) (i : ℕ) → length es ≤ i → fit_from b w (drop i es) ≡ None
  unfolding fit_from
  none_left es i h = ap (fit_from b w) (drop_of_length-le es h)
