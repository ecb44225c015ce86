-- One record, read by the definitions over the fields from an offset on: each case of the code's reading, and where reading goes on.
-- Assumes nothing.
use mathlib.Core.Path.{◌≡◌, refl, sym, ◌∙◌, ap}
use mathlib.Core.Bool.{Bool, true, false}
use mathlib.Core.List.{List, [], ◌∷◌}
use Prim.Native.Nat.{ℕ, ◌+◌, ◌*◌, ◌<◌, ◌≤◌}
use native.Mathlib.Omega.{arith}
use lib.Dec.{eqb}
use lib.ListN.{length, get_or, drop, take, length-take}
use lib.Seq.{get_or-take}
use borrow.Author.Tests.{eq-eqb, ne_eqb}
use Rattle.language.specs.Encoding.{two}
use Rattle.language.specs.Structure.{Reading as Outcome, read, refuse, Row, Record, Reader, ◌>>=◌, give, here, fields, fit, take-record}
use Rattle.language.specs.declared.Refusal.TheVariants.{PastTheEnd, MarkMisplaced}
use Rattle.laws.specs.Readers.{bind-read, bind-refuse, filled}
use Rattle.check_marks.specs.Marks.{Fit, fit_in}
use Rattle.check_records.specs.Taking.{unread}
use Rattle.check_marks.specs.declared.Mark.{Mark}
use Rattle.check_marks.specs.declared.Matched.{Matched}
use Rattle.check_marks.proofs.Table.{matched}
use Rattle.std.specs.Prelude.{None}
use Rattle.check_records.proofs.Unread.{unread-drop, unread-enough, unread-short, unread-at}

-- the next k fields, where they are there and where they are not
pub fields-all : (o k at : ℕ) (ws : List ℕ) → k ≤ length ws → fields o k at ws ≡ read (take k ws) (at + 2 * k) (drop k ws)
unfolding fields
fields-all o k at ws h = rw (eq-eqb (length (take k ws)) k (omega (arith, length-take k ws)), fields)

pub fields-none : (o k at : ℕ) (ws : List ℕ) → length ws < k → fields o k at ws ≡ refuse PastTheEnd o
unfolding fields
fields-none o k at ws h = rw (ne_eqb (length (take k ws)) k (λ e. omega (arith, length-take k ws)), fields)

-- the row that `fit` gives is the one that `fit_in` tells of
pub record Fitting {M : Type 0} (f : M → Mark) (w : ℕ) (rows : List (Row M)) (n : ℕ) (m : Mark) : Type 0 where
  pub row : Row M
  pub count-is : row.count ≡ n
  pub mark-is : f row.mark ≡ m
  pub fits : (o at : ℕ) (ws : List ℕ) → fit o w rows at ws ≡ read row at ws

module _ {M : Type 0} (f : M → Mark) (w : ℕ) where
  skipped : (r : Row M) (rs : List (Row M)) → eqb w r.letters ≡ false → (o : ℕ) → fit o w (r ∷ rs) ≡ fit o w rs
  unfolding fit
  skipped r rs e o = rw (e, fit)

  given : (r : Row M) (rs : List (Row M)) → eqb w r.letters ≡ true → (o at : ℕ) (ws : List ℕ) → fit o w (r ∷ rs) at ws ≡ read r at ws
  unfolding fit give
  given r rs e o at ws = rw (e, fit)

  in-skipped : (r : Row M) (rs : List (Row M)) → eqb w r.letters ≡ false → fit_in f w (r ∷ rs) ≡ fit_in f w rs
  unfolding fit_in
  in-skipped r rs e = rw (e, fit_in)

  in-given : (r : Row M) (rs : List (Row M)) → eqb w r.letters ≡ true → fit_in f w (r ∷ rs) ≡ matched r.count (f r.mark)
  unfolding fit_in
  in-given r rs e = rw (e, fit_in)

  found_nothing : {n : ℕ} {m : Mark} (x : Fit) → x ≡ matched n m → x ≡ None → ⊥
  found_nothing x p q = let z : ◌≡◌ {A = ℕ} 0 1 = cc in omega arith

  unfit-cons : (r : Row M) (rs : List (Row M)) (o at : ℕ) (ws : List ℕ) (b : Bool) → eqb w r.letters ≡ b → fit_in f w (r ∷ rs) ≡ None → (fit_in f w rs ≡ None → fit o w rs at ws ≡ refuse MarkMisplaced o) → fit o w (r ∷ rs) at ws ≡ refuse MarkMisplaced o
  unfit-cons r rs o at ws true q e ih = absurd (found_nothing (fit_in f w (r ∷ rs)) (in-given r rs q) e)
  unfit-cons r rs o at ws false q e ih = ap (λ (g : ℕ → List ℕ → Outcome (Row M)). g at ws) (skipped r rs q o) ∙ ih (sym (in-skipped r rs q) ∙ e)

  pub unfit : (rows : List (Row M)) → fit_in f w rows ≡ None → (o at : ℕ) (ws : List ℕ) → fit o w rows at ws ≡ refuse MarkMisplaced o
  unfolding fit
  unfit [] e o at ws = refl
  unfit (r ∷ rs) e o at ws = unfit-cons r rs o at ws (eqb w r.letters) refl e (λ e'. unfit rs e' o at ws)

  fitted-cons : (n : ℕ) (m : Mark) (r : Row M) (rs : List (Row M)) (b : Bool) → eqb w r.letters ≡ b → fit_in f w (r ∷ rs) ≡ matched n m → (fit_in f w rs ≡ matched n m → Fitting f w rs n m) → Fitting f w (r ∷ rs) n m
  fitted-cons n m r rs true q e ih =
      let i : matched r.count (f r.mark) ≡ matched n m = sym (in-given r rs q) ∙ e in
      let j : ◌≡◌ {A = Matched} (record { count = r.count; mark = f r.mark }) (record { count = n; mark = m }) = cc in
      record { row = r; count-is = ap (λ (x : Matched). x.count) j; mark-is = ap (λ (x : Matched). x.mark) j; fits = given r rs q }
  fitted-cons n m r rs false q e ih =
      let i = ih (sym (in-skipped r rs q) ∙ e) in
      record { row = i.row; count-is = i.count-is; mark-is = i.mark-is; fits = λ o at ws. ap (λ (g : ℕ → List ℕ → Outcome (Row M)). g at ws) (skipped r rs q o) ∙ i.fits o at ws }

  pub fitted : (rows : List (Row M)) (n : ℕ) (m : Mark) → fit_in f w rows ≡ matched n m → Fitting f w rows n m
  unfolding fit_in
  fitted [] n m e = absurd (found_nothing None e refl)
  fitted (r ∷ rs) n m e = fitted-cons n m r rs (eqb w r.letters) refl e (fitted rs n m)

-- what comes after the mark's field
after-mark : {M : Type 0} → List (Row M) → ℕ → List ℕ → Reader (Record M)
after-mark rows at w = fit at (get_or w 0 0) rows >>= filled at

module _ {M : Type 0} (rows : List (Row M)) (bs : List ℕ) (at : ℕ) where
  opened : take-record rows at (unread bs at) ≡ (fields at 1 >>= after-mark rows at) at (unread bs at)
  unfolding take-record ◌>>=◌ here after-mark filled
  opened = refl

  pub no-mark : length bs < at + 2 → take-record rows at (unread bs at) ≡ refuse PastTheEnd at
  no-mark h =
      opened
      ∙ bind-refuse (fields at 1) (after-mark rows at) at (unread bs at)
      (fields-none at 1 at (unread bs at) (unread-short bs at 1 (omega arith) h))

  first_field : at + 2 ≤ length bs → get_or (take 1 (unread bs at)) 0 0 ≡ two (get_or bs at 0) (get_or bs (at + 1) 0)
  first_field h = get_or-take 1 (unread bs at) 0 0 (omega arith) ∙ rw zero_more at (unread-at bs at 0 (omega arith))
    where
      zero_more : at + 2 * 0 ≡ at
      zero_more = omega arith

  abbrev letters : ℕ
  letters = two (get_or bs at 0) (get_or bs (at + 1) 0)

  marked : at + 2 ≤ length bs → take-record rows at (unread bs at) ≡ (fit at letters rows >>= filled at) (at + 2) (unread bs (at + 2))
  unfolding after-mark
  marked h =
      opened
      ∙ bind-read (fields at 1) (after-mark rows at) at (unread bs at)
      (fields-all at 1 at (unread bs at) (unread-enough bs at 1 h))
      ∙ rw (first_field h, unread-drop bs at 1)

  pub misplaced : (f : M → Mark) → at + 2 ≤ length bs → fit_in f letters rows ≡ None → take-record rows at (unread bs at) ≡ refuse MarkMisplaced at
  misplaced f h e = marked h ∙ bind-refuse (fit at letters rows) (filled at) (at + 2) (unread bs (at + 2)) (unfit f letters rows e at (at + 2) (unread bs (at + 2)))

  module _ (f : M → Mark) (n : ℕ) (m : Mark) (h : at + 2 ≤ length bs) (e : fit_in f letters rows ≡ matched n m) where
    rowed : take-record rows at (unread bs at) ≡ filled at (fitted f letters rows n m e).row (at + 2) (unread bs (at + 2))
    rowed =
        marked h
        ∙ bind-read (fit at letters rows) (filled at) (at + 2) (unread bs (at + 2))
        ((fitted f letters rows n m e).fits at (at + 2) (unread bs (at + 2)))

    pub cut_off : length bs < at + 2 + 2 * n → take-record rows at (unread bs at) ≡ refuse PastTheEnd at
    unfolding filled
    cut_off short =
        rowed
        ∙ bind-refuse _ _ (at + 2) (unread bs (at + 2))
        (rw (fitted f letters rows n m e).count-is
        (fields-none at n (at + 2) (unread bs (at + 2)) (unread-short bs (at + 2) n (omega arith) short)))

    all_there : at + 2 + 2 * n ≤ length bs → fields at (fitted f letters rows n m e).row.count (at + 2) (unread bs (at + 2)) ≡ read (take n (unread bs (at + 2))) (at + 2 + 2 * n) (unread bs (at + 2 + 2 * n))
    all_there fits =
        rw (fitted f letters rows n m e).count-is
        (fields-all at n (at + 2) (unread bs (at + 2)) (unread-enough bs (at + 2) n fits)
        ∙ ap (read (take n (unread bs (at + 2))) (at + 2 + 2 * n)) (unread-drop bs (at + 2) n))

    pub whole : at + 2 + 2 * n ≤ length bs → take-record rows at (unread bs at) ≡ read (record { at = at; mark = (fitted f letters rows n m e).row.mark; fields = take n (unread bs (at + 2)) }) (at + 2 + 2 * n) (unread bs (at + 2 + 2 * n))
    unfolding filled give
    whole fits = rowed ∙ bind-read _ _ (at + 2) (unread bs (at + 2)) (all_there fits)
