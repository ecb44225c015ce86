-- The number of fields by places, one after the other, from what was found at each. Assumes nothing.
use mathlib.Core.Path.{◌≡◌, sym, ◌∙◌}
use mathlib.Core.Bool.{Bool, true, false}
use Prim.Native.Nat.{ℕ, ◌<◌}
use native.Mathlib.Omega.{arith}
use mathlib.Core.List.{List, [], ◌∷◌}
use lib.Dec.{eqb}
use Rattle.language.specs.Structure.{Row, block_marks, formal_marks, decl_marks, stmt_marks}
use Rattle.check_marks.specs.Marks.{Fit, decl_mark, stmt_mark, only_mark, fit_in, fit_at}
use Rattle.check_marks.specs.Counts.{count_or, field_count}
use Rattle.check_marks.specs.declared.Mark.{Mark}
use Rattle.check_marks.specs.declared.Mark.TheVariants.{BK, FM}
use Rattle.check_marks.specs.declared.Matched.{Matched}
use Rattle.check_marks.specs.declared.Place.{Place}
use Rattle.check_marks.specs.declared.Place.TheVariants.{Block, Formal, Declaration, Statement}
use Rattle.std.specs.Prelude.{Some, None}

module _ (w r : ℕ) (f : Fit) (statement : f ≡ fit_at Statement w) where
  pub count-statement : (m : Matched) → f ≡ Some m → r ≡ m.count → r ≡ field_count w
  unfolding field_count
  count-statement m e q = rw (sym statement ∙ e, field_count) q

  module _ (none : f ≡ None) (g : Fit) (declaration : g ≡ fit_at Declaration w) where
    pub count-declaration : (m : Matched) → g ≡ Some m → r ≡ m.count → r ≡ field_count w
    unfolding field_count
    count-declaration m e q = rw (sym statement ∙ none, sym declaration ∙ e, field_count) q

    module _ (neither : g ≡ None) (h : Fit) (formal : h ≡ fit_at Formal w) where
      pub count-formal : (m : Matched) → h ≡ Some m → r ≡ m.count → r ≡ field_count w
      unfolding field_count
      count-formal m e q = rw (sym statement ∙ none, sym declaration ∙ neither, sym formal ∙ e, field_count) q

      pub count_none : h ≡ None → r ≡ 2 → r ≡ field_count w
      unfolding field_count
      count_none e q = rw (sym statement ∙ none, sym declaration ∙ neither, sym formal ∙ e, field_count) q

-- every row's number is a byte's
abbrev Small : Fit → Type 0
Small (Some m) = m.count < 256
Small None = Unit {0}

abbrev SmallRows : {M : Type 0} → List (Row M) → Type 0
SmallRows [] = Unit {0}
SmallRows (r ∷ rs) = (r.count < 256) × SmallRows rs

small-if : (b : Bool) (m : Matched) (x : Fit) → m.count < 256 → Small x → Small (elim b [ true ↦ Some m | false ↦ x ])
small-if true m x h k = h
small-if false m x h k = k

small-in : {M : Type 0} (f : M → Mark) (w : ℕ) (rows : List (Row M)) → SmallRows rows → Small (fit_in f w rows)
unfolding fit_in
small-in f w [] h = tt
small-in f w (r ∷ rs) h = small-if (eqb w r.letters) (record { count = r.count; mark = f r.mark }) (fit_in f w rs) h.0 (small-in f w rs h.1)

small : (p : Place) (w : ℕ) → Small (fit_at p w)
unfolding fit_at block_marks formal_marks decl_marks stmt_marks
small Block w = small-in (only_mark BK) w block_marks (omega arith, tt)
small Formal w = small-in (only_mark FM) w formal_marks (omega arith, tt)
small Declaration w = small-in decl_mark w decl_marks (omega arith, (omega arith, (omega arith, tt)))
small Statement w =
    small-in stmt_mark w stmt_marks
    (omega arith, (omega arith, (omega arith, (omega arith, (omega arith, (omega arith, (omega arith, (omega arith, (omega arith, tt)))))))))

small-or : (x : Fit) (d : ℕ) → Small x → d < 256 → count_or x d < 256
small-or (Some m) d h k = h
small-or None d h k = k

pub count-small : (w : ℕ) → field_count w < 256
unfolding field_count
count-small w = small-or _ _ (small Statement w) (small-or _ _ (small Declaration w) (small-or _ _ (small Formal w) (omega arith)))
