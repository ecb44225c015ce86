-- A mark by its case: which of the definitions' marks it is, and what that says of the record's own fields. Assumes nothing.
use Rattle.std.specs.Prelude.{Ok, Err}
use mathlib.Core.Path.{◌≡◌, refl, sym, ◌∙◌, ap, ap₂}
use mathlib.Core.Bool.{true, false, ◌&&◌}
use mathlib.Core.List.{List}
use Prim.Native.Nat.{ℕ, ◌<◌, ◌≤◌}
use native.Mathlib.Omega.{arith}
use lib.Dec.{leb}
use borrow.Author.Tests.{le-leb, lt-leb}
use Rattle.language.specs.Structure.{fields, is_lB, is_pR, is_cL, is_aR}
use Rattle.language.specs.declared.Refusal.TheVariants.{FieldRange, TooManyNames}
use Rattle.check_marks.specs.declared.Mark.{Mark}
use Rattle.check_marks.specs.declared.Mark.TheVariants.{BK, VR, LB, PR, FM, CL, GO, IF, KN, AR, AD, RM, QY}
use Rattle.language.specs.Faults.{fault, Progress}
use Rattle.check_records.specs.Taking.{forget}
use Rattle.check_bounds.specs.Marks.{decl_mark_of, stmt_mark_of}
use Rattle.check_bounds.specs.Judging.{ranged_of, action_of}

module _ (at next f1 s : ℕ) where
  pub ranged-label : leb 1 f1 && leb f1 s ≡ true → ranged_of is_lB at next f1 s ≡ Ok next
  unfolding ranged_of
  ranged-label e = rw (e, ranged_of)

  pub ranged-no-label : leb 1 f1 && leb f1 s ≡ false → ranged_of is_lB at next f1 s ≡ Err (fault FieldRange at)
  unfolding ranged_of
  ranged-no-label e = rw (e, ranged_of)

  pub ranged-few : f1 ≤ 32 → ranged_of is_pR at next f1 s ≡ Ok next
  unfolding ranged_of
  ranged-few h = rw (le-leb f1 32 h, ranged_of)

  pub ranged-many : 32 < f1 → ranged_of is_pR at next f1 s ≡ Err (fault TooManyNames at)
  unfolding ranged_of
  ranged-many h = rw (lt-leb f1 32 h, ranged_of)

-- the second field of a declaration, as the code finds its mark
module _ (at next f1 s : ℕ) {m : Mark} where
  as-label : {p : Progress} → m ≡ LB → ranged_of is_lB at next f1 s ≡ p → p ≡ ranged_of (decl_mark_of m) at next f1 s
  unfolding decl_mark_of
  as-label e q = sym (ap (λ x. ranged_of (decl_mark_of x) at next f1 s) e ∙ q)

  as-procedure : {p : Progress} → m ≡ PR → ranged_of is_pR at next f1 s ≡ p → p ≡ ranged_of (decl_mark_of m) at next f1 s
  unfolding decl_mark_of
  as-procedure e q = sym (ap (λ x. ranged_of (decl_mark_of x) at next f1 s) e ∙ q)

  pub label-zero : m ≡ LB → f1 ≡ 0 → Err (fault FieldRange at) ≡ ranged_of (decl_mark_of m) at next f1 s
  label-zero e z = as-label e (ranged-no-label at next f1 s (ap (λ b. b && leb f1 s) (lt-leb 1 f1 (omega arith))))

  pub label-past : m ≡ LB → (f1 ≡ 0 → ⊥) → s < f1 → Err (fault FieldRange at) ≡ ranged_of (decl_mark_of m) at next f1 s
  label-past e z h = as-label e (ranged-no-label at next f1 s (ap₂ ◌&&◌ (le-leb 1 f1 (omega arith)) (lt-leb f1 s h)))

  pub label-fits : m ≡ LB → (f1 ≡ 0 → ⊥) → f1 ≤ s → Ok next ≡ ranged_of (decl_mark_of m) at next f1 s
  label-fits e z h = as-label e (ranged-label at next f1 s (ap₂ ◌&&◌ (le-leb 1 f1 (omega arith)) (le-leb f1 s h)))

  pub formals-fit : m ≡ PR → f1 ≤ 32 → Ok next ≡ ranged_of (decl_mark_of m) at next f1 s
  formals-fit e h = as-procedure e (ranged-few at next f1 s h)

  pub formals-many : m ≡ PR → 32 < f1 → Err (fault TooManyNames at) ≡ ranged_of (decl_mark_of m) at next f1 s
  formals-many e h = as-procedure e (ranged-many at next f1 s h)

-- a mark that is neither LB nor PR
pub others-fit : (at next f1 s : ℕ) (m : Mark) → (m ≡ LB → ⊥) → (m ≡ PR → ⊥) → Ok next ≡ ranged_of (decl_mark_of m) at next f1 s
unfolding ranged_of decl_mark_of
others-fit at next f1 s BK h g = refl
others-fit at next f1 s VR h g = refl
others-fit at next f1 s LB h g = absurd (h refl)
others-fit at next f1 s PR h g = absurd (g refl)
others-fit at next f1 s FM h g = refl
others-fit at next f1 s CL h g = refl
others-fit at next f1 s GO h g = refl
others-fit at next f1 s IF h g = refl
others-fit at next f1 s KN h g = refl
others-fit at next f1 s AR h g = refl
others-fit at next f1 s AD h g = refl
others-fit at next f1 s RM h g = refl
others-fit at next f1 s QY h g = refl

module _ (o f1 at : ℕ) (ws : List ℕ) where
  pub action-few : f1 ≤ 32 → action_of is_cL o f1 at ws ≡ forget (fields o f1 at ws)
  unfolding action_of
  action-few h = rw (le-leb f1 32 h, action_of)

  pub action-many : 32 < f1 → action_of is_cL o f1 at ws ≡ Err (fault FieldRange o)
  unfolding action_of
  action-many h = rw (lt-leb f1 32 h, action_of)

  pub action-known : f1 ≤ 2 → action_of is_aR o f1 at ws ≡ Ok at
  unfolding action_of
  action-known h = rw (le-leb f1 2 h, action_of)

  pub action-unknown : 2 < f1 → action_of is_aR o f1 at ws ≡ Err (fault FieldRange o)
  unfolding action_of
  action-unknown h = rw (lt-leb f1 2 h, action_of)

-- an action, as the code finds its mark
module _ (o f1 at : ℕ) (ws : List ℕ) {m : Mark} where
  as_call : {p : Progress} → m ≡ CL → action_of is_cL o f1 at ws ≡ p → p ≡ action_of (stmt_mark_of m) o f1 at ws
  unfolding stmt_mark_of
  as_call e q = sym (ap (λ x. action_of (stmt_mark_of x) o f1 at ws) e ∙ q)

  as-arithmetic : {p : Progress} → m ≡ AR → action_of is_aR o f1 at ws ≡ p → p ≡ action_of (stmt_mark_of m) o f1 at ws
  unfolding stmt_mark_of
  as-arithmetic e q = sym (ap (λ x. action_of (stmt_mark_of x) o f1 at ws) e ∙ q)

  pub call_fits : m ≡ CL → f1 ≤ 32 → forget (fields o f1 at ws) ≡ action_of (stmt_mark_of m) o f1 at ws
  call_fits e h = as_call e (action-few o f1 at ws h)

  pub call-many : m ≡ CL → 32 < f1 → Err (fault FieldRange o) ≡ action_of (stmt_mark_of m) o f1 at ws
  call-many e h = as_call e (action-many o f1 at ws h)

  pub operation-fits : m ≡ AR → f1 ≤ 2 → Ok at ≡ action_of (stmt_mark_of m) o f1 at ws
  operation-fits e h = as-arithmetic e (action-known o f1 at ws h)

  pub operation-none : m ≡ AR → 2 < f1 → Err (fault FieldRange o) ≡ action_of (stmt_mark_of m) o f1 at ws
  operation-none e h = as-arithmetic e (action-unknown o f1 at ws h)

-- a mark that is neither CL nor AR
pub others-pass : (o f1 at : ℕ) (ws : List ℕ) (m : Mark) → (m ≡ CL → ⊥) → (m ≡ AR → ⊥) → Ok at ≡ action_of (stmt_mark_of m) o f1 at ws
unfolding action_of stmt_mark_of
others-pass o f1 at ws BK h g = refl
others-pass o f1 at ws VR h g = refl
others-pass o f1 at ws LB h g = refl
others-pass o f1 at ws PR h g = refl
others-pass o f1 at ws FM h g = refl
others-pass o f1 at ws CL h g = absurd (h refl)
others-pass o f1 at ws GO h g = refl
others-pass o f1 at ws IF h g = refl
others-pass o f1 at ws KN h g = refl
others-pass o f1 at ws AR h g = absurd (g refl)
others-pass o f1 at ws AD h g = refl
others-pass o f1 at ws RM h g = refl
others-pass o f1 at ws QY h g = refl
