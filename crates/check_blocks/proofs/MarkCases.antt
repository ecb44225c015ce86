-- A mark by its case: what comes after a declaration's own record, and what a statement is. Assumes nothing.
use Rattle.std.specs.Prelude.{Ok}
use mathlib.Core.Path.{◌≡◌, refl, sym, ◌∙◌, ap, subst}
use mathlib.Core.List.{List, []}
use Prim.Native.Nat.{ℕ, ◌≤◌}
use mathlib.Core.Bool.{Bool, true, false}
use lib.Dec.{T}
use Rattle.language.specs.Structure.{BlockReader, DeclMark, is_vR, is_lB, is_pR, StmtMark, is_bK, is_cL, is_gO, is_iF, is_kN, is_aR, is_aD, is_rM, is_qY}
use Rattle.check_marks.specs.declared.Mark.{Mark}
use Rattle.check_marks.specs.declared.Mark.TheVariants.{BK, VR, LB, PR, FM, CL, GO, IF, KN, AR, AD, RM, QY}
use Rattle.language.specs.Faults.{Progress}
use Rattle.check_records.specs.Taking.{forget}
use Rattle.check_bounds.specs.Marks.{decl_mark_of, stmt_mark_of}
use Rattle.check_bounds.specs.Judging.{action_of, FewFormals}
use Rattle.check_blocks.specs.Progress.{body_of, below_of, stated_of, plain_of, action_mark}

-- a mark that is no PR, and one that is no BK
pub others-plain : (m : Mark) → (m ≡ PR → ⊥) → true ≡ plain_of (decl_mark_of m)
unfolding decl_mark_of
others-plain BK h = refl
others-plain VR h = refl
others-plain LB h = refl
others-plain PR h = absurd (h refl)
others-plain FM h = refl
others-plain CL h = refl
others-plain GO h = refl
others-plain IF h = refl
others-plain KN h = refl
others-plain AR h = refl
others-plain AD h = refl
others-plain RM h = refl
others-plain QY h = refl

pub others-act : (m : Mark) → (m ≡ BK → ⊥) → true ≡ action_mark (stmt_mark_of m)
unfolding stmt_mark_of
others-act BK h = absurd (h refl)
others-act VR h = refl
others-act LB h = refl
others-act PR h = refl
others-act FM h = refl
others-act CL h = refl
others-act GO h = refl
others-act IF h = refl
others-act KN h = refl
others-act AR h = refl
others-act AD h = refl
others-act RM h = refl
others-act QY h = refl

pub bodied : (m : Mark) → m ≡ PR → false ≡ plain_of (decl_mark_of m)
unfolding decl_mark_of
bodied m e = sym (ap (λ x. plain_of (decl_mark_of x)) e)

pub blocked : (m : Mark) → m ≡ BK → false ≡ action_mark (stmt_mark_of m)
unfolding stmt_mark_of
blocked m e = sym (ap (λ x. action_mark (stmt_mark_of x)) e)

module _ (body : BlockReader) (o f0 f1 at : ℕ) (ws : List ℕ) where
  pub block-stated : {y : Progress} (m : Mark) (ns : List ℕ) → m ≡ BK → ns ≡ [] → y ≡ forget (body o f0 f1 ns at ws) → y ≡ stated_of body (stmt_mark_of m) o f0 f1 at ws
  unfolding stated_of stmt_mark_of
  block-stated m ns e n f = f ∙ ap (λ l. forget (body o f0 f1 l at ws)) n ∙ sym (ap (λ x. stated_of body (stmt_mark_of x) o f0 f1 at ws) e)

pub body_below : (body : BlockReader) (p at : ℕ) (ws : List ℕ) (m : Mark) → m ≡ PR → forget (body_of body p at ws) ≡ below_of body (decl_mark_of m) p at ws
unfolding below_of decl_mark_of
body_below body p at ws m e = sym (ap (λ x. below_of body (decl_mark_of x) p at ws) e)

pub few-formals : (p : ℕ) (m : Mark) → m ≡ PR → FewFormals (decl_mark_of m) p → p ≤ 32
unfolding decl_mark_of
few-formals p m e f = subst (λ x. FewFormals (decl_mark_of x) p) e f

never : ◌≡◌ {A = Bool} true false → ⊥
never e = subst T e tt

pub plain-below : (body : BlockReader) (p at : ℕ) (ws : List ℕ) (k : DeclMark) → plain_of k ≡ true → Ok at ≡ below_of body k p at ws
unfolding below_of
plain-below body p at ws is_vR e = refl
plain-below body p at ws is_lB e = refl
plain-below body p at ws is_pR e = absurd (never (sym e))

pub action-stated : (body : BlockReader) (o f0 f1 at : ℕ) (ws : List ℕ) (k : StmtMark) → action_mark k ≡ true → action_of k o f1 at ws ≡ stated_of body k o f0 f1 at ws
unfolding stated_of
action-stated body o f0 f1 at ws is_bK e = absurd (never (sym e))
action-stated body o f0 f1 at ws is_cL e = refl
action-stated body o f0 f1 at ws is_gO e = refl
action-stated body o f0 f1 at ws is_iF e = refl
action-stated body o f0 f1 at ws is_kN e = refl
action-stated body o f0 f1 at ws is_aR e = refl
action-stated body o f0 f1 at ws is_aD e = refl
action-stated body o f0 f1 at ws is_rM e = refl
action-stated body o f0 f1 at ws is_qY e = refl

pub is-PR : (m : Mark) → plain_of (decl_mark_of m) ≡ false → m ≡ PR
unfolding decl_mark_of
is-PR BK e = absurd (never e)
is-PR VR e = absurd (never e)
is-PR LB e = absurd (never e)
is-PR PR e = refl
is-PR FM e = absurd (never e)
is-PR CL e = absurd (never e)
is-PR GO e = absurd (never e)
is-PR IF e = absurd (never e)
is-PR KN e = absurd (never e)
is-PR AR e = absurd (never e)
is-PR AD e = absurd (never e)
is-PR RM e = absurd (never e)
is-PR QY e = absurd (never e)

pub is-BK : (m : Mark) → action_mark (stmt_mark_of m) ≡ false → m ≡ BK
unfolding stmt_mark_of
is-BK BK e = refl
is-BK VR e = absurd (never e)
is-BK LB e = absurd (never e)
is-BK PR e = absurd (never e)
is-BK FM e = absurd (never e)
is-BK CL e = absurd (never e)
is-BK GO e = absurd (never e)
is-BK IF e = absurd (never e)
is-BK KN e = absurd (never e)
is-BK AR e = absurd (never e)
is-BK AD e = absurd (never e)
is-BK RM e = absurd (never e)
is-BK QY e = absurd (never e)
