-- The statements of a block, one after the other. Assumes nothing.
use Rattle.language.specs.Faults.{fault}
use Rattle.std.specs.Prelude.{Ok, Err}
use mathlib.Core.Path.{◌≡◌, refl, sym, ◌∙◌, ap}
use mathlib.Core.Bool.{Bool, true, false}
use mathlib.Core.List.{List, []}
use Prim.Native.Nat.{ℕ, zero, suc, ◌≤◌}
use native.Mathlib.Omega.{arith}
use native.Mathlib.Decide.{dec_le}
use lib.Dec.{leb}
use lib.ListN.{get_or}
use borrow.Author.Tests.{leb-true, leb-false}
use Rattle.language.specs.Text.{Stmt, Stmts, BK, stmt}
use Rattle.language.specs.Structure.{Reading as Outcome, refuse, Reader, ◌>>=◌, give, fields, Record, StmtMark, is_bK, is_cL, is_gO, is_iF, is_kN, is_aR, is_aD, is_rM, is_qY, stmt_marks, take-record, operation, BlockReader, action, stated, statements}
use Rattle.language.specs.declared.Refusal.{Refusal}
use Rattle.language.specs.declared.Refusal.TheVariants.{FieldRange}
use Rattle.laws.specs.Readers.{bind-read, bind-refuse, passes, fails}
use Rattle.check_marks.specs.declared.Mark.{Mark}
use Rattle.check_marks.specs.declared.Place.TheVariants.{Statement}
use Rattle.check_records.specs.declared.Reading.{Reading}
use Rattle.check_records.specs.declared.Reading.TheVariants.{Taken}
use Rattle.check_marks.specs.Marks.{stmt_mark}
use Rattle.check_records.specs.Taking.{unread, record_at, forget}
use Rattle.check_records.proofs.Steps.{Step, stepped, stopped}
use Rattle.check_bounds.specs.Marks.{stmt_mark_of}
use Rattle.check_bounds.specs.Judging.{action_of}
use Rattle.check_blocks.specs.Progress.{stated_of}
use Rattle.check_blocks.proofs.Lands.{Landed, landed, turned-away, AllTrack, tracks-stated}
use Rattle.check_blocks.proofs.OperationTests.{operation-known, operation-unknown}
use Rattle.check_bounds.proofs.Marks.{action-few, action-many, action-known, action-unknown}
use Rattle.check_blocks.proofs.Forget.{forget-give}

same-mark : (m : StmtMark) → stmt_mark_of (stmt_mark m) ≡ m
unfolding stmt_mark_of stmt_mark
same-mark is_bK = refl
same-mark is_cL = refl
same-mark is_gO = refl
same-mark is_iF = refl
same-mark is_kN = refl
same-mark is_aR = refl
same-mark is_aD = refl
same-mark is_rM = refl
same-mark is_qY = refl

module _ (body : BlockReader) (at : ℕ) (fs : List ℕ) (next : ℕ) (ws : List ℕ) where
  abbrev second : ℕ
  second = get_or fs 1 0

  is-CL : (b : Bool) → leb second 32 ≡ b → forget (stated body is_cL at fs next ws) ≡ action_of is_cL at second next ws
  unfolding stated action forget
  is-CL true e =
      ap forget (passes _ FieldRange at _ next ws e) ∙ forget-give (fields at second) next ws _
      ∙ sym (action-few at second next ws (leb-true second 32 e))
  is-CL false e = ap forget (fails _ FieldRange at _ next ws e) ∙ sym (action-many at second next ws (leb-false second 32 e))

  is-AR : Dec (second ≤ 2) → forget (stated body is_aR at fs next ws) ≡ action_of is_aR at second next ws
  unfolding stated action forget
  is-AR (yes h) =
      forget-give (operation at second) next ws _ ∙ ap forget ((operation-known at second h).gives next ws)
      ∙ sym (action-known at second next ws h)
  is-AR (no h) =
      forget-give (operation at second) next ws _ ∙ ap forget (operation-unknown at second next ws (omega arith))
      ∙ sym (action-unknown at second next ws (omega arith))

  pub stated-is : (m : StmtMark) → forget (stated body m at fs next ws) ≡ stated_of body m at (get_or fs 0 0) second next ws
  unfolding stated action give forget stated_of action_of
  stated-is is_bK = forget-give (body at (get_or fs 0 0) second []) next ws BK
  stated-is is_cL = is-CL (leb second 32) refl
  stated-is is_gO = refl
  stated-is is_iF = refl
  stated-is is_kN = refl
  stated-is is_aR = is-AR (dec_le second 2)
  stated-is is_aD = refl
  stated-is is_rM = refl
  stated-is is_qY = refl

module _ (body : BlockReader) (s : ℕ) (bs : List ℕ) (at : ℕ) (h : AllTrack bs body) where
  more-stmts : Stmt → Reader Stmts
  more-stmts x = statements body s >>= λ xs. give (stmt x xs)

  stmt-after : Record StmtMark → Reader Stmts
  stmt-after r = stated body r.mark r.at r.fields >>= more-stmts

  opened : statements body (suc s) at (unread bs at) ≡ (take-record stmt_marks >>= stmt-after) at (unread bs at)
  unfolding statements stmt-after more-stmts
  opened = refl

  pub stmts-stop : (c : Refusal) (o : ℕ) → record_at Statement bs at ≡ Reading.Refused c o → statements body (suc s) at (unread bs at) ≡ refuse c o
  unfolding record_at
  stmts-stop c o e = opened ∙ bind-refuse (take-record stmt_marks) stmt-after at (unread bs at) (stopped stmt_mark stmt_marks bs at e)

  module _ {m : Mark} {next f0 f1 f2 f3 : ℕ} (e : record_at Statement bs at ≡ Taken m next f0 f1 f2 f3) where
    st : Step stmt_mark stmt_marks bs at m next f0 f1 f2 f3
    unfolding record_at
    st = stepped stmt_mark stmt_marks bs at e

    which : st.taking.mark ≡ stmt_mark_of m
    which = sym (same-mark st.taking.mark) ∙ ap stmt_mark_of st.mark-is

    abbrev outcome : Outcome Stmt
    outcome = stated body st.taking.mark st.taking.at st.taking.fields next (unread bs next)

    first : statements body (suc s) at (unread bs at) ≡ stmt-after st.taking next (unread bs next)
    first = opened ∙ bind-read (take-record stmt_marks) stmt-after at (unread bs at) st.reads

    renamed : (m₀ m₁ : StmtMark) (at₀ n p : ℕ) → at₀ ≡ at → n ≡ f0 → p ≡ f1 → m₀ ≡ m₁ → stated_of body m₀ at₀ n p next (unread bs next) ≡ stated_of body m₁ at f0 f1 next (unread bs next)
    renamed m₀ m₁ at₀ n p q₁ q₂ q₃ q₄ = cc

    outcome-is : forget outcome ≡ stated_of body (stmt_mark_of m) at f0 f1 next (unread bs next)
    outcome-is =
        stated-is body st.taking.at st.taking.fields next (unread bs next) st.taking.mark
        ∙ renamed st.taking.mark (stmt_mark_of m) st.taking.at (get_or st.taking.fields 0 0) (get_or st.taking.fields 1 0) st.at-is st.f0-is st.f1-is which

    pub stmt-stops : {c : Refusal} {o : ℕ} → stated_of body (stmt_mark_of m) at f0 f1 next (unread bs next) ≡ Err (fault c o) → statements body (suc s) at (unread bs at) ≡ refuse c o
    unfolding stmt-after
    stmt-stops q = first ∙ bind-refuse _ more-stmts next (unread bs next) (turned-away outcome (outcome-is ∙ q))

    module _ {end : ℕ} (q : stated_of body (stmt_mark_of m) at f0 f1 next (unread bs next) ≡ Ok end) where
      there : Landed bs next end outcome
      there = landed bs next end outcome ((tracks-stated bs body h st.taking.mark st.taking.at st.taking.fields).lands next) (outcome-is ∙ q)

      pub stmt-onward : next ≤ end
      stmt-onward = there.onward

      pub stmts-more : forget (statements body (suc s) at (unread bs at)) ≡ forget (statements body s end (unread bs end))
      unfolding stmt-after more-stmts
      stmts-more =
          ap forget (first ∙ bind-read _ more-stmts next (unread bs next) there.reads)
          ∙ forget-give (statements body s) end (unread bs end) (stmt there.value)

pub stmts-none : (body : BlockReader) (at : ℕ) (ws : List ℕ) → forget (statements body zero at ws) ≡ Ok at
unfolding statements give forget
stmts-none body at ws = refl
