mod AtSize
use Rattle.std.proofs.Common.{◌≡◌, ◌+◌, ◌-◌, ◌*◌, ℕ, List, take, arith, refl, sym, ◌∙◌, ap, subst}
use Rattle.language.specs.Structure.{block_with}
use Rattle.check_marks.specs.declared.Place.TheVariants.{Declaration}
use Rattle.check_records.specs.declared.Reading.{Reading}
use Rattle.check_records.specs.Taking.{record_at, progress_of}
use Rattle.check_names.proofs.Exits.{same-error}
use Rattle.check_names.proofs.Names.{front_kept, front-set, names-kept, names-none}
use Rattle.check_bounds.specs.Judging.{headed, heading_at}
use Rattle.check_bounds.proofs.BlockTests.{Passed, opened-passed}
use Rattle.check_bounds.proofs.HeadLaws.{headed-none, fit-stops, fit-goes}
use Rattle.check_blocks.specs.Progress.{base_of}
use Rattle.check_blocks.proofs.Lands.{tracks-block}
use Rattle.check_blocks.proofs.Loops.{head-refused as declaration-refused, few-formals, below-refused, decls-again, decls-end, stmt-refused, inner-refused, stmts-again, stmts-end}
use Rattle.check_blocks.proofs.MarkCases.{plain-below, is-PR, few-formals as few-of-PR, action-stated, is-BK, block-stated}
use Rattle.check_blocks.proofs.Shapes.{unopened, same-front, decls-refused, rest-onward, rest-is, formals-refused, formals-onward, head-refused, body_is}
use Rattle.check_blocks.proofs.+block_body_declarations_statement_statements.Goals as goal

-- A block: it has a level left, and room for the names held.
pub block-returns-in_err-first-clause-reads : goal.block-returns-in_err-first-clause-reads
block-returns-in_err-first-clause-reads t c =
    same-error _ c.from_residual.ensures.1 ∙ sym c.in_err-first.was
    ∙ unopened c.args.script.now c.args.names.now c.args.left c.args.at c.args.d c.args.s c.args.held c.args.next (omega arith)
    c.opened.ensures c.in_err-first.was

pub block-overflow_sub-left : goal.block-overflow_sub-left
block-overflow_sub-left t c =
    let p : Passed c.args.left c.args.next c.args.d c.args.held c.in_ok-first.first = opened-passed _ _ _ _ _ c.opened.ensures c.in_ok-first.was in
    let z = p.positive in omega arith

pub block-declarations-requires : goal.block-declarations-requires
block-declarations-requires t c =
    let p : Passed c.args.left c.args.next c.args.d c.args.held c.in_ok-first.first = opened-passed _ _ _ _ _ c.opened.ensures c.in_ok-first.was in
    let q = p.from_is in
    let z = p.positive in (omega arith, (omega arith, p.few, c.requires.2))

pub block-returns-in_err-rest-clause-reads : goal.block-returns-in_err-rest-clause-reads
block-returns-in_err-rest-clause-reads t c =
    let p : Passed c.args.left c.args.next c.args.d c.args.held c.in_ok-first.first = opened-passed _ _ _ _ _ c.opened.ensures c.in_ok-first.was in
    same-error _ c.from_residual-in_err-rest.ensures.1 ∙ sym c.in_err-rest.was
    ∙ decls-refused c.args.script.now c.args.names.now c.args.left c.args.at c.args.d c.args.s c.args.held c.args.next (omega arith) p
    c.declarations.ensures.reads c.in_err-rest.was

pub block-returns-in_err-rest-clause-keeps : goal.block-returns-in_err-rest-clause-keeps
block-returns-in_err-rest-clause-keeps t c =
    let p : Passed c.args.left c.args.next c.args.d c.args.held c.in_ok-first.first = opened-passed _ _ _ _ _ c.opened.ensures c.in_ok-first.was in
    same-front c.args.script.now c.args.names.now c.args.left c.args.at c.args.d c.args.s c.args.held c.args.next (omega arith) p _
    c.declarations.ensures.keeps

pub block-overflow_sub-left-2 : goal.block-overflow_sub-left-2
block-overflow_sub-left-2 t c =
    let p : Passed c.args.left c.args.next c.args.d c.args.held c.in_ok-first.first = opened-passed _ _ _ _ _ c.opened.ensures c.in_ok-first.was in
    let z = p.positive in omega arith

pub block-statements-requires : goal.block-statements-requires
block-statements-requires t c =
    let p : Passed c.args.left c.args.next c.args.d c.args.held c.in_ok-first.first = opened-passed _ _ _ _ _ c.opened.ensures c.in_ok-first.was in
    let w =
    rest-onward c.args.script.now c.args.names.now c.args.left c.args.at c.args.d c.args.s c.args.held c.args.next (omega arith) p
    c.declarations.ensures.reads c.in_ok-rest.was in
    (omega (arith, w), (omega arith, omega arith))

pub block-returns-clause-reads : goal.block-returns-clause-reads
block-returns-clause-reads t c =
    let p : Passed c.args.left c.args.next c.args.d c.args.held c.in_ok-first.first = opened-passed _ _ _ _ _ c.opened.ensures c.in_ok-first.was in
    rest-is c.args.script.now c.args.names.now c.args.left c.args.at c.args.d c.args.s c.args.held c.args.next (omega arith) p
    c.declarations.ensures.reads c.in_ok-rest.was c.statements.ensures.reads

pub block-returns-clause-keeps : goal.block-returns-clause-keeps
block-returns-clause-keeps t c =
    let p : Passed c.args.left c.args.next c.args.d c.args.held c.in_ok-first.first = opened-passed _ _ _ _ _ c.opened.ensures c.in_ok-first.was in
    front_kept _ _ (base_of c.args.left) (base_of (c.args.left - 1)) (omega arith) c.statements.ensures.keeps
    ∙ same-front c.args.script.now c.args.names.now c.args.left c.args.at c.args.d c.args.s c.args.held c.args.next (omega arith) p _
    c.declarations.ensures.keeps

-- What comes after a declaration's own record.
pub body-returns-then-bodiless-clause-reads : goal.body-returns-then-bodiless-clause-reads
body-returns-then-bodiless-clause-reads t c = plain-below _ _ _ _ _ (sym c.bodiless.ensures ∙ c.if-bodiless.true)

pub body-returns-in_err-at-clause-reads : goal.body-returns-in_err-at-clause-reads
body-returns-in_err-at-clause-reads t c =
    same-error _ c.from_residual.ensures.1 ∙ sym c.in_err-at.was
    ∙ formals-refused (block_with c.args.below) c.args.p c.args.script.now c.args.start c.args.mark
    (is-PR _ (sym c.bodiless.ensures ∙ c.if-bodiless.false)) c.read_formals.ensures.reads c.in_err-at.was

pub body-returns-in_default-clause-reads : goal.body-returns-in_default-clause-reads
body-returns-in_default-clause-reads t c =
    head-refused (block_with c.args.below) c.args.p c.args.script.now c.args.start c.args.mark
    (is-PR _ (sym c.bodiless.ensures ∙ c.if-bodiless.false)) c.read_formals.ensures.reads c.in_ok-at.was
    c.read_block-reading.ensures.0 c.in_default.is c.onward.ensures

pub body-block-requires : goal.body-block-requires
body-block-requires t c =
    let w = c.in-Taken.ensures.1 in
    let go =
    formals-onward (block_with c.args.below) c.args.p c.args.script.now c.args.start c.args.mark
    (is-PR _ (sym c.bodiless.ensures ∙ c.if-bodiless.false)) c.read_formals.ensures.reads c.in_ok-at.was in (
      omega (arith, w, go),
      (omega arith, few-of-PR _ _ (is-PR _ (sym c.bodiless.ensures ∙ c.if-bodiless.false)) c.requires.1, omega arith),
    )

pub body-returns-clause-reads : goal.body-returns-clause-reads
body-returns-clause-reads t c =
    body_is (block_with c.args.below) c.args.p c.args.script.now c.args.start c.args.mark
    (is-PR _ (sym c.bodiless.ensures ∙ c.if-bodiless.false)) c.read_formals.ensures.reads c.in_ok-at.was _
    c.read_formals.ensures.named c.read_block-reading.ensures.0 c.in-Taken.is c.block.ensures.reads

-- Declarations one after the other. What was read is what stands at the reader's place, and is judged there.
heading-is : (bs : List ℕ) (at s : ℕ) (ns : List ℕ) {x y : Reading} → x ≡ record_at Declaration bs at → headed x at s ns ≡ y → heading_at bs at s ns ≡ y
heading-is bs at s ns f h = ap (λ (x : Reading). headed x at s ns) (sym f) ∙ h

pub declarations-returns-in_default-clause-reads : goal.declarations-returns-in_default-clause-reads
declarations-returns-in_default-clause-reads t c =
    let i = c.loop-i.invariant in
    let h = heading-is _ _ _ _ (rw i.same_script at c.declaration_here-reading.ensures.0) (headed-none _ _ _ c.in_default.is) in
    declaration-refused (tracks-block _ _) i.left c.loop-i-test.true refl h (c.onward.ensures ∙ ap progress_of (c.in_default.is ∙ sym h))

pub declarations-returns-in_err-next-clause-reads : goal.declarations-returns-in_err-next-clause-reads
declarations-returns-in_err-next-clause-reads t c =
    let i = c.loop-i.invariant in
    let h =
    heading-is _ _ _ _ (sym c.in-Taken.is ∙ (rw i.same_script at c.declaration_here-reading.ensures.0))
    (fit-stops _ _ _ _ c.fit.ensures c.in_err-next.was) in
    declaration-refused (tracks-block _ _) i.left c.loop-i-test.true refl h (same-error _ c.from_residual.ensures.1 ∙ ap progress_of (sym h))

pub declarations-body-requires : goal.declarations-body-requires
declarations-body-requires t c =
    let i = c.loop-i.invariant in
    let g = fit-goes _ _ _ _ c.fit.ensures refl c.in_ok-next.was in
    let e : c.in-Taken.next ≡ c.in_ok-next.next = g.0 in
    let w = c.in-Taken.ensures.1 in
    let go = i.left.onward in
    let h = heading-is _ _ _ _ (sym c.in-Taken.is ∙ (rw i.same_script at c.declaration_here-reading.ensures.0)) g.1 in
    (omega (arith, w), (omega arith, few-formals (tracks-block _ _) i.left c.loop-i-test.true refl h, omega arith))

pub declarations-returns-in_err-end-clause-reads : goal.declarations-returns-in_err-end-clause-reads
declarations-returns-in_err-end-clause-reads t c =
    let i = c.loop-i.invariant in
    let g = fit-goes _ _ _ _ c.fit.ensures refl c.in_ok-next.was in
    let e : c.in-Taken.next ≡ c.in_ok-next.next = g.0 in
    let h = heading-is _ _ _ _ (sym c.in-Taken.is ∙ (rw i.same_script at c.declaration_here-reading.ensures.0)) g.1 in
    same-error _ c.from_residual-in_err-end.ensures.1 ∙ sym c.in_err-end.was
    ∙ below-refused (tracks-block _ _) i.left c.loop-i-test.true refl (rw e at h) c.body.ensures.reads c.in_err-end.was

pub declarations-returns-in_err-end-clause-keeps : goal.declarations-returns-in_err-end-clause-keeps
declarations-returns-in_err-end-clause-keeps t c =
    front_kept _ _ _ (base_of c.args.below) (omega arith) c.body.ensures.keeps ∙ c.loop-i.invariant.kept

pub declarations-loop-i-preserved : goal.declarations-loop-i-preserved
declarations-loop-i-preserved t c =
    let i = c.loop-i.invariant in
    let g = fit-goes _ _ _ _ c.fit.ensures refl c.in_ok-next.was in
    let e : c.in-Taken.next ≡ c.in_ok-next.next = g.0 in
    let w = c.in-Taken.ensures.1 in
    let h = heading-is _ _ _ _ (sym c.in-Taken.is ∙ (rw i.same_script at c.declaration_here-reading.ensures.0)) g.1 in
    record {
      same_script = i.same_script;
      kept =
          front-set _ (32 * (16 - (c.args.below + 1))) (c.args.held + c.loop-i.i) c.in-Taken.f0
          ∙ front_kept _ _ _ (base_of c.args.below) (omega arith) c.body.ensures.keeps
          ∙ i.kept;
      left =
          decls-again (tracks-block c.args.script.now c.args.below) i.left c.loop-i-test.true refl (rw e at h) c.body.ensures.reads
          c.body.new.names c.in_ok-end.was (omega (arith, w))
          (names-kept c.loop-i.names c.body.new.names (32 * (16 - (c.args.below + 1))) 32 (c.args.held + c.loop-i.i) (omega arith) (omega arith) (omega arith)
          (subst (λ k. take k c.body.new.names ≡ take k c.loop-i.names) (omega arith) c.body.ensures.keeps)) (omega arith);
    }

pub declarations-returns-clause-reads : goal.declarations-returns-clause-reads
declarations-returns-clause-reads t c = decls-end (tracks-block _ _) c.loop-i.invariant.left (omega arith)

-- A statement.
pub statement-returns-then-is_action-clause-reads : goal.statement-returns-then-is_action-clause-reads
statement-returns-then-is_action-clause-reads t c =
    c.action.ensures ∙ action-stated _ _ _ _ _ _ _ (sym c.is_action.ensures ∙ c.if-is_action.true)

pub statement-returns-clause-reads : goal.statement-returns-clause-reads
statement-returns-clause-reads t c =
    block-stated _ _ _ _ _ _ c.args.mark _ (is-BK _ (sym c.is_action.ensures ∙ c.if-is_action.false)) (names-none _ _) c.block.ensures.reads

-- Statements one after the other.
pub statements-returns-in_default-clause-reads : goal.statements-returns-in_default-clause-reads
statements-returns-in_default-clause-reads t c =
    let i = c.loop.invariant in
    stmt-refused (tracks-block _ _) i.left c.loop-test.true (rw i.same_script at c.statement_here-reading.ensures.0) c.in_default.is c.onward.ensures

pub statements-returns-in_err-reader-clause-reads : goal.statements-returns-in_err-reader-clause-reads
statements-returns-in_err-reader-clause-reads t c =
    let i = c.loop.invariant in
    same-error _ c.from_residual.ensures.1 ∙ sym c.in_err-reader.was
    ∙ inner-refused (tracks-block _ _) i.left c.loop-test.true (rw i.same_script at c.statement_here-reading.ensures.0) c.in-Taken.is
    c.statement.ensures.reads c.in_err-reader.was

pub statements-loop-preserved : goal.statements-loop-preserved
statements-loop-preserved t c =
    let i = c.loop.invariant in
    let w = c.in-Taken.ensures.1 in
    record {
      same_script = i.same_script;
      kept = c.statement.ensures.keeps ∙ i.kept;
      left =
          stmts-again (tracks-block _ _) i.left c.loop-test.true (rw i.same_script at c.statement_here-reading.ensures.0) c.in-Taken.is
          c.statement.ensures.reads c.in_ok-reader.was (omega (arith, w));
    }

pub statements-returns-clause-reads : goal.statements-returns-clause-reads
statements-returns-clause-reads t c = stmts-end (tracks-block _ _) c.loop.invariant.left (omega arith)
