use Rattle.std.proofs.Common.{refl, ◌∙◌, arith}
use Rattle.check_names.proofs.Exits.{same-error}
use Rattle.check_names.proofs.FormalLaws.{at-start, all-post}
use Rattle.check_names.proofs.HoldingLaws.{front-kept-by, goes_on, ends_there}
use Rattle.check_names.proofs.formals.read_formals.Goals as goal

pub loop-i-init : goal.loop-i-init
loop-i-init c = record { same_script = refl; kept = refl; so_far = at-start _ _ _ _ _ }

pub returns-in_err-reader-clause-reads : goal.returns-in_err-reader-clause-reads
returns-in_err-reader-clause-reads c =
    let i = c.loop-i.invariant in
    same-error _ c.from_residual.ensures.1
    ∙ (ends_there i.so_far c.loop-i-test.true (omega arith) (rw i.same_script at c.formal_here-reading.ensures.0)
    c.hold.ensures.judged c.hold.ensures.held c.in_err-reader.was).0

pub returns-in_err-reader-clause-named : goal.returns-in_err-reader-clause-named
returns-in_err-reader-clause-named c =
    let i = c.loop-i.invariant in
    (ends_there i.so_far c.loop-i-test.true (omega arith) (rw i.same_script at c.formal_here-reading.ensures.0)
    c.hold.ensures.judged c.hold.ensures.held c.in_err-reader.was).1

pub returns-in_err-reader-clause-keeps : goal.returns-in_err-reader-clause-keeps
returns-in_err-reader-clause-keeps c =
    let i = c.loop-i.invariant in
    front-kept-by i.so_far c.loop-i-test.true (omega arith) (rw i.same_script at c.formal_here-reading.ensures.0)
    c.hold.ensures.judged c.hold.ensures.held
    ∙ i.kept

pub loop-i-preserved : goal.loop-i-preserved
loop-i-preserved c =
    let i = c.loop-i.invariant in record {
      same_script = i.same_script;
      kept =
          front-kept-by i.so_far c.loop-i-test.true (omega arith) (rw i.same_script at c.formal_here-reading.ensures.0)
          c.hold.ensures.judged c.hold.ensures.held
          ∙ i.kept;
      so_far =
          goes_on i.so_far c.loop-i-test.true (omega arith) (rw i.same_script at c.formal_here-reading.ensures.0)
          c.hold.ensures.judged c.hold.ensures.held c.in_ok-reader.was;
    }

pub returns-clause-reads : goal.returns-clause-reads
returns-clause-reads c = (all-post c.loop-i.invariant.so_far (omega arith)).0

pub returns-clause-named : goal.returns-clause-named
returns-clause-named c = (all-post c.loop-i.invariant.so_far (omega arith)).1
