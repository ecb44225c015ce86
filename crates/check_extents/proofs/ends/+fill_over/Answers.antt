-- What is still to pass at each turn of `fill`, and what the mark tells in `over`.
use Rattle.std.proofs.Common.{rules, arith}
use Rattle.check_extents.specs.Passing.{Skipped}
use Rattle.check_extents.proofs.Skipping.{left-first, left-whole, left_end, left-inside, stepped-head}
use Rattle.check_extents.proofs.ends.+fill_over.Goals as goal

pub fill-loop-pending-init : goal.fill-loop-pending-init
fill-loop-pending-init t c = search (rules, left-first)

pub fill-returns-then-script-here-clause-skipped :
    goal.fill-returns-then-script-here-clause-skipped
fill-returns-then-script-here-clause-skipped t c =
    let l = c.loop-pending in
    let a = c.args in (
      record {
        ends = λ x h. absurd
            (left-inside a.script.now a.at x l.here l.pending c.loop-pending-test.true (l.invariant.3 x h) c.if-script-here.true);
        after = omega (arith, l.invariant.0);
        close = omega (arith, l.invariant.1);
      },
      l.invariant.0,
    )

pub fill-loop-pending-preserved : goal.fill-loop-pending-preserved
fill-loop-pending-preserved t c =
    let o = c.over-s in
    let l = c.loop-pending in
    let a = c.args in (
      search rules,
      o.ensures.stepped.near,
      search rules,
      λ x h. o.ensures.stepped.steps a.at l.pending x c.loop-pending-test.true (l.invariant.3 x h),
      o.ensures.noted,
    )

pub fill-returns-clause-skipped : goal.fill-returns-clause-skipped
fill-returns-clause-skipped t c =
    let l = c.loop-pending in
    let a = c.args in (
      record {
        ends = λ x h. left_end a.script.now a.at x l.here l.pending c.loop-pending-test.false (l.invariant.3 x h);
        after = omega (arith, l.invariant.0);
        close = omega (arith, l.invariant.1);
      },
      l.invariant.0,
    )

pub fill-returns-clause-noted : goal.fill-returns-clause-noted
fill-returns-clause-noted t c =
    let l = c.loop-pending in
    let a = c.args in
    let s : Skipped a.script.now a.at l.here = record {
      ends = λ x h. left_end a.script.now a.at x l.here l.pending c.loop-pending-test.false (l.invariant.3 x h);
      after = omega (arith, l.invariant.0);
      close = omega (arith, l.invariant.1);
    } in
    c.note.ensures a.script.now s l.invariant.4

pub over-returns-then-mark-eq-PR-clause-stepped : goal.over-returns-then-mark-eq-PR-clause-stepped
over-returns-then-mark-eq-PR-clause-stepped t c = search (rules, left-whole)

pub over-returns-then-mark-eq-BK-clause-stepped : goal.over-returns-then-mark-eq-BK-clause-stepped
over-returns-then-mark-eq-BK-clause-stepped t c = search (rules, stepped-head)

pub over-returns-clause-stepped : goal.over-returns-clause-stepped
over-returns-clause-stepped t c = search (rules, stepped-head)
