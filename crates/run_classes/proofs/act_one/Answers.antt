-- Each arm's function does what `acting` has for its operation.
use Rattle.std.proofs.Common.{subst, rules}
use Rattle.run_moves.specs.Acting.{scene_by, goto-op, block-op, call-op, constant-formal-op, goto-formal-op, call-formal-op, operations, happens}
use Rattle.steps.specs.Finding.{by_first}
use Rattle.run_cells.specs.Calling.{word_after}
use Rattle.run_cells.specs.Cells.{home-own, target-own, goto-own}
use Rattle.run_classes.specs.Asking.{Ready, Leads}
use Rattle.run_classes.specs.Moves.{did, constant-did, goto-did, block-did, call-did, call-formal-did}
use Rattle.run_classes.specs.Classes.{op-at, call-left}
use Rattle.run_classes.proofs.act_one.Goals as goal

pub do_goto-requires : goal.do_goto-requires
unfolding operations
do_goto-requires c =
    (subst (Ready c.args.code.now c.args.cells.now c.args.activations c.args.live c.args.at c.args.first 0 0)
    (op-at c.code_at.ensures.0 c.operation_of.ensures.0 5 c.in-5.is) c.requires.2).0

pub do_block-requires : goal.do_block-requires
unfolding operations
do_block-requires c =
    subst (Ready c.args.code.now c.args.cells.now c.args.activations c.args.live c.args.at c.args.first 0 0)
    (op-at c.code_at.ensures.0 c.operation_of.ensures.0 6 c.in-6.is) c.requires.2

pub do_call-requires : goal.do_call-requires
unfolding operations
do_call-requires c =
    (subst (Ready c.args.code.now c.args.cells.now c.args.activations c.args.live c.args.at c.args.first 0 0)
    (op-at c.code_at.ensures.0 c.operation_of.ensures.0 7 c.in-7.is) c.requires.2).0

pub do_constant_formal-requires : goal.do_constant_formal-requires
unfolding operations
do_constant_formal-requires c =
    subst (Ready c.args.code.now c.args.cells.now c.args.activations c.args.live c.args.at c.args.first 0 0)
    (op-at c.code_at.ensures.0 c.operation_of.ensures.0 11 c.in-11.is) c.requires.2

pub do_goto_formal-requires : goal.do_goto_formal-requires
unfolding operations
do_goto_formal-requires c =
    subst (Ready c.args.code.now c.args.cells.now c.args.activations c.args.live c.args.at c.args.first 0 0)
    (op-at c.code_at.ensures.0 c.operation_of.ensures.0 14 c.in-14.is) c.requires.2

pub do_call_formal-requires : goal.do_call_formal-requires
do_call_formal-requires c =
    subst (Ready c.args.code.now c.args.cells.now c.args.activations c.args.live c.args.at c.args.first 0 0)
    (call-left c.code_at.ensures.0 c.operation_of.ensures.0 c.requires.1 (search rules)) c.requires.2

pub returns-in-5 : goal.returns-in-5
unfolding operations happens
returns-in-5 c =
    λ first_of l.
    let e = op-at c.code_at.ensures.0 c.operation_of.ensures.0 5 c.in-5.is in
    let F = by_first c.args.cells.now first_of in
    let s = scene_by c.args.code.now c.args.cells.now c.args.activations c.args.live c.args.at in
    let g = subst (Leads first_of c.args.code.now c.args.at c.args.first 0 0) e l in
    let d = (subst (Ready c.args.code.now c.args.cells.now c.args.activations c.args.live c.args.at c.args.first 0 0) e c.requires.2).1.is in
    did F s goto-op e (goto-did F s (goto-own c.args.code.now c.args.cells.now c.args.at c.do_goto.ensures d first_of g))

pub returns-in-6 : goal.returns-in-6
unfolding operations happens
returns-in-6 c =
    λ first_of l.
    let e = op-at c.code_at.ensures.0 c.operation_of.ensures.0 6 c.in-6.is in
    let F = by_first c.args.cells.now first_of in
    let s = scene_by c.args.code.now c.args.cells.now c.args.activations c.args.live c.args.at in
    did F s block-op e (block-did F s c.do_block.ensures)

pub returns-in-7 : goal.returns-in-7
unfolding operations happens
returns-in-7 c =
    λ first_of l.
    let e = op-at c.code_at.ensures.0 c.operation_of.ensures.0 7 c.in-7.is in
    let F = by_first c.args.cells.now first_of in
    let s = scene_by c.args.code.now c.args.cells.now c.args.activations c.args.live c.args.at in
    let g = subst (Leads first_of c.args.code.now c.args.at c.args.first 0 0) e l in
    let d = (subst (Ready c.args.code.now c.args.cells.now c.args.activations c.args.live c.args.at c.args.first 0 0) e c.requires.2).1.is in
    let w = word_after c.args.code.now c.args.at 1 in
    did F s call-op e (call-did F s (home-own c.args.cells.now first_of w g d) (target-own c.args.cells.now first_of w g d) c.do_call.ensures)

pub returns-in-11 : goal.returns-in-11
unfolding operations happens
returns-in-11 c =
    λ first_of l.
    let e = op-at c.code_at.ensures.0 c.operation_of.ensures.0 11 c.in-11.is in
    let F = by_first c.args.cells.now first_of in
    let s = scene_by c.args.code.now c.args.cells.now c.args.activations c.args.live c.args.at in
    let g = subst (Leads first_of c.args.code.now c.args.at c.args.first 0 0) e l in
    did F s constant-formal-op e (constant-did F s (c.do_constant_formal.ensures first_of g))

pub returns-in-14 : goal.returns-in-14
unfolding operations happens
returns-in-14 c =
    λ first_of l.
    let e = op-at c.code_at.ensures.0 c.operation_of.ensures.0 14 c.in-14.is in
    let F = by_first c.args.cells.now first_of in
    let s = scene_by c.args.code.now c.args.cells.now c.args.activations c.args.live c.args.at in
    let g = subst (Leads first_of c.args.code.now c.args.at c.args.first 0 0) e l in
    did F s goto-formal-op e (goto-did F s (c.do_goto_formal.ensures first_of g))

pub returns-in_default : goal.returns-in_default
unfolding happens
returns-in_default c =
    λ first_of l.
    let e = call-left c.code_at.ensures.0 c.operation_of.ensures.0 c.requires.1 (search rules) in
    let F = by_first c.args.cells.now first_of in
    let s = scene_by c.args.code.now c.args.cells.now c.args.activations c.args.live c.args.at in
    let g = subst (Leads first_of c.args.code.now c.args.at c.args.first 0 0) e l in
    did F s call-formal-op e (call-formal-did F s (c.do_call_formal.ensures first_of g))
