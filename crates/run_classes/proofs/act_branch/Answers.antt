-- Each arm's function does what `acting` has for its operation.
use Rattle.std.proofs.Common.{subst, rules}
use Rattle.run_moves.specs.Acting.{scene_by, branch-op, branch-formal-op, operations, happens}
use Rattle.steps.specs.Finding.{by_first}
use Rattle.run_classes.specs.Asking.{Ready, Leads}
use Rattle.run_classes.specs.Moves.{did, branch-did}
use Rattle.run_classes.specs.Classes.{op-at, branch-left}
use Rattle.run_classes.proofs.act_branch.Goals as goal

pub do_branch-requires : goal.do_branch-requires
unfolding operations
do_branch-requires c =
    subst (Ready c.args.code.now c.args.cells.now 0 0 c.args.at c.args.first c.args.second 0)
    (op-at c.code_at.ensures.0 c.operation_of.ensures.0 4 c.in-4.is) c.requires.2

pub do_branch_formal-requires : goal.do_branch_formal-requires
do_branch_formal-requires c =
    subst (Ready c.args.code.now c.args.cells.now 0 0 c.args.at c.args.first c.args.second 0)
    (branch-left c.code_at.ensures.0 c.operation_of.ensures.0 c.requires.1 (search rules)) c.requires.2

pub returns-in-4 : goal.returns-in-4
unfolding operations happens
returns-in-4 c =
    λ first_of activations live l.
    let e = op-at c.code_at.ensures.0 c.operation_of.ensures.0 4 c.in-4.is in
    let F = by_first c.args.cells.now first_of in
    let s = scene_by c.args.code.now c.args.cells.now activations live c.args.at in
    let g = subst (Leads first_of c.args.code.now c.args.at c.args.first c.args.second 0) e l in
    did F s branch-op e (branch-did F s (c.do_branch.ensures first_of g.0 g.1))

pub returns-in_default : goal.returns-in_default
unfolding happens
returns-in_default c =
    λ first_of activations live l.
    let e = branch-left c.code_at.ensures.0 c.operation_of.ensures.0 c.requires.1 (search rules) in
    let F = by_first c.args.cells.now first_of in
    let s = scene_by c.args.code.now c.args.cells.now activations live c.args.at in
    let g = subst (Leads first_of c.args.code.now c.args.at c.args.first c.args.second 0) e l in
    did F s branch-formal-op e (branch-did F s (c.do_branch_formal.ensures first_of g.0 g.1))
