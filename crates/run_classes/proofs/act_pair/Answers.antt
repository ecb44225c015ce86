-- Each arm's function does what `acting` has for its operation.
use Rattle.std.proofs.Common.{subst, rules}
use Rattle.run_moves.specs.declared.Ask.TheVariants.{Add, Remove}
use Rattle.run_moves.specs.Acting.{scene_by, pair-op, unpair-op, operations, happens}
use Rattle.steps.specs.Finding.{by_first}
use Rattle.run_classes.specs.Asking.{Ready, Leads}
use Rattle.run_classes.specs.Moves.{did, change-did}
use Rattle.run_classes.specs.Classes.{op-at, unpair-left}
use Rattle.run_classes.proofs.act_pair.Goals as goal

pub do_change-requires : goal.do_change-requires
unfolding operations
do_change-requires c =
    subst (Ready c.args.code.now c.args.cells.now 0 0 c.args.at c.args.first c.args.second 0)
    (op-at c.code_at.ensures.0 c.operation_of.ensures.0 8 c.in-8.is) c.requires.2

pub do_change-requires-in_default : goal.do_change-requires-in_default
do_change-requires-in_default c =
    subst (Ready c.args.code.now c.args.cells.now 0 0 c.args.at c.args.first c.args.second 0)
    (unpair-left c.code_at.ensures.0 c.operation_of.ensures.0 c.requires.1 (search rules)) c.requires.2

pub returns-in-8 : goal.returns-in-8
unfolding operations happens
returns-in-8 c =
    λ first_of activations live l.
    let e = op-at c.code_at.ensures.0 c.operation_of.ensures.0 8 c.in-8.is in
    let F = by_first c.args.cells.now first_of in
    let s = scene_by c.args.code.now c.args.cells.now activations live c.args.at in
    let g = subst (Leads first_of c.args.code.now c.args.at c.args.first c.args.second 0) e l in
    did F s pair-op e (change-did F s Add (c.do_change.ensures first_of g.0 g.1))

pub returns-in_default : goal.returns-in_default
unfolding happens
returns-in_default c =
    λ first_of activations live l.
    let e = unpair-left c.code_at.ensures.0 c.operation_of.ensures.0 c.requires.1 (search rules) in
    let F = by_first c.args.cells.now first_of in
    let s = scene_by c.args.code.now c.args.cells.now activations live c.args.at in
    let g = subst (Leads first_of c.args.code.now c.args.at c.args.first c.args.second 0) e l in
    did F s unpair-op e (change-did F s Remove (c.do_change-in_default.ensures first_of g.0 g.1))
