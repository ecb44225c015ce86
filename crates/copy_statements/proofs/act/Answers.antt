-- Each mark's function does what `doing` has for the mark.
use Rattle.std.proofs.Common.{ap, rules}
use Rattle.run_moves.specs.Acting.{Scene, scene_by}
use Rattle.copy_statements.specs.Doing.{Copy, arithmetic, branch, constant, call, goto, block, pair, unpair, query, mark_of, doing}
use Rattle.copy_statements.specs.Scenes.{copy_by}
use Rattle.copy_statements.specs.Moved.{came}
use Rattle.copy_statements.proofs.Asks.{arithmetic-asks, branch-asks, constant-asks, call_asks, goto-asks, pair-asks, unpair-asks, query-asks}
use Rattle.copy_statements.proofs.Acts.{last-mark, mark-is, acted}
use Rattle.copy_statements.proofs.Acts.{arithmetic-acts, branch-acts, constant-acts, call-acts, goto-acts, block-acts, pair-acts, unpair-acts, query-acts}
use Rattle.copy_statements.proofs.act.Goals as goal

pub do_arithmetic-requires : goal.do_arithmetic-requires
unfolding mark_of
do_arithmetic-requires c =
    let copy : Copy = copy_by c.args.area.now c.args.base c.args.firsts.now c.args.starts.now c.args.targets.now in
    let scene : Scene = scene_by c.args.code.now c.args.cells.now c.args.activations c.args.live c.args.at in
    let q = arithmetic-asks copy scene c.requires (mark-is copy scene c.field-mark.ensures.0 (ap mark_of c.in-21057.is)) in
    record { at_bound = q.0; name_at = q.1.0; name_at_2 = q.1.1.0; name_at_3 = q.1.1.1 }

pub do_branch-requires : goal.do_branch-requires
unfolding mark_of
do_branch-requires c =
    let copy : Copy = copy_by c.args.area.now c.args.base c.args.firsts.now c.args.starts.now c.args.targets.now in
    let scene : Scene = scene_by c.args.code.now c.args.cells.now c.args.activations c.args.live c.args.at in
    let q = branch-asks copy scene c.requires (mark-is copy scene c.field-mark.ensures.0 (ap mark_of c.in-17993.is)) in
    record { at_bound = q.0; name_at = q.1.0; name_at_2 = q.1.1 }

pub do_constant-requires : goal.do_constant-requires
unfolding mark_of
do_constant-requires c =
    let copy : Copy = copy_by c.args.area.now c.args.base c.args.firsts.now c.args.starts.now c.args.targets.now in
    let scene : Scene = scene_by c.args.code.now c.args.cells.now c.args.activations c.args.live c.args.at in
    let q = constant-asks copy scene c.requires (mark-is copy scene c.field-mark.ensures.0 (ap mark_of c.in-20043.is)) in
    record { at_bound = q.0; place_in_bounds = q.1.0; name_at = q.1.1.0; place_bound = q.1.1.1.0; place_bound_2 = q.1.1.1.1 }

pub do_call-requires : goal.do_call-requires
unfolding mark_of
do_call-requires c =
    let copy : Copy = copy_by c.args.area.now c.args.base c.args.firsts.now c.args.starts.now c.args.targets.now in
    let scene : Scene = scene_by c.args.code.now c.args.cells.now c.args.activations c.args.live c.args.at in
    call_asks copy scene c.requires (mark-is copy scene c.field-mark.ensures.0 (ap mark_of c.in-19523.is))

pub do_goto-requires : goal.do_goto-requires
unfolding mark_of
do_goto-requires c =
    let copy : Copy = copy_by c.args.area.now c.args.base c.args.firsts.now c.args.starts.now c.args.targets.now in
    let scene : Scene = scene_by c.args.code.now c.args.cells.now c.args.activations c.args.live c.args.at in
    goto-asks copy scene c.requires (mark-is copy scene c.field-mark.ensures.0 (ap mark_of c.in-20295.is))

pub do_change-requires : goal.do_change-requires
unfolding mark_of
do_change-requires c =
    let copy : Copy = copy_by c.args.area.now c.args.base c.args.firsts.now c.args.starts.now c.args.targets.now in
    let scene : Scene = scene_by c.args.code.now c.args.cells.now c.args.activations c.args.live c.args.at in
    let q = pair-asks copy scene c.requires (mark-is copy scene c.field-mark.ensures.0 (ap mark_of c.in-17473.is)) in
    record { at_bound = q.0; name_at = q.1.0; name_at_2 = q.1.1 }

pub do_change-requires-in-19794 : goal.do_change-requires-in-19794
unfolding mark_of
do_change-requires-in-19794 c =
    let copy : Copy = copy_by c.args.area.now c.args.base c.args.firsts.now c.args.starts.now c.args.targets.now in
    let scene : Scene = scene_by c.args.code.now c.args.cells.now c.args.activations c.args.live c.args.at in
    let q = unpair-asks copy scene c.requires (mark-is copy scene c.field-mark.ensures.0 (ap mark_of c.in-19794.is)) in
    record { at_bound = q.0; name_at = q.1.0; name_at_2 = q.1.1 }

pub do_query-requires : goal.do_query-requires
unfolding mark_of
do_query-requires c =
    let copy : Copy = copy_by c.args.area.now c.args.base c.args.firsts.now c.args.starts.now c.args.targets.now in
    let scene : Scene = scene_by c.args.code.now c.args.cells.now c.args.activations c.args.live c.args.at in
    let q = query-asks copy scene c.requires (mark-is copy scene c.field-mark.ensures.0 (search (rules, last-mark))) in
    record { at_bound = q.0; name_at = q.1.0; name_at_2 = q.1.1.0; name_at_3 = q.1.1.1 }

pub returns-in-21057 : goal.returns-in-21057
unfolding mark_of
returns-in-21057 c =
    let copy : Copy = copy_by c.args.area.now c.args.base c.args.firsts.now c.args.starts.now c.args.targets.now in
    let scene : Scene = scene_by c.args.code.now c.args.cells.now c.args.activations c.args.live c.args.at in
    let q = came (doing copy scene) c.came_to.ensures
    (acted copy scene arithmetic (mark-is copy scene c.field-mark.ensures.0 (ap mark_of c.in-21057.is)) (arithmetic-acts copy scene c.do_arithmetic.ensures.value c.do_arithmetic.ensures.cells_after)) in
    record { value = q.0; cells_after = q.1 }

pub returns-in-17993 : goal.returns-in-17993
unfolding mark_of
returns-in-17993 c =
    let copy : Copy = copy_by c.args.area.now c.args.base c.args.firsts.now c.args.starts.now c.args.targets.now in
    let scene : Scene = scene_by c.args.code.now c.args.cells.now c.args.activations c.args.live c.args.at in
    let q = came (doing copy scene) c.came_to-in-17993.ensures
    (acted copy scene branch (mark-is copy scene c.field-mark.ensures.0 (ap mark_of c.in-17993.is)) (branch-acts copy scene c.do_branch.ensures)) in
    record { value = q.0; cells_after = q.1 }

pub returns-in-20043 : goal.returns-in-20043
unfolding mark_of
returns-in-20043 c =
    let copy : Copy = copy_by c.args.area.now c.args.base c.args.firsts.now c.args.starts.now c.args.targets.now in
    let scene : Scene = scene_by c.args.code.now c.args.cells.now c.args.activations c.args.live c.args.at in
    let q = came (doing copy scene) c.came_to-in-20043.ensures
    (acted copy scene constant (mark-is copy scene c.field-mark.ensures.0 (ap mark_of c.in-20043.is)) (constant-acts copy scene c.do_constant.ensures.value c.do_constant.ensures.cells_after)) in
    record { value = q.0; cells_after = q.1 }

pub returns-in-19523 : goal.returns-in-19523
unfolding mark_of
returns-in-19523 c =
    let copy : Copy = copy_by c.args.area.now c.args.base c.args.firsts.now c.args.starts.now c.args.targets.now in
    let scene : Scene = scene_by c.args.code.now c.args.cells.now c.args.activations c.args.live c.args.at in
    let q = came (doing copy scene) c.came_to-in-19523.ensures
    (acted copy scene call (mark-is copy scene c.field-mark.ensures.0 (ap mark_of c.in-19523.is)) (call-acts copy scene c.do_call.ensures.value c.do_call.ensures.cells_after)) in
    record { value = q.0; cells_after = q.1 }

pub returns-in-20295 : goal.returns-in-20295
unfolding mark_of
returns-in-20295 c =
    let copy : Copy = copy_by c.args.area.now c.args.base c.args.firsts.now c.args.starts.now c.args.targets.now in
    let scene : Scene = scene_by c.args.code.now c.args.cells.now c.args.activations c.args.live c.args.at in
    let q = came (doing copy scene) c.came_to-in-20295.ensures
    (acted copy scene goto (mark-is copy scene c.field-mark.ensures.0 (ap mark_of c.in-20295.is)) (goto-acts copy scene c.do_goto.ensures)) in
    record { value = q.0; cells_after = q.1 }

pub returns-in-17473 : goal.returns-in-17473
unfolding mark_of
returns-in-17473 c =
    let copy : Copy = copy_by c.args.area.now c.args.base c.args.firsts.now c.args.starts.now c.args.targets.now in
    let scene : Scene = scene_by c.args.code.now c.args.cells.now c.args.activations c.args.live c.args.at in
    let q = came (doing copy scene) c.came_to-in-17473.ensures
    (acted copy scene pair (mark-is copy scene c.field-mark.ensures.0 (ap mark_of c.in-17473.is)) (pair-acts copy scene c.do_change.ensures)) in
    record { value = q.0; cells_after = q.1 }

pub returns-in-19794 : goal.returns-in-19794
unfolding mark_of
returns-in-19794 c =
    let copy : Copy = copy_by c.args.area.now c.args.base c.args.firsts.now c.args.starts.now c.args.targets.now in
    let scene : Scene = scene_by c.args.code.now c.args.cells.now c.args.activations c.args.live c.args.at in
    let q = came (doing copy scene) c.came_to-in-19794.ensures
    (acted copy scene unpair (mark-is copy scene c.field-mark.ensures.0 (ap mark_of c.in-19794.is)) (unpair-acts copy scene c.do_change-in-19794.ensures)) in
    record { value = q.0; cells_after = q.1 }

pub returns-in_default : goal.returns-in_default
unfolding mark_of
returns-in_default c =
    let copy : Copy = copy_by c.args.area.now c.args.base c.args.firsts.now c.args.starts.now c.args.targets.now in
    let scene : Scene = scene_by c.args.code.now c.args.cells.now c.args.activations c.args.live c.args.at in
    let q = came (doing copy scene) c.came_to-in_default.ensures
    (acted copy scene query (mark-is copy scene c.field-mark.ensures.0 (search (rules, last-mark))) (query-acts copy scene c.do_query.ensures)) in
    record { value = q.0; cells_after = q.1 }

pub returns-in-19266 : goal.returns-in-19266
unfolding mark_of
returns-in-19266 c =
    let copy : Copy = copy_by c.args.area.now c.args.base c.args.firsts.now c.args.starts.now c.args.targets.now in
    let scene : Scene = scene_by c.args.code.now c.args.cells.now c.args.activations c.args.live c.args.at in
    let q = came (doing copy scene) c.came_to-in-19266.ensures
    (acted copy scene block (mark-is copy scene c.field-mark.ensures.0 (ap mark_of c.in-19266.is)) (block-acts copy scene c.do_block.ensures)) in
    record { value = q.0; cells_after = q.1 }
