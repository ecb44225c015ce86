-- `run` meets its contract. The loop's invariant: the run has come so far that so many steps are left.
use mathlib.Core.Path.{refl, ◌∙◌}
use borrow.Author.Rules.{rules}
use Rattle.run_state.specs.Listed.{list-has, list-went, list-finished, list-stopped, list-spent}
use Rattle.display_run.specs.Ending.{goes-begun, goes_further, goes_on, looking, live-placed, at-placed, placed, few-left, spent, stopped-looking, stopped, finished_as}
use Rattle.display_run.proofs.run.run.Goals as goal

-- the places on the way to a stop: the cause read and the halt made; the step that stops, and the loop's turn
pub settle-requires : goal.settle-requires
settle-requires c =
    (stopped-looking c.loop-left.invariant.0 c.requires.running c.step.ensures.turns_to c.in-Stopped.is, placed c.loop-left.invariant.0 c.requires.running)

pub step-requires : goal.step-requires
step-requires c =
    record { running = goes_on c.loop-left.invariant.0 c.requires.running; has_list = list-has c.loop-left.here c.loop-left.invariant.1.1 c.requires.has_list }

-- after a step that goes on
pub loop-left-preserved : goal.loop-left-preserved
loop-left-preserved c =
    let i = c.loop-left.invariant in
    let kept = c.step.auto in
    (search (rules, goes_further), (search (rules, ◌∙◌), list-went c.loop-left.here i.1.1 _ c.step.ensures.keeps_list c.in-Went.is))

-- the table and the list are as long as they were
pub shape_of-table-in-Stopped : goal.shape_of-table-in-Stopped
shape_of-table-in-Stopped c =
    let kept = c.step.auto in
    let i = c.loop-left.invariant in
    search (rules, ◌∙◌)

pub shape_of-groups-in-Stopped : goal.shape_of-groups-in-Stopped
shape_of-groups-in-Stopped c =
    let kept = c.step.auto in
    let i = c.loop-left.invariant in
    search (rules, ◌∙◌)

pub returns-in-Finished : goal.returns-in-Finished
returns-in-Finished c =
    let i = c.loop-left.invariant in
    record { run_from = λ w. search (rules, finished_as); keeps_list = list-finished c.loop-left.here i.1.1 _ c.step.ensures.keeps_list c.in-Finished.is c.finished.ensures }

pub returns : goal.returns
returns c =
    record { run_from = λ w. search (rules, spent); keeps_list = list-spent c.loop-left.here c.loop-left.invariant.1.1 c.spent-halt.ensures c.named-2.ensures }

pub returns-in-Stopped : goal.returns-in-Stopped
returns-in-Stopped c =
    record {
      run_from = λ w.
          stopped c.loop-left.invariant.0 w c.step.ensures.turns_to c.in-Stopped.is c.settle.ensures.nexts_after c.settle.ensures.value c.named.ensures
          c.loop-left-test.true c.stopped-halt.ensures;
      keeps_list = list-stopped c.loop-left.here c.loop-left.invariant.1.1 _ c.step.ensures.keeps_list c.in-Stopped.is c.stopped-halt.ensures c.named.ensures;
    }

pub loop-left-init : goal.loop-left-init
loop-left-init c = (search goes-begun, (refl, λ past b. b))

pub overflow_sub-allowance : goal.overflow_sub-allowance
overflow_sub-allowance c = search few-left

pub shape_of-table-in-Finished : goal.shape_of-table-in-Finished
shape_of-table-in-Finished c = cc

pub shape_of-groups-in-Finished : goal.shape_of-groups-in-Finished
shape_of-groups-in-Finished c = cc

pub overflow_sub-allowance-in-Stopped : goal.overflow_sub-allowance-in-Stopped
overflow_sub-allowance-in-Stopped c = search few-left

pub stopped-halt-requires : goal.stopped-halt-requires
stopped-halt-requires c = search (live-placed, at-placed)

pub spent-halt-requires : goal.spent-halt-requires
spent-halt-requires c = search live-placed

pub settle-requires-2 : goal.settle-requires-2
settle-requires-2 c = search (looking, placed)
