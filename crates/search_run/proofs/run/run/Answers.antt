-- A step more, and the three ends: the program is left, a statement stops, or no step is left.
use Rattle.std.proofs.Common.{arith}
use Rattle.run_state.specs.Listed.{list-has, list-went, list-finished, list-stopped, list-spent}
use Rattle.search_run.specs.Ending.{goes-begun, goes_further, goes_on, looking, live-placed, at-placed, few-left, spent, stopped-looking, stopped, finished_as}
use Rattle.search_run.proofs.run.run.Goals as goal

pub loop-left-init : goal.loop-left-init
loop-left-init c = record { goes = goes-begun; lists = λ past b. b }

pub step-requires : goal.step-requires
step-requires c =
    let l = c.loop-left in
    record { running = goes_on l.invariant.goes c.requires.running; has_list = list-has l.here l.invariant.lists c.requires.has_list }

pub loop-left-preserved : goal.loop-left-preserved
loop-left-preserved c =
    let i = c.loop-left.invariant in
    let s = c.step in
    record {
      goes = goes_further i.goes s.ensures.turns_to s.auto.table c.in-Went.is c.loop-left-test.true;
      lists = list-went c.loop-left.here i.lists s.result s.ensures.keeps_list c.in-Went.is;
    }

pub overflow_sub-allowance : goal.overflow_sub-allowance
overflow_sub-allowance c = omega (arith, few-left c.loop-left.invariant.goes c.requires.running)

pub returns-in-Finished : goal.returns-in-Finished
returns-in-Finished c =
    let i = c.loop-left.invariant in
    let s = c.step in
    record {
      run_from = λ w. finished_as i.goes w s.ensures.turns_to c.in-Finished.is c.loop-left-test.true c.finished.ensures;
      keeps_list = list-finished c.loop-left.here i.lists s.result s.ensures.keeps_list c.in-Finished.is c.finished.ensures;
    }

pub overflow_sub-allowance-in-Stopped : goal.overflow_sub-allowance-in-Stopped
overflow_sub-allowance-in-Stopped c = omega (arith, few-left c.loop-left.invariant.goes c.requires.running)

pub stopped-halt-requires : goal.stopped-halt-requires
stopped-halt-requires c = let g = c.loop-left.invariant.goes in (live-placed g c.requires.running, at-placed g c.requires.running)

pub settle-requires : goal.settle-requires
settle-requires c =
    let g = c.loop-left.invariant.goes in
    let w = c.requires.running in
    (stopped-looking g w c.step.ensures.turns_to c.in-Stopped.is, live-placed g w, omega (arith, at-placed g w))

pub returns-in-Stopped : goal.returns-in-Stopped
returns-in-Stopped c =
    let i = c.loop-left.invariant in
    let s = c.step in
    record {
      run_from = λ w.
          stopped i.goes w s.ensures.turns_to c.in-Stopped.is c.settle.ensures.nexts_after c.settle.ensures.value c.named.ensures
          c.loop-left-test.true c.stopped-halt.ensures;
      keeps_list = list-stopped c.loop-left.here i.lists s.result s.ensures.keeps_list c.in-Stopped.is c.stopped-halt.ensures c.named.ensures;
    }

pub spent-halt-requires : goal.spent-halt-requires
spent-halt-requires c = live-placed c.loop-left.invariant.goes c.requires.running

pub settle-requires-2 : goal.settle-requires-2
settle-requires-2 c =
    let g = c.loop-left.invariant.goes in
    let w = c.requires.running in
    (looking g w, live-placed g w, omega (arith, at-placed g w))

pub returns : goal.returns
returns c =
    let i = c.loop-left.invariant in
    record {
      run_from = λ w. spent i.goes w c.settle-2.ensures.nexts_after c.settle-2.ensures.value c.named-2.ensures (omega arith) c.spent-halt.ensures;
      keeps_list = list-spent c.loop-left.here i.lists c.spent-halt.ensures c.named-2.ensures;
    }
