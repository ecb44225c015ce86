-- A step more, and the three ends: the program is left, a statement stops, no step is left.
use Rattle.std.proofs.Common.{arith}
use Rattle.run_state.specs.Listed.{list-has, list-went, list-finished, list-stopped, list-spent}
use Rattle.copy_run.specs.Turning.{Arrays, arrays_of}
use Rattle.copy_run.specs.Ending.{begun, step-ready, settle-ready, live_small, at_small, few-left, spent, stopped, went-as, finished_as, stays}
use Rattle.copy_run.proofs.run.run.Goals as goal

pub loop-left-init : goal.loop-left-init
loop-left-init c = record { goes = λ w. begun w c.args.allowance; lists = λ past b. b }

pub step-requires : goal.step-requires
step-requires c =
    let l = c.loop-left in
    record {
      ready = step-ready (l.invariant.goes c.requires.ready.running) c.requires.ready.names-left c.loop-left-test.true;
      has_list = list-has l.here l.invariant.lists c.requires.has_list;
    }

pub loop-left-preserved : goal.loop-left-preserved
loop-left-preserved c =
    let l = c.loop-left in
    let t = c.step in
    let a : Arrays = arrays_of t.new.cells t.new.area t.new.blocks t.new.nexts t.new.links t.new.firsts t.new.starts t.new.targets t.new.looked t.new.table in
    record {
      goes = λ w. let u = l.invariant.goes w in went-as u a (t.ensures.turned u.running) c.in-Went.is c.loop-left-test.true;
      lists = list-went l.here l.invariant.lists t.result t.ensures.keeps_list c.in-Went.is;
    }

pub overflow_sub-allowance : goal.overflow_sub-allowance
overflow_sub-allowance c = few-left (c.loop-left.invariant.goes c.requires.ready.running)

pub returns-in-Finished : goal.returns-in-Finished
returns-in-Finished c =
    let l = c.loop-left in
    let t = c.step in
    let a : Arrays = arrays_of t.new.cells t.new.area t.new.blocks t.new.nexts t.new.links t.new.firsts t.new.starts t.new.targets t.new.looked t.new.table in
    record {
      run_from = λ w. let u = l.invariant.goes w in finished_as u a (t.ensures.turned u.running) c.in-Finished.is c.loop-left-test.true c.finished.ensures;
      keeps_list = list-finished l.here l.invariant.lists t.result t.ensures.keeps_list c.in-Finished.is c.finished.ensures;
    }

pub overflow_sub-allowance-in-Stopped : goal.overflow_sub-allowance-in-Stopped
overflow_sub-allowance-in-Stopped c = few-left (c.loop-left.invariant.goes c.requires.ready.running)

pub stopped-halt-requires : goal.stopped-halt-requires
stopped-halt-requires c =
    let u = c.loop-left.invariant.goes c.requires.ready.running in
    (live_small u, at_small u)

pub settle-requires : goal.settle-requires
settle-requires c =
    let t = c.step in
    let a : Arrays = arrays_of t.new.cells t.new.area t.new.blocks t.new.nexts t.new.links t.new.firsts t.new.starts t.new.targets t.new.looked t.new.table in
    let u = c.loop-left.invariant.goes c.requires.ready.running in
    settle-ready (stays u a (t.ensures.turned u.running) c.in-Stopped.is).0

pub returns-in-Stopped : goal.returns-in-Stopped
returns-in-Stopped c =
    let l = c.loop-left in
    let t = c.step in
    let a : Arrays = arrays_of t.new.cells t.new.area t.new.blocks t.new.nexts t.new.links t.new.firsts t.new.starts t.new.targets t.new.looked t.new.table in
    record {
      run_from = λ w.
          let u = l.invariant.goes w in
          let v = stays u a (t.ensures.turned u.running) c.in-Stopped.is in
          stopped v.0 c.settle.ensures.nexts_after c.settle.ensures.value c.named.ensures v.1 c.loop-left-test.true c.stopped-halt.ensures;
      keeps_list = list-stopped l.here l.invariant.lists t.result t.ensures.keeps_list c.in-Stopped.is c.stopped-halt.ensures c.named.ensures;
    }

pub spent-halt-requires : goal.spent-halt-requires
spent-halt-requires c = live_small (c.loop-left.invariant.goes c.requires.ready.running)

pub settle-requires-2 : goal.settle-requires-2
settle-requires-2 c = settle-ready (c.loop-left.invariant.goes c.requires.ready.running)

pub returns : goal.returns
returns c =
    let l = c.loop-left in
    record {
      run_from = λ w.
          spent (l.invariant.goes w) c.settle-2.ensures.nexts_after c.settle-2.ensures.value c.named-2.ensures (omega (arith, c.loop-left-test.false)) c.spent-halt.ensures;
      keeps_list = list-spent l.here l.invariant.lists c.spent-halt.ensures c.named-2.ensures;
    }
