-- At the end of the text the activation is left, and before it the statement is done.
use Rattle.std.proofs.Common.{refl, ◌≤◌, rules}
use Rattle.run_state.specs.Turns.{above_zero}
use Rattle.run_statements.specs.Answers.{answered-lists}
use Rattle.copy_run.specs.Here.{ready-here}
use Rattle.copy_run.specs.Turns.{leave-ready, left-on, left-keeps, base-within, went_on, asked-there, answered-on, jump-ready, jumped-on, jumped-keeps, enter-ready, entered_on, entered-keeps, stopped-at}
use Rattle.copy_run.proofs.run.step.Goals as goal

pub returns-then-live-eq0 : goal.returns-then-live-eq0
returns-then-live-eq0 c =
    record { turned = λ w. record { ended = c.if-at-here.true; alone = c.if-live-eq0.true; same-cells = refl; same-table = refl }; keeps_list = λ past b. b }

pub leave-requires : goal.leave-requires
leave-requires c = leave-ready c.requires.ready.running (above_zero c.args.here.live c.if-live-eq0.false)

pub returns-then-at-here : goal.returns-then-at-here
returns-then-at-here c =
    let below : 1 ≤ c.args.here.live = above_zero c.args.here.live c.if-live-eq0.false in
    record {
      turned = λ w. left-on w c.if-at-here.true below c.leave.result c.leave.ensures;
      keeps_list = left-keeps c.requires.ready.running c.if-at-here.true below c.leave.result c.leave.ensures _;
    }

pub overflow_mul-base : goal.overflow_mul-base
overflow_mul-base c = search (rules, base-within c.requires.ready.running)

pub act-requires : goal.act-requires
act-requires c = ready-here c.requires.ready.running c.if-at-here.false

pub jump-requires : goal.jump-requires
jump-requires c = jump-ready c.requires.ready.running c.if-at-here.false (c.act.ensures.value, c.act.ensures.cells_after) c.in-Jump.is

pub enter-requires : goal.enter-requires
enter-requires c =
    enter-ready c.requires.ready.running c.if-at-here.false (c.act.ensures.value, c.act.ensures.cells_after) c.requires.ready.names-left c.in-Enter.is

pub asked-requires : goal.asked-requires
asked-requires c =
    record {
      group_bound = asked-there c.requires.ready.running c.if-at-here.false (c.act.ensures.value, c.act.ensures.cells_after) c.in-Table.is;
      has_list = c.requires.has_list;
    }

pub returns-in-Went : goal.returns-in-Went
returns-in-Went c =
    record { turned = λ w. went_on w c.if-at-here.false (c.act.ensures.value, c.act.ensures.cells_after) c.in-Went.is; keeps_list = λ past b. b }

pub returns-in-Jump : goal.returns-in-Jump
returns-in-Jump c =
    record {
      turned = λ w. jumped-on w c.if-at-here.false (c.act.ensures.value, c.act.ensures.cells_after) c.in-Jump.is c.jump.ensures;
      keeps_list = jumped-keeps c.requires.ready.running c.if-at-here.false (c.act.ensures.value, c.act.ensures.cells_after) c.in-Jump.is c.jump.ensures _;
    }

pub returns-in-Enter : goal.returns-in-Enter
returns-in-Enter c =
    record {
      turned = λ w. entered_on w c.if-at-here.false (c.act.ensures.value, c.act.ensures.cells_after) c.in-Enter.is c.enter.ensures;
      keeps_list = entered-keeps c.requires.ready.running c.if-at-here.false (c.act.ensures.value, c.act.ensures.cells_after) c.in-Enter.is c.enter.ensures _;
    }

pub returns-in-Stop : goal.returns-in-Stop
returns-in-Stop c =
    record { turned = λ w. stopped-at w c.if-at-here.false (c.act.ensures.value, c.act.ensures.cells_after) c.in-Stop.is; keeps_list = λ past b. b }

pub returns-in-Table : goal.returns-in-Table
returns-in-Table c =
    record {
      turned = λ w.
          answered-on w c.if-at-here.false (c.act.ensures.value, c.act.ensures.cells_after) c.in-Table.is
          (c.asked.ensures.value, (c.asked.ensures.cells_after, c.asked.ensures.table_after)) c.after.ensures;
      keeps_list = answered-lists _ _ _ c.after.ensures c.asked.ensures.keeps_list;
    }
