-- At the end of the text the activation is left; before it the statement is done, and what it came to says how the engine goes on.
use Rattle.run_state.specs.Turns.{above_zero}
use Rattle.run_statements.specs.Answers.{answered-lists}
use Rattle.search_step.specs.Turns.{leave-ready, left-on, doing, went_on, asked-there, answered-on, jump-ready, jumped-on, enter-ready, entered_on, stopped-at}
use Rattle.search_step.proofs.step.Goals as goal

pub leave-requires : goal.leave-requires
leave-requires c = leave-ready c.requires.running (above_zero c.args.here.live c.if-live-eq0.false)

pub returns-then-at-here-clause-turns_to : goal.returns-then-at-here-clause-turns_to
returns-then-at-here-clause-turns_to c =
    record { turned = λ w. left-on w c.if-at-here.true (above_zero c.args.here.live c.if-live-eq0.false) c.leave.ensures }

pub act-requires : goal.act-requires
act-requires c = doing c.requires.running c.if-at-here.false

pub asked-requires-clause-group_bound : goal.asked-requires-clause-group_bound
asked-requires-clause-group_bound c = asked-there c.requires.running c.if-at-here.false c.act.ensures c.in-Table.is

pub jump-requires : goal.jump-requires
jump-requires c = jump-ready c.requires.running c.if-at-here.false c.act.ensures c.in-Jump.is

pub enter-requires : goal.enter-requires
enter-requires c = enter-ready c.requires.running c.if-at-here.false c.act.ensures c.in-Enter.is

pub returns-in-Went-clause-turns_to : goal.returns-in-Went-clause-turns_to
returns-in-Went-clause-turns_to c = record { turned = λ w. went_on w c.if-at-here.false c.act.ensures c.in-Went.is }

pub returns-in-Table-clause-turns_to : goal.returns-in-Table-clause-turns_to
returns-in-Table-clause-turns_to c =
    let d = c.asked.ensures in
    record { turned = λ w. answered-on w c.if-at-here.false c.act.ensures c.in-Table.is (d.value, (d.cells_after, d.table_after)) c.after.ensures }

pub returns-in-Table-clause-keeps_list : goal.returns-in-Table-clause-keeps_list
returns-in-Table-clause-keeps_list c = answered-lists c.args.here _ c.asked.result c.after.ensures c.asked.ensures.keeps_list

pub returns-in-Jump-clause-turns_to : goal.returns-in-Jump-clause-turns_to
returns-in-Jump-clause-turns_to c = record { turned = λ w. jumped-on w c.if-at-here.false c.act.ensures c.in-Jump.is c.jump.ensures }

pub returns-in-Enter-clause-turns_to : goal.returns-in-Enter-clause-turns_to
returns-in-Enter-clause-turns_to c = record { turned = λ w. entered_on w c.if-at-here.false c.act.ensures c.in-Enter.is c.enter.ensures }

pub returns-in-Stop-clause-turns_to : goal.returns-in-Stop-clause-turns_to
returns-in-Stop-clause-turns_to c = record { turned = λ w. stopped-at w c.if-at-here.false c.act.ensures c.in-Stop.is }
