-- `step` meets its contract: at the end of the text the activation is left, and before it the statement is done.
use Rattle.run_state.specs.Turns.{above_zero}
use Rattle.run_statements.specs.Answers.{answered-lists}
use Rattle.display_step.specs.Turns.{leave-ready, left-on, left-keeps, doing, went_on, asked-there, answered-on, jump-ready, jumped-on, jumped-keeps, enter-ready, entered_on, entered-keeps, stopped-at}
use borrow.Author.Rules.{rules}
use Rattle.display_step.proofs.step.Goals as goal

-- the places: a statement is done, and before it the end of the text not reached; what it asks for, and where it enters
pub asked-requires : goal.asked-requires
asked-requires c =
    record { group_bound = asked-there c.requires.running c.if-at-here.false _ _ c.act.ensures _ _ _ _ _ c.in-Table.is; has_list = c.requires.has_list }

pub enter-requires : goal.enter-requires
enter-requires c =
    enter-ready c.requires.running c.if-at-here.false _ _ c.act.ensures _ _ _ c.in-Enter.is

-- the list stays where it was, and the table too
pub returns-then-live-eq0 : goal.returns-then-live-eq0
returns-then-live-eq0 c = record { turns_to = record { turned = λ w. search rules }; keeps_list = λ past b. b }

pub leave-requires : goal.leave-requires
leave-requires c = search (leave-ready, above_zero)

pub returns-then-at-here : goal.returns-then-at-here
returns-then-at-here c = record { turns_to = record { turned = λ w. search (left-on, above_zero) }; keeps_list = left-keeps c.requires.running (search rules) (search (rules, above_zero)) _ _ c.leave.ensures _ }

pub act-requires : goal.act-requires
act-requires c = search doing

pub jump-requires : goal.jump-requires
jump-requires c = search jump-ready

pub returns-in-On : goal.returns-in-On
returns-in-On c = record { turns_to = record { turned = λ w. search went_on }; keeps_list = λ past b. b }

pub returns-in-Table : goal.returns-in-Table
returns-in-Table c = record { turns_to = record { turned = λ w. search answered-on }; keeps_list = answered-lists _ _ _ c.after.ensures c.asked.ensures.keeps_list }

pub returns-in-Jump : goal.returns-in-Jump
returns-in-Jump c = record { turns_to = record { turned = λ w. search jumped-on }; keeps_list = (jumped-keeps c.requires.running c.if-at-here.false _ _ c.act.ensures _ _ c.in-Jump.is _ _ c.jump.ensures _) }

pub returns-in-Enter : goal.returns-in-Enter
returns-in-Enter c = record { turns_to = record { turned = λ w. search entered_on }; keeps_list = (entered-keeps c.requires.running c.if-at-here.false _ _ c.act.ensures _ _ _ c.in-Enter.is _ _ _ _ _ _ c.enter.ensures _) }

pub returns-in-Stop : goal.returns-in-Stop
returns-in-Stop c = record { turns_to = record { turned = λ w. search stopped-at }; keeps_list = λ past b. b }
