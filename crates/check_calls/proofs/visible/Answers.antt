-- What is left of the arguments is judged as all of them.
use Rattle.std.proofs.Common.{rules, not, ap, ◌∙◌}
use Rattle.check_calls.proofs.Calls.{seeing-step, seeing-stop, seeing-end}
use Rattle.check_calls.proofs.visible.Goals as goal

pub returns-then-is_none : goal.returns-then-is_none
returns-then-is_none c =
    let missing = c.is_none.ensures ∙ ap not c.if-is_none.true in
    search (rules, seeing-stop)

pub loop-i-preserved : goal.loop-i-preserved
loop-i-preserved c =
    let there = c.is_none.ensures ∙ ap not c.if-is_none.false in
    search (rules, seeing-step)

pub returns : goal.returns
returns c = search (rules, seeing-end)
