-- The name called, then the arguments, then 11.
use Rattle.std.proofs.Common.{rules}
use Rattle.check_calls.proofs.Judging.{call-stops, call-hides, call-unfound, call-found}
use Rattle.check_calls.proofs.judge_call.Goals as goal

pub returns-in_err-uses : goal.returns-in_err-uses
returns-in_err-uses c = search (rules, call-stops)

pub returns-in_err-visible : goal.returns-in_err-visible
returns-in_err-visible c = search (rules, call-hides)

pub returns-in_default : goal.returns-in_default
returns-in_default c = search (rules, call-unfound)

pub returns : goal.returns
returns c =
    call-found _ _ _ _ _ c.word-name.ensures.0 c.word-count.ensures.0 _ c.uses.ensures c.in_ok-uses.was _ c.visible.ensures c.in_ok-visible.was _
    c.find.ensures.0 _ _ c.in-Some.is c.agrees.ensures
