-- What is left of the arguments agrees exactly where all of them do.
use denote.Enum.Bare.{differs_true, differs_false}
use Rattle.std.proofs.Common.{rules, sym, ◌∙◌}
use Rattle.check_uses.specs.contracts.Kind.{the_type}
use Rattle.check_calls.proofs.Calls.{matching-step, matching-miss, matching-off, matching-end}
use Rattle.check_calls.proofs.matching.Goals as goal

pub returns-in_default : goal.returns-in_default
returns-in_default c = search (rules, matching-miss)

pub returns-then-ne : goal.returns-then-ne
returns-then-ne c =
    let apart = differs_true the_type _ _ (sym c.ne.ensures ∙ c.if-ne.true) in
    search (rules, matching-off)

pub loop-i-preserved : goal.loop-i-preserved
loop-i-preserved c =
    let same = differs_false the_type (search rules) _ _ (sym c.ne.ensures ∙ c.if-ne.false) in
    search (rules, matching-step)

pub returns : goal.returns
returns c = search (rules, matching-end)
