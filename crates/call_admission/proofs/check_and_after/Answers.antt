use Rattle.std.proofs.Common.{rules, sym, ◌∙◌}
use Rattle.call_admission.proofs.Due.{refused-check-stands, fit_length, small, short-after, held_after}
use Rattle.call_admission.proofs.check_and_after.Goals as goal

pub returns-in_err-check_script : goal.returns-in_err-check_script
returns-in_err-check_script c = refused-check-stands _ _ _ _ c.check_script.ensures _ _ c.in_err-check_script.was (search rules)

pub overflow_mul-d : goal.overflow_mul-d
overflow_mul-d c = small c.args.d _ c.ranges.d (fit_length _ _ c.check_script.ensures c.in_ok-check_script.was)

pub returns-then-not-holds_at_least : goal.returns-then-not-holds_at_least
returns-then-not-holds_at_least c =
    short-after _ _ _ _ c.check_script.ensures c.in_ok-check_script.was (sym c.holds_at_least.ensures ∙ c.if-not-holds_at_least.true)

pub returns : goal.returns
returns c = held_after _ _ _ _ c.check_script.ensures c.in_ok-check_script.was (sym c.holds_at_least.ensures ∙ c.if-not-holds_at_least.false)
