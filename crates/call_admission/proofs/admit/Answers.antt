use Rattle.std.proofs.Common.{rules, ◌∙◌}
use Rattle.language.specs.Call.{limits_fit, sheet_fits, records_fit, tests_before}
use Rattle.call_admission.proofs.Due.{turned-away, passed}
use Rattle.call_admission.proofs.admit.Goals as goal

pub returns-in_err-before_check : goal.returns-in_err-before_check
unfolding tests_before limits_fit sheet_fits records_fit
returns-in_err-before_check c = λ links. turned-away _ _ _ c.before_check.ensures _ _ c.in_err-before_check.was (search rules)

pub returns : goal.returns
unfolding tests_before limits_fit sheet_fits records_fit
returns c = λ links. c.check_and_after.ensures ∙ passed _ _ _ c.before_check.ensures c.in_ok-before_check.was
