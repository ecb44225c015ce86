-- Mark by mark.
use Rattle.std.proofs.Common.{◌∙◌, rules}
use Rattle.check_bounds.proofs.Marks.{call_fits, call-many, operation-fits, operation-none, others-pass}
use Rattle.check_bounds.proofs.statement.action.Goals as goal

pub returns-then-f1-gt-MOST_NAMES : goal.returns-then-f1-gt-MOST_NAMES
returns-then-f1-gt-MOST_NAMES c = search (rules, call-many)

pub returns-then-f1-gt-LAST_OPERATION : goal.returns-then-f1-gt-LAST_OPERATION
returns-then-f1-gt-LAST_OPERATION c = search (rules, operation-none)

pub returns-else-f1-gt-MOST_NAMES : goal.returns-else-f1-gt-MOST_NAMES
returns-else-f1-gt-MOST_NAMES c = c.pass_fields.ensures ∙ call_fits _ _ _ _ c.in-CL.is c.if-f1-gt-MOST_NAMES.false

pub returns-else-f1-gt-LAST_OPERATION : goal.returns-else-f1-gt-LAST_OPERATION
returns-else-f1-gt-LAST_OPERATION c = search (rules, operation-fits)

pub returns-in_default : goal.returns-in_default
returns-in_default c = search (rules, others-pass)
