-- Mark by mark.
use Rattle.std.proofs.Common.{rules}
use Rattle.check_bounds.proofs.Marks.{label-zero, label-past, label-fits, formals-fit, formals-many, others-fit}
use Rattle.check_bounds.proofs.declaration.ranged.Goals as goal

pub returns-then-f1-eq0 : goal.returns-then-f1-eq0
returns-then-f1-eq0 c = search (rules, label-zero)

pub returns-then-s-f1 : goal.returns-then-s-f1
returns-then-s-f1 c = search (rules, label-past)

pub returns-then-f1-gt-MOST_NAMES : goal.returns-then-f1-gt-MOST_NAMES
returns-then-f1-gt-MOST_NAMES c = search (rules, formals-many)

pub returns-else-s-f1 : goal.returns-else-s-f1
returns-else-s-f1 c = search (rules, label-fits)

pub returns-else-f1-gt-MOST_NAMES : goal.returns-else-f1-gt-MOST_NAMES
returns-else-f1-gt-MOST_NAMES c = search (rules, formals-fit)

pub returns-in_default : goal.returns-in_default
returns-in_default c = search (rules, others-fit)
