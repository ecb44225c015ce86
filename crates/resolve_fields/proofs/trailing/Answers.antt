-- A case for each mark.
use Rattle.std.proofs.Common.{◌∙◌, rules}
use Rattle.resolve_fields.proofs.Marks.{trailing-AR, trailing-CL, trailing-other}
use Rattle.resolve_fields.proofs.trailing.Goals as goal

-- AR
pub returns-in-21057 : goal.returns-in-21057
returns-in-21057 c = search (rules, trailing-AR)

-- CL
pub returns-in-19523 : goal.returns-in-19523
returns-in-19523 c = (c.word.ensures.0 ∙ trailing-CL _ _ c.in-19523.is, c.word.ensures.1)

pub returns-in_default : goal.returns-in_default
returns-in_default c = search (rules, trailing-other)
