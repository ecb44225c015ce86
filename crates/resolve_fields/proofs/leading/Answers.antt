-- A case for each mark.
use Rattle.std.proofs.Common.{rules}
use Rattle.resolve_fields.proofs.Marks.{leading-BK, leading-QY, leading-two, leading-other}
use Rattle.resolve_fields.proofs.leading.Goals as goal

-- BK
pub returns-in-19266 : goal.returns-in-19266
returns-in-19266 c = search (rules, leading-BK)

-- QY
pub returns-in-22865 : goal.returns-in-22865
returns-in-22865 c = search (rules, leading-QY)

-- AD, RM, IF
pub returns-in-17473 : goal.returns-in-17473
returns-in-17473 c = search (rules, leading-two)

pub returns-in_default : goal.returns-in_default
returns-in_default c = search (rules, leading-other)
