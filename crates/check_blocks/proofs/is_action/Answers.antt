use Rattle.check_blocks.proofs.MarkCases.{others-act, blocked}
use Rattle.check_blocks.proofs.is_action.Goals as goal

pub returns-in-BK : goal.returns-in-BK
returns-in-BK c = blocked _ c.in-BK.is

pub returns-in_default : goal.returns-in_default
returns-in_default c = others-act _ c.in_default.not-BK
