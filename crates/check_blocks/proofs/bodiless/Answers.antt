use Rattle.check_blocks.proofs.MarkCases.{others-plain, bodied}
use Rattle.check_blocks.proofs.bodiless.Goals as goal

pub returns-in-PR : goal.returns-in-PR
returns-in-PR c = bodied _ c.in-PR.is

pub returns-in_default : goal.returns-in_default
returns-in_default c = others-plain _ c.in_default.not-PR
