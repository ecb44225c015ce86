use Rattle.std.proofs.Common.{rules}
use Rattle.display_step.proofs.Statements.{held-read}
use Rattle.display_step.proofs.names.held.Goals as goal

pub returns : goal.returns
returns c = (search (rules, held-read), c.whole.ensures.1)
