-- The name is no formal, or what its own cell holds leads on.
use Rattle.std.proofs.Common.{rules}
use Rattle.search_step.proofs.Statements.{held-jumps, own-jumps, whole-found}
use Rattle.search_step.proofs.arms.jump_to.Goals as goal

pub whole-held-requires : goal.whole-held-requires
whole-held-requires c = search (rules, whole-found)

pub returns-then-formal_of-ne0 : goal.returns-then-formal_of-ne0
returns-then-formal_of-ne0 c = search (rules, held-jumps)

pub returns-else-formal_of-ne0 : goal.returns-else-formal_of-ne0
returns-else-formal_of-ne0 c = search (rules, own-jumps)
