-- The name is no formal, or what its own cell holds leads on.
use Rattle.std.proofs.Common.{rules}
use Rattle.search_step.proofs.Statements.{held_found, own-found, own-there, whole-found}
use Rattle.search_step.proofs.arms.found.Goals as goal

pub returns-then-formal_of-eq0 : goal.returns-then-formal_of-eq0
returns-then-formal_of-eq0 c = (search (rules, own-found), search (rules, own-there))

pub whole-requires : goal.whole-requires
whole-requires c = search (rules, whole-found)

pub returns : goal.returns
returns c = (search (rules, held_found), search rules)
