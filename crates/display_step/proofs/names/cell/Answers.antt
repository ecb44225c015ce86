-- A name that is no formal lies in its own cell; any other where what it holds leads.
use Rattle.std.proofs.Common.{rules}
use Rattle.display_step.proofs.Statements.{own-found, through, held_found}
use Rattle.display_step.proofs.names.cell.Goals as goal

pub returns-then-formal_of-eq0 : goal.returns-then-formal_of-eq0
returns-then-formal_of-eq0 c = search (rules, own-found)

pub held-requires : goal.held-requires
held-requires c = search (rules, through)

pub returns : goal.returns
returns c = search (rules, held_found)
