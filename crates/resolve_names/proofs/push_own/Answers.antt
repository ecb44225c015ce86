-- `resolve_names::push_own` meets its contract: the entries put so far. Assumes nothing.
use Rattle.resolve_names.proofs.Declarations.{owning-start, owning-step, owning-end}
use borrow.Author.Rules.{rules}
use Rattle.resolve_names.proofs.push_own.Goals as goal

pub loop-i-init : goal.loop-i-init
loop-i-init c = search (rules, owning-start)

pub loop-i-preserved : goal.loop-i-preserved
loop-i-preserved c = search (rules, owning-step)

pub returns : goal.returns
returns c = search (rules, owning-end)
