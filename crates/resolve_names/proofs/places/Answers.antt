-- `resolve_names::places` meets its contract: the offsets put so far with those still to come are those of the records. Assumes nothing.
use Rattle.resolve_names.proofs.Starting.{starting-start, starting-step, starting-out, starting-end}
use borrow.Author.Rules.{rules}
use Rattle.resolve_names.proofs.places.Goals as goal

pub loop-i-init : goal.loop-i-init
loop-i-init c = search (rules, starting-start)

pub returns-then-starts-base : goal.returns-then-starts-base
returns-then-starts-base c = search (rules, starting-out)

pub loop-i-preserved : goal.loop-i-preserved
loop-i-preserved c = search (rules, starting-step)

pub returns : goal.returns
returns c = search (rules, starting-end)
