-- `resolve_statements::arguments` meets its contract: the arguments still to come give all of them. Assumes nothing.
use borrow.Author.Rules.{rules}
use Rattle.resolve_statements.proofs.Statements.{arguing-start, arguing-step, arguing-end}
use Rattle.resolve_statements.proofs.arguments.Goals as goal

pub loop-i-preserved : goal.loop-i-preserved
loop-i-preserved c =
    arguing-step c.loop-i-test.true c.used.ensures.0 c.put.ensures c.loop-i.invariant

pub loop-i-init : goal.loop-i-init
loop-i-init c = search (rules, arguing-start)

pub returns : goal.returns
returns c = search (rules, arguing-end)
