-- `resolve_script::walk::kinds` meets its contract: the formals still to come give all of them. Assumes nothing.
use Rattle.resolve_script.proofs.Listing.{kinding-start, kinding-step, kinding-end}
use borrow.Author.Rules.{rules}
use Rattle.resolve_script.proofs.walk.kinds.Goals as goal

pub loop-i-preserved : goal.loop-i-preserved
loop-i-preserved c =
    kinding-step c.loop-i.invariant c.loop-i-test.true c.word.ensures c.put.ensures c.put.auto.code

pub loop-i-init : goal.loop-i-init
loop-i-init c = search (rules, kinding-start)

pub returns : goal.returns
returns c = search (rules, kinding-end)
