-- Between two records, what is written and what is still to come make up the whole.
use Rattle.std.proofs.Common.{rules, arith}
use Rattle.grammar.specs.Words.{bytes-are}
use Rattle.resolve_fields.proofs.Sweeping.{accepted-short, swept-start, swept_step, swept-end}
use Rattle.resolve_fields.proofs.write_words.Goals as goal

pub returns-then-script-gt8192-clause-written : goal.returns-then-script-gt8192-clause-written
returns-then-script-gt8192-clause-written g c t name e h =
    let a = c.args in
    absurd (omega (arith, c.if-script-gt8192.true, accepted-short a.script.now (bytes-are a.script.now (λ i. (c.type_inv.script i).fits)) t e))

pub loop-at-init : goal.loop-at-init
loop-at-init g c =
    let a = c.args in
    (omega arith, search rules, swept-start _ _ _ _ _ (bytes-are a.script.now (λ i. (c.type_inv.script i).fits)) c.requires.zeros c.requires.known)

pub loop-at-preserved : goal.loop-at-preserved
loop-at-preserved g c = search (rules, swept_step)

pub returns-clause-written : goal.returns-clause-written
returns-clause-written g c = swept-end _ _ _ _ _ _ c.loop-at-test.false c.loop-at.invariant.2
