use Rattle.std.proofs.Common.{◌≡◌, sym, ◌∙◌, add-one, arith, rules}
use Rattle.table_search.proofs.Signed.{number-words}
use Rattle.table_keys.proofs.Each.{each_none, each_next, each-false}
use Rattle.table_test.proofs.Rules.{numbers_at, numbers-each}
use Rattle.table_test.proofs.numbers_right.Goals as goal

pub loop-i-init : goal.loop-i-init
loop-i-init c = search (rules, each_none)

pub returns-then-not-numbers_fit : goal.returns-then-not-numbers_fit
returns-then-not-numbers_fit c =
    let t = c.args.table.now in
    let tested = number-words {a = _} {b = _} c.numbers_fit.ensures c.group_at.type_inv c.member_at.type_inv c.group_at.ensures c.member_at.ensures in
    sym (numbers-each t c.args.count c.requires
    ∙ each-false (numbers_at t) c.args.count c.loop-i.i (omega arith) (sym tested ∙ c.if-not-numbers_fit.true))

pub loop-i-preserved : goal.loop-i-preserved
loop-i-preserved c =
    let tested = number-words {a = _} {b = _} c.numbers_fit.ensures c.group_at.type_inv c.member_at.type_inv c.group_at.ensures c.member_at.ensures in
    rw (add-one c.loop-i.i) (each_next (numbers_at c.args.table.now) c.loop-i.i c.loop-i.invariant (sym tested ∙ c.if-not-numbers_fit.false))

pub returns : goal.returns
returns c =
    let t = c.args.table.now in
    let e : c.loop-i.i ≡ c.args.count = omega arith in
    sym (numbers-each t c.args.count c.requires ∙ (rw e at c.loop-i.invariant))
