use Rattle.std.proofs.Common.{◌∙◌, sym, length, add-one, arith}
use Rattle.table_probes.specs.Ring.{next-on, next-round}
use Rattle.table_probes.specs.Probes.{passed-home, passed_on}
use Rattle.table_distinct.proofs.store.Goals as goal

pub loop-q-init : goal.loop-q-init
loop-q-init c = passed-home c.requires.home_in_bounds

pub loop-q-smaller-then-q-slots : goal.loop-q-smaller-then-q-slots
loop-q-smaller-then-q-slots c =
    (passed_on c.loop-q.invariant c.loop-q-test.true c.if-slots-q.false c.requires.slots_nonzero (next-round (length c.args.slots.now) c.loop-q.q (omega arith))).1

pub loop-q-preserved-then-q-slots : goal.loop-q-preserved-then-q-slots
loop-q-preserved-then-q-slots c =
    (passed_on c.loop-q.invariant c.loop-q-test.true c.if-slots-q.false c.requires.slots_nonzero (next-round (length c.args.slots.now) c.loop-q.q (omega arith))).0

pub loop-q-smaller : goal.loop-q-smaller
loop-q-smaller c =
    let on = next-on (length c.args.slots.now) c.loop-q.q (omega (arith, c.loop-q.invariant.reached.within)) in
    (passed_on c.loop-q.invariant c.loop-q-test.true c.if-slots-q.false c.requires.slots_nonzero (on ∙ sym (add-one c.loop-q.q))).1

pub loop-q-preserved : goal.loop-q-preserved
loop-q-preserved c =
    let on = next-on (length c.args.slots.now) c.loop-q.q (omega (arith, c.loop-q.invariant.reached.within)) in
    (passed_on c.loop-q.invariant c.loop-q-test.true c.if-slots-q.false c.requires.slots_nonzero (on ∙ sym (add-one c.loop-q.q))).0
