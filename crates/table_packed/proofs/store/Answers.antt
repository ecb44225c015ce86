use Rattle.std.proofs.Common.{◌≡◌, ◌<◌, ◌∙◌, sym, ap, subst, length, add-one, arith}
use Rattle.table_probes.specs.Ring.{next-on, next-round}
use Rattle.table_probes.specs.Room.{some-empty}
use Rattle.table_probes.specs.Probes.{Passed, passed-home, passed_on}
use Rattle.table_distinct.specs.Slots.{word_at, slot_of, home_of}
use Rattle.table_distinct.proofs.Filling.{slot-below}
use Rattle.table_packed.specs.Packed.{pair_in}
use Rattle.table_packed.proofs.store.Goals as goal

pub home_of-q-requires-clause-size_nonzero : goal.home_of-q-requires-clause-size_nonzero
home_of-q-requires-clause-size_nonzero c = omega (arith, (some-empty c.args.slots.now c.requires.slots_nonzero).within)

pub loop-q-init : goal.loop-q-init
loop-q-init c =
    let ws = c.args.table.now in
    let slots = c.args.slots.now in
    let key = word_at ws c.args.i in
    let home : c.home_of-q.result ≡ home_of (length slots) key = c.home_of-q.ensures.value ∙ ap (slot_of (length slots)) c.requires.hash_value in
    let some : 0 < length slots = omega (arith, (some-empty slots c.requires.slots_nonzero).within) in
    subst (Passed (pair_in ws) key (home_of (length slots) key) slots) (sym home) (passed-home (slot-below _ _ some))

pub loop-q-smaller-then-q-slots : goal.loop-q-smaller-then-q-slots
loop-q-smaller-then-q-slots c =
    (passed_on c.loop-q.invariant c.loop-q-test.true (c.is_pair.ensures.fact c.if-is_pair.false) c.requires.slots_nonzero (next-round (length c.args.slots.now) c.loop-q.q (omega arith))).1

pub loop-q-preserved-then-q-slots : goal.loop-q-preserved-then-q-slots
loop-q-preserved-then-q-slots c =
    (passed_on c.loop-q.invariant c.loop-q-test.true (c.is_pair.ensures.fact c.if-is_pair.false) c.requires.slots_nonzero (next-round (length c.args.slots.now) c.loop-q.q (omega arith))).0

pub loop-q-smaller : goal.loop-q-smaller
loop-q-smaller c =
    let on = next-on (length c.args.slots.now) c.loop-q.q (omega (arith, c.loop-q.invariant.reached.within)) in
    (passed_on c.loop-q.invariant c.loop-q-test.true (c.is_pair.ensures.fact c.if-is_pair.false) c.requires.slots_nonzero (on ∙ sym (add-one c.loop-q.q))).1

pub loop-q-preserved : goal.loop-q-preserved
loop-q-preserved c =
    let on = next-on (length c.args.slots.now) c.loop-q.q (omega (arith, c.loop-q.invariant.reached.within)) in
    (passed_on c.loop-q.invariant c.loop-q-test.true (c.is_pair.ensures.fact c.if-is_pair.false) c.requires.slots_nonzero (on ∙ sym (add-one c.loop-q.q))).0
