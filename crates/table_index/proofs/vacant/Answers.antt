use Rattle.std.proofs.Common.{ℕ, ◌-◌, ◌<◌, length, sym, subst}
use Rattle.table_probes.specs.Probes.{steps, Reached, reached-home, reached-next, steps-less}
use Rattle.table_index.specs.Index.{home_of}
use Rattle.table_index.proofs.Searches.{some-slots}
use Rattle.table_index.proofs.vacant.Goals as goal

pub home-q-requires-clause-size_nonzero : goal.home-q-requires-clause-size_nonzero
home-q-requires-clause-size_nonzero c = some-slots c.args.slots.now c.requires.slots_nonzero

pub loop-q-init : goal.loop-q-init
loop-q-init c =
    let slots = c.args.slots.now in
    let e = c.home-q.ensures.value in
    subst (λ (q : ℕ). Reached (home_of (length slots) c.args.group) slots q) (sym e) (reached-home (subst (λ (q : ℕ). q < length slots) e c.home-q.ensures.upper_bound))

pub loop-q-smaller : goal.loop-q-smaller
loop-q-smaller c =
    let slots = c.args.slots.now in
    let a = home_of (length slots) c.args.group in
    subst (λ (q : ℕ). length slots - steps slots a q < length slots - steps slots a c.loop-q.q)
    (sym c.next-q.ensures) (steps-less c.loop-q.invariant c.if-slots-q-eq0.false c.requires.slots_nonzero)

pub loop-q-preserved : goal.loop-q-preserved
loop-q-preserved c =
    let slots = c.args.slots.now in
    subst (λ (q : ℕ). Reached (home_of (length slots) c.args.group) slots q) (sym c.next-q.ensures)
    (reached-next c.loop-q.invariant c.if-slots-q-eq0.false c.requires.slots_nonzero)
