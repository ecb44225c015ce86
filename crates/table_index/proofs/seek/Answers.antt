use Rattle.std.proofs.Common.{◌≡◌, ℕ, ◌-◌, ◌<◌, length, get_or, sym, ◌∙◌, ap, subst}
use Rattle.table_probes.specs.Probes.{Used, steps, Passed, passed-home, passed-next, steps-less}
use Rattle.table_index.specs.Index.{home_of, key_in}
use Rattle.table_index.proofs.Searches.{free, sought-none, sought-there}
use Rattle.table_index.proofs.seek.Goals as goal
use Rattle.table_index.proofs.seek.Goals.{After-next-q}

pub loop-group-init : goal.loop-group-init
loop-group-init c =
    let slots = c.args.slots.now in
    let e = c.home-q.ensures.value in
    subst (λ (q : ℕ). Passed (key_in c.args.places.now) c.args.group (home_of (length slots) c.args.group) slots q) (sym e)
    (passed-home (subst (λ (q : ℕ). q < length slots) e c.home-q.ensures.upper_bound))

pub returns-then-number-eq0 : goal.returns-then-number-eq0
returns-then-number-eq0 c = sought-none c.requires.indexed c.args.group c.loop-group.invariant (sym c.from-number.ensures ∙ c.if-number-eq0.true)

pub returns-then-natural_at-group : goal.returns-then-natural_at-group
returns-then-natural_at-group c =
    sought-there c.requires.indexed c.args.group c.loop-group.invariant (sym c.from-number.ensures) c.if-number-eq0.false (sym c.natural_at.ensures.value ∙ c.if-natural_at-group.true)

used : (c : After-next-q) → Used c.args.slots.now c.loop-group.q
used c z = c.if-number-eq0.false (c.from-number.ensures ∙ z)

-- another group than the one sought
other : (c : After-next-q) → key_in c.args.places.now (get_or c.args.slots.now c.loop-group.q 0) ≡ c.args.group → ⊥
other c z = c.if-natural_at-group.false (c.natural_at.ensures.value ∙ ap (key_in c.args.places.now) c.from-number.ensures ∙ z)

pub loop-group-smaller : goal.loop-group-smaller
loop-group-smaller c =
    let slots = c.args.slots.now in
    let a = home_of (length slots) c.args.group in
    subst (λ (q : ℕ). length slots - steps slots a q < length slots - steps slots a c.loop-group.q)
    (sym c.next-q.ensures) (steps-less c.loop-group.invariant.reached (used c) (free c.requires.indexed))

pub loop-group-preserved : goal.loop-group-preserved
loop-group-preserved c =
    let slots = c.args.slots.now in
    subst (λ (q : ℕ). Passed (key_in c.args.places.now) c.args.group (home_of (length slots) c.args.group) slots q) (sym c.next-q.ensures)
    (passed-next c.loop-group.invariant (used c) (other c) (free c.requires.indexed))
