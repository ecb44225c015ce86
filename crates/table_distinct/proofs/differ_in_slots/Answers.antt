use Rattle.std.proofs.Common.{◌≡◌, ◌∙◌, sym, ap, subst, refl, length, length-set, ℕ, arith}
use lib.ListN.{length-replicate}
use borrow.Author.Count.{below_more}
use Rattle.table_distinct.specs.Slots.{word_at, slot_of, home_of, whole, Stored, Holds}
use Rattle.table_distinct.proofs.Numbers.{numbers-at}
use Rattle.table_distinct.proofs.Words.{not-empty}
use Rattle.table_distinct.proofs.Filling.{filled_none, stored-first, filled_more, held-twice}
use Rattle.table_distinct.proofs.Once.{each_once, one_twice}
use Rattle.table_distinct.proofs.differ_in_slots.Goals as goal

pub loop-i-init : goal.loop-i-init
loop-i-init g c = record { size = length-replicate {A = ℕ} g.row.SLOTS 0; filled = filled_none _ _ _ _; few = λ j l. absurd (omega arith) }

pub hash_at-requires-clause-i_value : goal.hash_at-requires-clause-i_value
hash_at-requires-clause-i_value g c = numbers-at _ c.args.count c.loop-i.i c.requires.count_in_bounds c.requires.table_value (omega arith)

pub word_at-requires-clause-i_value : goal.word_at-requires-clause-i_value
word_at-requires-clause-i_value g c = numbers-at _ c.args.count c.loop-i.i c.requires.count_in_bounds c.requires.table_value (omega arith)

pub returns-then-not-store : goal.returns-then-not-store
returns-then-not-store g c =
    let held = subst (Holds whole c.loop-i.slots) c.word_at.ensures.value (c.store.ensures.holds c.if-not-store.true) in
    one_twice c.args.table.now c.args.count c.loop-i.i (omega arith)
    (held-twice c.loop-i.invariant.filled (λ j h. numbers-at _ c.args.count j c.requires.count_in_bounds c.requires.table_value (omega arith)) c.word_at.ensures.table_bound held)

pub loop-i-preserved : goal.loop-i-preserved
loop-i-preserved g c =
    let ws = c.args.table.now in
    let i = c.loop-i.i in
    let slots = c.loop-i.slots in
    let w = word_at ws i in
    let word = c.word_at.ensures.value in
    let homed : c.home_of-home.result ≡ home_of (length slots) w =
    c.home_of-home.ensures.value ∙ ap (slot_of g.row.SLOTS) c.hash_at.ensures.value ∙ ap (λ (n : ℕ). home_of n w) (sym c.loop-i.invariant.size) in
    let new : Stored whole w (home_of (length slots) w) w slots c.store.new.slots =
    subst (λ (T : Type 0). T) (λ k. Stored whole (word k) (homed k) (word k) slots c.store.new.slots) (c.store.ensures.stored c.if-not-store.false) in
    let right = numbers-at ws c.args.count i c.requires.count_in_bounds c.requires.table_value (omega arith) in
    record {
      size = ap length new.stored ∙ length-set slots new.slot w ∙ c.loop-i.invariant.size;
      filled = filled_more c.loop-i.invariant.filled new (not-empty ws i right) refl c.word_at.ensures.table_bound;
      few = below_more _ _ c.loop-i.invariant.few (stored-first c.loop-i.invariant.filled new (λ x y z. refl) refl);
    }

pub returns : goal.returns
returns g c = each_once c.args.table.now c.args.count (λ j l. c.loop-i.invariant.few j (omega arith))
