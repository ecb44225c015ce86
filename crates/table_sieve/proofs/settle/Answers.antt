use Rattle.std.proofs.Common.{◌≡◌, ◌+◌, ◌∙◌, sym, ap, subst, refl, length, length-set, ℕ, arith}
use lib.ListN.{length-replicate}
use mathlib.Core.Logic.{⊎_elim}
use borrow.Author.Count.{below_more}
use Rattle.laws.specs.Tests.{never}
use Rattle.table_distinct.specs.Slots.{word_at, slot_of, home_of, whole, Stored, Holds, Filled}
use Rattle.table_distinct.proofs.Numbers.{numbers-at}
use Rattle.table_distinct.proofs.Words.{not-empty}
use Rattle.table_distinct.proofs.Filling.{filled_none, filled-skip, filled_more, stored-first, held-twice}
use Rattle.table_distinct.proofs.Once.{each_once, one_twice}
use Rattle.table_sieve.specs.Sieve.{marked}
use Rattle.table_sieve.proofs.Sieving.{marked-is, marked-same}
use Rattle.table_sieve.proofs.settle.Goals.{then-is_marked+else-kept-eq28000+else-not-store, else-is_marked}
use Rattle.table_sieve.proofs.settle.Goals as goal

pub loop-i-init : goal.loop-i-init
loop-i-init c = record { room = omega arith; size = length-replicate {A = ℕ} 32768 0; filled = filled_none _ _ _ 32768; few = λ j l. absurd (omega arith) }

pub hash_at-hash-requires-clause-i_value : goal.hash_at-hash-requires-clause-i_value
hash_at-hash-requires-clause-i_value c = numbers-at _ c.args.count c.loop-i.i c.requires.count_in_bounds c.requires.table_value (omega arith)

pub word_at-requires-clause-i_value : goal.word_at-requires-clause-i_value
word_at-requires-clause-i_value c = numbers-at _ c.args.count c.loop-i.i c.requires.count_in_bounds c.requires.table_value (omega arith)

pub returns-then-not-store : goal.returns-then-not-store
returns-then-not-store c =
    let held = subst (Holds whole c.loop-i.slots) c.word_at.ensures.value (c.store.ensures.holds c.if-not-store.true) in
    one_twice c.args.table.now c.args.count c.loop-i.i (omega arith)
    (held-twice c.loop-i.invariant.filled (λ j h. numbers-at _ c.args.count j c.requires.count_in_bounds c.requires.table_value (omega arith)) c.word_at.ensures.table_bound held)

pub loop-i-preserved : goal.loop-i-preserved
loop-i-preserved c =
    let ws = c.args.table.now in
    let marks = c.args.marks.now in
    let i = c.loop-i.i in
    let slots = c.loop-i.slots in
    let key = word_at ws i in
    let tested = marked-is ws marks i c.hash_at-hash.ensures.value c.is_marked.ensures in
    let filled = c.loop-i.invariant.filled in
    elim c.if-is_marked.branch [
      | then-is_marked+else-kept-eq28000+else-not-store w ↦
          let word = w.word_at.ensures.value in
          let homed : w.home_of.result ≡ home_of (length slots) key =
          w.home_of.ensures.value ∙ ap (slot_of 32768) c.hash_at-hash.ensures.value ∙ ap (λ (n : ℕ). home_of n key) (sym c.loop-i.invariant.size) in
          let new : Stored whole key (home_of (length slots) key) key slots w.store.new.slots =
          subst (λ (T : Type 0). T) (λ k. Stored whole (word k) (homed k) (word k) slots w.store.new.slots) (w.store.ensures.stored w.if-not-store.false) in
          let right = numbers-at ws c.args.count i c.requires.count_in_bounds c.requires.table_value (omega arith) in
          let more = filled_more filled new (not-empty ws i right) refl w.word_at.ensures.table_bound in
          record {
            room = omega (arith, w.kept-is, w.if-kept-eq28000.false);
            size = ap length (w.slots-is ∙ new.stored) ∙ length-set slots new.slot key ∙ c.loop-i.invariant.size;
            filled = subst (λ (T : Type 0). T) (λ k. Filled whole ws (marked ws marks) (i + 1) (sym w.kept-is k) (sym w.slots-is k)) more;
            few = below_more _ _ c.loop-i.invariant.few (stored-first filled new (marked-same ws marks) (sym tested ∙ w.if-is_marked.true));
          }
      | else-is_marked w ↦
          let clear : marked ws marks i ≡ _ = sym tested ∙ w.if-is_marked.false in
          record {
            room = omega (arith, w.kept-is);
            size = ap length w.slots-is ∙ c.loop-i.invariant.size;
            filled = subst (λ (T : Type 0). T) (λ k. Filled whole ws (marked ws marks) (i + 1) (sym w.kept-is k) (sym w.slots-is k)) (filled-skip filled clear);
            few = below_more _ _ c.loop-i.invariant.few (⊎_elim (λ r. r) (λ t. never t clear) (c.requires.by_index i (omega arith)));
          }
    ]

pub returns : goal.returns
returns c = each_once c.args.table.now c.args.count (λ j l. c.loop-i.invariant.few j (omega arith))
