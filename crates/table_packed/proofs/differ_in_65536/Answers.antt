use Rattle.std.proofs.Common.{◌<◌, ◌∙◌, ap, refl, length, length-set, ℕ, arith}
use lib.ListN.{length-replicate}
use borrow.Author.Count.{below_more}
use Rattle.table_distinct.specs.Slots.{word_at, hash_of}
use Rattle.table_distinct.proofs.Numbers.{numbers-at}
use Rattle.table_distinct.proofs.Filling.{filled_none, stored-first, filled_more, held-twice}
use Rattle.table_distinct.proofs.Once.{each_once, one_twice}
use Rattle.table_packed.specs.Packed.{tag_of}
use Rattle.table_packed.proofs.Packing.{word_some, word-pair, placed-none, placed-more}
use Rattle.table_packed.proofs.differ_in_65536.Goals as goal

pub loop-i-init : goal.loop-i-init
loop-i-init c =
    record { size = length-replicate {A = ℕ} 65536 0; filled = filled_none _ _ _ 65536; placed = placed-none _ 65536; few = λ j l. absurd (omega arith) }

pub hash_at-requires-clause-i_value : goal.hash_at-requires-clause-i_value
hash_at-requires-clause-i_value c = numbers-at _ c.args.count c.loop-i.i c.requires.count_in_bounds c.requires.table_value (omega arith)

pub store-requires-clause-by_index : goal.store-requires-clause-by_index
store-requires-clause-by_index c j h = numbers-at _ c.args.count j c.requires.count_in_bounds c.requires.table_value (omega arith)

pub returns-then-not-store : goal.returns-then-not-store
returns-then-not-store c =
    one_twice c.args.table.now c.args.count c.loop-i.i (omega arith)
    (held-twice c.loop-i.invariant.filled (λ j h. numbers-at _ c.args.count j c.requires.count_in_bounds c.requires.table_value (omega arith)) c.hash_at.ensures.table_bound (c.store.ensures.holds c.if-not-store.true))

pub loop-i-preserved : goal.loop-i-preserved
loop-i-preserved c =
    let ws = c.args.table.now in
    let i = c.loop-i.i in
    let low : i < 65535 = omega arith in
    let tag = tag_of (hash_of (word_at ws i)) in
    let new = c.store.ensures.new_in c.if-not-store.false in
    record {
      size = ap length new.stored ∙ length-set c.loop-i.slots new.slot _ ∙ c.loop-i.invariant.size;
      filled = filled_more c.loop-i.invariant.filled new (word_some i low tag) (word-pair i low tag ws) c.hash_at.ensures.table_bound;
      placed = placed-more low c.loop-i.invariant.placed new;
      few = below_more _ _ c.loop-i.invariant.few (stored-first c.loop-i.invariant.filled new (λ x y z. refl) refl);
    }

pub returns : goal.returns
returns c = each_once c.args.table.now c.args.count (λ j l. c.loop-i.invariant.few j (omega arith))
