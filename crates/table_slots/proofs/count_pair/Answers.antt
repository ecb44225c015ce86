use Rattle.std.proofs.Common.{◌≡◌, ap, ◌∙◌, arith}
use borrow.Author.Tests.{leb-true}
use Rattle.table_hash.specs.Hashes.{bucket}
use Rattle.table_keys.proofs.Ranks.{rank-counted}
use Rattle.table_slots.specs.Slots.{slot_at}
use Rattle.table_slots.proofs.Passes.{good_new, good-held, good-full, held-count, empty-count}
use Rattle.table_slots.proofs.count_pair.Goals as goal

pub returns-then-limit-number_in-clause-too_many : goal.returns-then-limit-number_in-clause-too_many
returns-then-limit-number_in-clause-too_many c _ mine keyed m g =
    let home : c.bucket_of.result ≡ slot_at c.args.whole c.args.table.now c.args.i = c.bucket_of.ensures.value ∙ ap (bucket 27904) c.requires.h_value in
    omega (arith, rank-counted c.args.whole c.args.table.now c.args.i, held-count keyed g m (rw home at c.in-Held.ensures), c.number_in.ensures, c.if-limit-number_in.true)

pub returns-in-Empty-clause-counted : goal.returns-in-Empty-clause-counted
returns-in-Empty-clause-counted c _ mine keyed m g =
    let home : c.bucket_of.result ≡ slot_at c.args.whole c.args.table.now c.args.i = c.bucket_of.ensures.value ∙ ap (bucket 27904) c.requires.h_value in
    let there = rw home at c.in-Empty.ensures in
    (good_new keyed g c.requires.i_bound m there, omega (arith, rank-counted c.args.whole c.args.table.now c.args.i, empty-count keyed g m there))

pub returns-else-limit-number_in-clause-counted : goal.returns-else-limit-number_in-clause-counted
returns-else-limit-number_in-clause-counted c _ mine keyed m g =
    let home : c.bucket_of.result ≡ slot_at c.args.whole c.args.table.now c.args.i = c.bucket_of.ensures.value ∙ ap (bucket 27904) c.requires.h_value in
    let there = rw home at c.in-Held.ensures in (
      good-held keyed g m there,
      omega (arith, rank-counted c.args.whole c.args.table.now c.args.i, held-count keyed g m there, c.number_in.ensures, c.if-limit-number_in.false),
    )

pub returns-in-Full-clause-counted : goal.returns-in-Full-clause-counted
returns-in-Full-clause-counted c e mine keyed m g =
    let home : c.bucket_of.result ≡ slot_at c.args.whole c.args.table.now c.args.i = c.bucket_of.ensures.value ∙ ap (bucket 27904) c.requires.h_value in
    (good-full keyed g (rw home at c.in-Full.ensures), omega (arith, leb-true c.rank.result c.args.limit e, c.rank.ensures))
