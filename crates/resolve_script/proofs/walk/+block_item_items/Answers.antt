-- The words of a block are written record by record, with its names put in their chains.
use Rattle.std.proofs.Common.{rules, arith}
use Rattle.check_scope.proofs.Blocks.{records-fall, records-near}
use Rattle.resolve_script.proofs.Items.{walking-step, walking-out, walking-end}
use Rattle.resolve_script.proofs.Records.{procedure-written, block-as-written}
use Rattle.resolve_script.proofs.Blocks.{no_block, no_room_lem, enterable, walkable, block_walked}
use Rattle.resolve_script.proofs.walk.+block_item_items.Goals as goal

pub block-returns-then-word-ne-BK-clause-written : goal.block-returns-then-word-ne-BK-clause-written
block-returns-then-word-ne-BK-clause-written t c = search (rules, no_block)

pub block-returns-then-top-count-clause-written : goal.block-returns-then-top-count-clause-written
block-returns-then-top-count-clause-written t c = search (rules, no_room_lem)

pub block-enter-first-requires : goal.block-enter-first-requires
block-enter-first-requires t c =
    enterable _ _ _ _ _ _ _ _ _ _ c.requires c.word-d.ensures c.word-s.ensures c.if-top-count.false

pub block-items-end-requires : goal.block-items-end-requires
block-items-end-requires t c =
    let marked = c.if-word-ne-BK.false in (
      records-fall _ _ _ c.word.ensures.0 marked _ c.decreases,
      walkable _ _ _ _ _ _ _ _ _ _ _ _ _ _ _ _ _ c.requires c.enter-first.ensures c.enter-first.auto.starts
          c.word-d.ensures c.word-s.ensures (records-near _ _ _ c.word.ensures.0 marked 400000 (omega arith)),
    )

pub block-returns-clause-written : goal.block-returns-clause-written
block-returns-clause-written t c =
    let e = c.items-end.ensures in
    let w = block_walked _ _ _ _ _ _ _ _ _ _ _ _ _ c.enter-first.ensures c.if-top-count.false _ _ _ _ _ _ _ _ c.word-d.ensures.0 c.word-s.ensures.0
    (e.written, (e.onward, e.kept)) c.bounds_word.ensures c.put.ensures c.remove.ensures in
    w.0

pub block-returns-clause-kept : goal.block-returns-clause-kept
block-returns-clause-kept t c =
    let e = c.items-end.ensures in
    let w = block_walked _ _ _ _ _ _ _ _ _ _ _ _ _ c.enter-first.ensures c.if-top-count.false _ _ _ _ _ _ _ _ c.word-d.ensures.0 c.word-s.ensures.0
    (e.written, (e.onward, e.kept)) c.bounds_word.ensures c.put.ensures c.remove.ensures in
    w.1.1

pub item-returns-in-21072-clause-written : goal.item-returns-in-21072-clause-written
item-returns-in-21072-clause-written t c = search (rules, procedure-written)

pub item-returns-in-19266-clause-written : goal.item-returns-in-19266-clause-written
item-returns-in-19266-clause-written t c = search (rules, block-as-written)

pub item-returns-in_default-clause-written : goal.item-returns-in_default-clause-written
item-returns-in_default-clause-written t c = c.leaf.ensures.written _ _

pub items-returns-then-script-here-clause-written : goal.items-returns-then-script-here-clause-written
items-returns-then-script-here-clause-written t c = search (rules, walking-out)

pub items-loop-preserved : goal.items-loop-preserved
items-loop-preserved t c = search (rules, walking-step)

pub items-returns-clause-written : goal.items-returns-clause-written
items-returns-clause-written t c = search (rules, walking-end)
