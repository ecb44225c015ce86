-- The records of a block are judged one after the other, with its names put in their chains.
use Rattle.std.proofs.Common.{rules, arith}
use Rattle.check_scope.proofs.Statements.{procedure-judged, block-as-judged, variable-judged, label-judged, action-judged}
use Rattle.check_scope.proofs.Walking.{walking-step, walking-stop, walking-out, walking-end}
use Rattle.check_scope.proofs.Blocks.{no_block, no_room_lem, names-chained, records-fall, records-near, block_walked}
use Rattle.check_scope.proofs.walk.+block_item_items.Goals as goal

pub block-returns-then-word-ne-BK-clause-judged : goal.block-returns-then-word-ne-BK-clause-judged
block-returns-then-word-ne-BK-clause-judged t c = search (rules, no_block)

pub block-returns-then-top-count-clause-judged : goal.block-returns-then-top-count-clause-judged
block-returns-then-top-count-clause-judged t c = search (rules, no_room_lem)

pub block-insert-requires : goal.block-insert-requires
block-insert-requires t c = (
  names-chained _ _ _ _ _ _ _ _ _ _ c.push-2.ensures c.push.ensures c.if-top-count.false c.push.auto.entries c.push-2.auto.entries
      c.requires.0.chained,
  search rules,
  search rules,
  search rules,
)

pub block-items-judged-requires : goal.block-items-judged-requires
block-items-judged-requires t c =
    let marked = c.if-word-ne-BK.false in
    let near = records-near _ _ _ c.word.ensures.0 marked 131076 (omega arith) in
    let d = c.word-d.ensures.1 in
    let s = c.word-s.ensures.1 in (
      records-fall _ _ _ c.word.ensures.0 marked _ c.decreases,
      (
        record { short = c.requires.0.short; room = omega arith; chained = c.insert.ensures.chained; noted = c.push-2.ensures.noted },
        near,
        omega arith,
      ),
    )

pub block-returns-clause-judged : goal.block-returns-clause-judged
block-returns-clause-judged t c =
    let e = c.items-judged.ensures in
    let w = block_walked _ _ _ _ _ _ _ _ _ _ c.push-2.ensures c.push.ensures c.if-top-count.false _ c.insert.ensures _ _ _ _ _
    c.word-d.ensures.0 c.word-s.ensures.0 (e.judged, (e.ahead, e.kept)) c.remove.ensures in
    w.0

pub block-returns-clause-ahead : goal.block-returns-clause-ahead
block-returns-clause-ahead t c =
    let e = c.items-judged.ensures in
    let w = block_walked _ _ _ _ _ _ _ _ _ _ c.push-2.ensures c.push.ensures c.if-top-count.false _ c.insert.ensures _ _ _ _ _
    c.word-d.ensures.0 c.word-s.ensures.0 (e.judged, (e.ahead, e.kept)) c.remove.ensures in
    w.1.0

pub block-returns-clause-kept : goal.block-returns-clause-kept
block-returns-clause-kept t c =
    let e = c.items-judged.ensures in
    let w = block_walked _ _ _ _ _ _ _ _ _ _ c.push-2.ensures c.push.ensures c.if-top-count.false _ c.insert.ensures _ _ _ _ _
    c.word-d.ensures.0 c.word-s.ensures.0 (e.judged, (e.ahead, e.kept)) c.remove.ensures in
    w.1.1

pub item-returns-then-mark-eq-PR-clause-judged : goal.item-returns-then-mark-eq-PR-clause-judged
item-returns-then-mark-eq-PR-clause-judged t c = search (rules, procedure-judged)

pub item-returns-then-mark-eq-BK-clause-judged : goal.item-returns-then-mark-eq-BK-clause-judged
item-returns-then-mark-eq-BK-clause-judged t c = search (rules, block-as-judged)

pub item-returns-then-mark-eq-VR-clause-judged : goal.item-returns-then-mark-eq-VR-clause-judged
item-returns-then-mark-eq-VR-clause-judged t c = search (rules, variable-judged)

pub item-returns-then-mark-eq-LB-clause-judged : goal.item-returns-then-mark-eq-LB-clause-judged
item-returns-then-mark-eq-LB-clause-judged t c = search (rules, label-judged)

pub item-returns-clause-judged : goal.item-returns-clause-judged
item-returns-clause-judged t c = search (rules, action-judged)

pub items-returns-then-script-here-clause-judged : goal.items-returns-then-script-here-clause-judged
items-returns-then-script-here-clause-judged t c = search (rules, walking-out)

pub items-returns-in_err-here-clause-judged : goal.items-returns-in_err-here-clause-judged
items-returns-in_err-here-clause-judged t c =
    walking-stop c.loop.invariant c.item.result (omega arith) c.item.ensures.judged _ _ c.in_err-here.was (search rules)

pub items-loop-preserved : goal.items-loop-preserved
items-loop-preserved t c =
    walking-step c.loop.invariant c.item.result (omega arith) c.item.ensures.judged _ c.in_ok-here.was c.item.ensures.ahead (search rules)
    c.item.ensures.kept

pub items-returns-clause-judged : goal.items-returns-clause-judged
items-returns-clause-judged t c = search (rules, walking-end)
