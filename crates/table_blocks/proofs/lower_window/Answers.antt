use Rattle.std.proofs.Common.{◌-◌, take, ◌∙◌, arith}
use Rattle.table_lefts.proofs.Numbers.{group-natural}
use Rattle.table_blocks.proofs.Blocks.{first-last, lefts-block, overdrawn-wrong}
use Rattle.table_blocks.proofs.lower_window.Goals as goal

pub overflow_sub-span : goal.overflow_sub-span
overflow_sub-span c =
    omega (arith, c.natural_at-first.ensures.value, c.natural_at-last.ensures.value, first-last c.args.places.now c.requires.rising c.requires.places_nonzero)

pub gather-n-requires-clause-by_index : goal.gather-n-requires-clause-by_index
gather-n-requires-clause-by_index c j b =
    group-natural c.args.count c.args.table.now c.requires.count_in_bounds c.requires.table_value j (omega (arith, c.block_end-to.ensures.upper_bound))

pub returns-then-not-lower_block-clause-fact : goal.returns-then-not-lower_block-clause-fact
returns-then-not-lower_block-clause-fact c =
    let r = c.requires in
    let first = c.natural_at-first in
    let last = c.natural_at-last in
    λ e. overdrawn-wrong c.args.table.now c.args.places.now r.rising r.places_nonzero first.result (last.result - first.result) first.ensures.value
    (omega (arith, first.ensures.value, last.ensures.value, first-last c.args.places.now r.rising r.places_nonzero))
    c.loop-i.i c.block_end-to.result (take c.gather-n.result c.gather-n.new.block) c.loop-i.lefts c.gather-n.ensures.gathered c.loop-i.invariant.are
    c.args.count c.block_end-to.ensures.upper_bound r.count_in_bounds (c.lower_block.ensures.overdrawn c.if-not-lower_block.true)

pub loop-i-preserved : goal.loop-i-preserved
loop-i-preserved c =
    let r = c.requires in
    let first = c.natural_at-first in
    let last = c.natural_at-last in
    record {
      within = c.block_end-to.ensures.upper_bound;
      lefts_long = c.lower_block.auto.lefts ∙ c.loop-i.invariant.lefts_long;
      block_long = c.gather-n.auto.block ∙ c.loop-i.invariant.block_long;
      are = lefts-block c.args.table.now c.args.places.now r.rising r.places_nonzero first.result (last.result - first.result) first.ensures.value
          (omega (arith, first.ensures.value, last.ensures.value, first-last c.args.places.now r.rising r.places_nonzero))
          c.loop-i.i c.block_end-to.result (take c.gather-n.result c.gather-n.new.block) c.loop-i.lefts c.gather-n.ensures.gathered c.loop-i.invariant.are
          c.lower_block.new.lefts (c.lower_block.ensures.taken c.if-not-lower_block.false);
    }
