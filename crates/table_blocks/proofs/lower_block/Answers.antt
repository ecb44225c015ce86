use Rattle.std.proofs.Common.{◌∙◌, refl, add-one, arith}
use Rattle.table_blocks.proofs.Blocks.{taken_none, taken_more, overdrawn-here}
use Rattle.table_blocks.proofs.lower_block.Goals as goal

pub loop-group-init : goal.loop-group-init
loop-group-init c = record { long = refl; taken = taken_none c.args.places.now c.args.block.now c.args.lefts.now }

pub returns-then-not-lower-clause-overdrawn : goal.returns-then-not-lower-clause-overdrawn
returns-then-not-lower-clause-overdrawn c =
    λ e. overdrawn-here c.args.places.now c.args.block.now c.loop-group.group-index c.from.result (omega arith) c.from.ensures c.args.lefts.now c.loop-group.lefts
    c.loop-group.invariant.taken (c.lower.ensures.exhausted c.if-not-lower.true)

pub loop-group-preserved : goal.loop-group-preserved
loop-group-preserved c =
    let j = c.loop-group.group-index in
    record {
      long = c.lower.auto.lefts ∙ c.loop-group.invariant.long;
      taken = rw (add-one j)
          (taken_more c.args.places.now c.args.block.now j c.from.result (omega arith) c.from.ensures c.args.lefts.now c.loop-group.lefts
          c.loop-group.invariant.taken c.lower.new.lefts (c.lower.ensures.lowered c.if-not-lower.false));
    }
