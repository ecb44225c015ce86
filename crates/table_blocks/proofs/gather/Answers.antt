use Rattle.std.proofs.Common.{refl, ◌∙◌, add-one, length-set, arith}
use Rattle.table_blocks.proofs.Blocks.{gathered_none, gathered-more, gathered-same}
use Rattle.table_blocks.proofs.gather.Goals as goal
use Rattle.table_blocks.proofs.gather.Goals.{then-between, else-between}

pub loop-i-init : goal.loop-i-init
loop-i-init c =
    record { few = omega arith; long = refl; gathered = gathered_none c.args.table.now c.args.from c.args.first c.args.span c.args.block.now }

pub loop-i-preserved : goal.loop-i-preserved
loop-i-preserved c =
    let i = c.loop-i.i in
    let n = c.loop-i.n in
    let block = c.loop-i.block in
    let x = c.natural_at-group.result in
    let natural = c.requires.by_index i (omega arith) in
    let so_far = c.loop-i.invariant.gathered in
    let first = c.args.first in
    let span = c.args.span in
    let more = gathered-more c.args.table.now c.args.from i first span block n x so_far (omega arith) natural c.natural_at-group.ensures.value (omega arith) in
    let same = gathered-same c.args.table.now c.args.from i first span block n x so_far (omega arith) natural c.natural_at-group.ensures.value (omega arith) in
    elim c.if-between.branch [
      | then-between w ↦ record {
        few = omega (arith, w.n-is);
        long = length-set block n x ∙ c.loop-i.invariant.long;
        gathered = rw (w.n-is, add-one n, add-one i) more;
      }
      | else-between w ↦ record {
        few = omega (arith, w.n-is);
        long = length-set block n x ∙ c.loop-i.invariant.long;
        gathered = rw (w.n-is, add-one i) (same (c.between.ensures w.if-between.false));
      }
    ]
