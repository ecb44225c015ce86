use Rattle.std.proofs.Common.{arith, sym}
use Rattle.table_places.proofs.Zeros.{zero-none, others-more, others_same}
use Rattle.table_places.proofs.block_zero.Goals as goal
use Rattle.table_places.proofs.block_zero.Goals.{then-word-ne0, else-word-ne0}

pub loop-word-init : goal.loop-word-init
loop-word-init c = record { few = omega arith; so_far = sym zero-none }

pub loop-word-preserved : goal.loop-word-preserved
loop-word-preserved c =
    elim c.if-word-ne0.branch [
      | then-word-ne0 w ↦ record {
        few = omega (arith, w.others-is);
        so_far = others-more _ c.args.block.now (omega arith) (omega arith) c.loop-word.others _ w.if-word-ne0.true w.others-is;
      }
      | else-word-ne0 w ↦ record {
        few = omega (arith, w.others-is);
        so_far = others_same _ c.args.block.now (omega arith) (omega arith) c.loop-word.others _ w.if-word-ne0.false w.others-is c.loop-word.invariant.so_far;
      }
    ]
