-- `check_extents::passing::block_head` meets its contract. Assumes nothing.
use native.Mathlib.Omega.{arith}
use Rattle.check_extents.proofs.Skipping.{passed-BK}
use Rattle.check_extents.proofs.passing.block_head.Goals as goal

pub returns : goal.returns
returns c =
    passed-BK c.args.script.now c.args.at _ c.requires.1 (omega arith) (omega arith)
