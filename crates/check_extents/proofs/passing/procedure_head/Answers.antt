-- `check_extents::passing::procedure_head` meets its contract. Assumes nothing.
use native.Mathlib.Omega.{arith}
use Rattle.check_extents.proofs.Skipping.{passed-PR}
use Rattle.check_extents.proofs.passing.procedure_head.Goals as goal

pub returns : goal.returns
returns c =
    passed-PR c.args.script.now c.args.at _ c.requires.1 (omega arith) (omega arith)
