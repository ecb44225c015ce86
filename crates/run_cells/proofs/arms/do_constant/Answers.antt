-- `do_constant` meets its contract.
use Rattle.run_cells.specs.Cells.{own-cell, constant-at}
use Rattle.run_cells.proofs.arms.do_constant.Goals as goal

pub returns : goal.returns
returns c =
    constant-at c.args.code.now c.args.cells.now c.args.at (own-cell c.requires.1 c.own.ensures.0) c.constant.ensures.0
    c.constant.ensures.1
