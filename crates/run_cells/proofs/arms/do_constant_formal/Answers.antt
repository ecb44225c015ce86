-- `do_constant_formal` meets its contract.
use Rattle.run_cells.specs.Cells.{constant-at}
use Rattle.run_cells.proofs.arms.do_constant_formal.Goals as goal

pub returns : goal.returns
returns c =
    constant-at c.args.code.now c.args.cells.now c.args.at c.cell.ensures.0 c.constant.ensures.0 c.constant.ensures.1
