-- `do_subtract` meets its contract.
use Rattle.language.specs.Text.{minus}
use Rattle.run_cells.specs.Cells.{own-cell, arithmetic-at}
use Rattle.run_cells.proofs.arms.do_subtract.Goals as goal

pub returns : goal.returns
returns c =
    arithmetic-at c.args.code.now c.args.cells.now c.args.at (own-cell c.requires.1 c.own-target.ensures.0)
    (own-cell c.requires.2 c.own-left.ensures.0) (own-cell c.requires.3 c.own-right.ensures.0) minus c.computed.ensures
    c.subtract.ensures.value c.subtract.ensures.cells_after
