-- `do_compare` meets its contract.
use Rattle.run_cells.specs.Cells.{own-cell, compare-at}
use Rattle.run_cells.proofs.arms.do_compare.Goals as goal

pub returns : goal.returns
returns c =
    compare-at c.args.code.now c.args.cells.now c.args.at (own-cell c.requires.1 c.own-target.ensures.0)
    (own-cell c.requires.2 c.own-left.ensures.0) (own-cell c.requires.3 c.own-right.ensures.0) c.compare.ensures
