-- The cells that were found are those that the names stand for.
use Rattle.language.specs.Text.{plus}
use Rattle.run_cells.specs.Cells.{arithmetic-at}
use Rattle.search_step.proofs.arms.do_add_formal.Goals as goal

pub returns : goal.returns
returns c =
    arithmetic-at _ _ _ c.found-target.ensures.0 c.found-left.ensures.0 c.found-right.ensures.0 plus c.computed.ensures c.add.ensures.value c.add.ensures.cells_after
