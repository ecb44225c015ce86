-- The cells that were found are those that the names stand for.
use Rattle.run_cells.specs.Cells.{compare-at}
use Rattle.search_step.proofs.arms.do_compare_formal.Goals as goal

pub returns : goal.returns
returns c = compare-at _ _ _ c.found-target.ensures.0 c.found-left.ensures.0 c.found-right.ensures.0 c.compare.ensures
