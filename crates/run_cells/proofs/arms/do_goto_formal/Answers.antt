-- `do_goto_formal` meets its contract.
use borrow.Author.Rules.{rules}
use Rattle.run_cells.specs.Cells.{goto-held}
use Rattle.run_cells.proofs.arms.do_goto_formal.Goals as goal

pub returns : goal.returns
returns c = search (rules, goto-held)
