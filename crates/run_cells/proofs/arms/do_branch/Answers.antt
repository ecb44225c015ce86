-- `do_branch` meets its contract.
use Rattle.std.proofs.Common.{arith}
use Rattle.run_statements.specs.Words.{is_zero, not-zero}
use Rattle.run_cells.specs.Cells.{own-cell, goto-own, stays_at, goes_at}
use Rattle.run_cells.proofs.arms.do_branch.Goals as goal

pub returns-then-cells-own-eq0 : goal.returns-then-cells-own-eq0
returns-then-cells-own-eq0 c =
    stays_at c.args.code.now c.args.cells.now c.args.at (own-cell c.requires.2 c.own.ensures.0) (is_zero _ (omega arith) c.if-cells-own-eq0.true)

pub returns : goal.returns
returns c =
    goes_at c.args.code.now c.args.cells.now c.args.at (own-cell c.requires.2 c.own.ensures.0) (not-zero _ (omega arith) c.if-cells-own-eq0.false)
    (goto-own c.args.code.now c.args.cells.now c.args.at c.do_goto.ensures c.requires.1.is)
