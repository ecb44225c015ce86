-- `do_branch_formal` meets its contract.
use Rattle.std.proofs.Common.{arith, sym, ap, ◌∙◌}
use Rattle.resolved.specs.Resolved.{direct}
use Rattle.run_statements.specs.Words.{is_zero, not-zero, is-direct, is-formal}
use Rattle.run_cells.specs.Cells.{goto-own, stays_at, goes_at}
use Rattle.run_cells.proofs.arms.do_branch_formal.Goals as goal

pub returns-then-cells-cell-eq0 : goal.returns-then-cells-cell-eq0
returns-then-cells-cell-eq0 c =
    stays_at c.args.code.now c.args.cells.now c.args.at c.cell.ensures.0 (is_zero _ (omega arith) c.if-cells-cell-eq0.true)

pub returns-then-formal_of-eq0 : goal.returns-then-formal_of-eq0
returns-then-formal_of-eq0 c =
    goes_at c.args.code.now c.args.cells.now c.args.at c.cell.ensures.0 (not-zero _ (omega arith) c.if-cells-cell-eq0.false)
    (goto-own c.args.code.now c.args.cells.now c.args.at c.do_goto.ensures
    (sym (ap direct c.code_at.ensures.0) ∙ is-direct _ (sym c.formal_of.ensures.0 ∙ c.if-formal_of-eq0.true)))

pub do_goto_formal-requires : goal.do_goto_formal-requires
do_goto_formal-requires c = (
  omega arith,
  record {
    reachable = c.requires.1;
    is = sym (ap direct c.code_at.ensures.0) ∙ is-formal _ (λ e. c.if-formal_of-eq0.false (c.formal_of.ensures.0 ∙ e));
  },
)

pub returns : goal.returns
returns c =
    goes_at c.args.code.now c.args.cells.now c.args.at c.cell.ensures.0 (not-zero _ (omega arith) c.if-cells-cell-eq0.false)
    c.do_goto_formal.ensures
