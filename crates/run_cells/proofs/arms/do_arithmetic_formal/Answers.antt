-- `do_arithmetic_formal` meets its contract.
use mathlib.Core.Path.{sym, ◌∙◌}
use Rattle.language.specs.Text.{plus, minus}
use Rattle.run_statements.specs.Doing.{is-plus, is-minus, is-less}
use Rattle.run_cells.specs.Cells.{arithmetic-at, compare-at}
use Rattle.run_cells.proofs.arms.do_arithmetic_formal.Goals as goal

pub returns-then-operation-eq-PLUS : goal.returns-then-operation-eq-PLUS
returns-then-operation-eq-PLUS c =
    rw (is-plus (sym c.code_at-operation.ensures.0 ∙ c.if-operation-eq-PLUS.true))
    (arithmetic-at c.args.code.now c.args.cells.now c.args.at c.cell-target.ensures.0 c.cell-left.ensures.0
    c.cell-right.ensures.0 plus c.computed.ensures c.add.ensures.value c.add.ensures.cells_after)

pub returns-then-operation-eq-MINUS : goal.returns-then-operation-eq-MINUS
returns-then-operation-eq-MINUS c =
    rw (is-minus (sym c.code_at-operation.ensures.0 ∙ c.if-operation-eq-MINUS.true))
    (arithmetic-at c.args.code.now c.args.cells.now c.args.at c.cell-target.ensures.0 c.cell-left.ensures.0
    c.cell-right.ensures.0 minus c.computed-then-operation-eq-MINUS.ensures c.subtract.ensures.value c.subtract.ensures.cells_after)

pub returns : goal.returns
returns c =
    rw (is-less _ (λ e. c.if-operation-eq-PLUS.false (c.code_at-operation.ensures.0 ∙ e)) (λ e. c.if-operation-eq-MINUS.false (c.code_at-operation.ensures.0 ∙ e)))
    (compare-at c.args.code.now c.args.cells.now c.args.at c.cell-target.ensures.0 c.cell-left.ensures.0
    c.cell-right.ensures.0 c.compare.ensures)
