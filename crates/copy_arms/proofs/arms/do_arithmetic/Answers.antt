-- `do_arithmetic` meets its contract.
use Prim.Native.Nat.{◌+◌}
use mathlib.Core.Path.{sym, ◌∙◌}
use lib.ListN.{get_or}
use Rattle.language.specs.Text.{plus, minus}
use Rattle.run_statements.specs.Doing.{is-plus, is-minus, is-less}
use Rattle.copy_arms.proofs.Results.{computes, compares}
use Rattle.copy_arms.proofs.arms.do_arithmetic.Goals as goal

-- the operation's field
pub returns-then-operation-eq-PLUS : goal.returns-then-operation-eq-PLUS
returns-then-operation-eq-PLUS c =
    let q = computes c.args.cells.now (c.args.at + 5) (get_or c.args.area.now (c.args.place + 2) 0) c.named_by-to.ensures c.named_by-left.ensures c.named_by-right.ensures plus
    (is-plus (sym c.field-operation.ensures.0 ∙ c.if-operation-eq-PLUS.true)) c.computed.ensures c.add.ensures.value c.add.ensures.cells_after in
    record { value = q.0; cells_after = q.1 }

pub returns-then-operation-eq-MINUS : goal.returns-then-operation-eq-MINUS
returns-then-operation-eq-MINUS c =
    let q = computes c.args.cells.now (c.args.at + 5) (get_or c.args.area.now (c.args.place + 2) 0) c.named_by-to.ensures c.named_by-left.ensures c.named_by-right.ensures minus
    (is-minus (sym c.field-operation.ensures.0 ∙ c.if-operation-eq-MINUS.true)) c.computed-then-operation-eq-MINUS.ensures c.subtract.ensures.value c.subtract.ensures.cells_after in
    record { value = q.0; cells_after = q.1 }

pub returns : goal.returns
returns c =
    let q = compares c.args.cells.now (c.args.at + 5) (get_or c.args.area.now (c.args.place + 2) 0) c.named_by-to.ensures c.named_by-left.ensures c.named_by-right.ensures
    (is-less _ (λ e. c.if-operation-eq-PLUS.false (c.field-operation.ensures.0 ∙ e)) (λ e. c.if-operation-eq-MINUS.false (c.field-operation.ensures.0 ∙ e))) c.compare.ensures in
    record { value = q.0; cells_after = q.1 }
