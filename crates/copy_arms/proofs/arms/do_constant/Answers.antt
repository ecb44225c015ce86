-- `do_constant` meets its contract.
use Rattle.std.proofs.Common.{◌∙◌}
use Rattle.run_statements.specs.Words.{read_back}
use Rattle.copy_arms.proofs.arms.do_constant.Goals as goal

pub returns-clause-cells_after : goal.returns-clause-cells_after
returns-clause-cells_after c =
    let z = rw (c.field-2.ensures.0, c.field.ensures.0) at (read_back c.signed.result c.signed.type_inv ∙ c.signed.ensures) in
    rw (z, c.named-cell.ensures) at c.store.ensures
