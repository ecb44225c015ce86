-- `named_by` meets its contract.
use Rattle.copy_arms.proofs.fields.named_by.Goals as goal

pub returns : goal.returns
returns c = rw c.field.ensures.0 at c.cell_by.ensures
