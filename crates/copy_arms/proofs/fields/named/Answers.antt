-- `named` meets its contract.
use Rattle.copy_arms.proofs.fields.named.Goals as goal

pub cell_of-requires : goal.cell_of-requires
cell_of-requires c = rw c.field.ensures.0 c.requires.found

pub returns : goal.returns
returns c = rw c.field.ensures.0 at c.cell_of.ensures
