-- `next` meets its contract.
use Rattle.std.proofs.Common.{sym, ◌∙◌, add-one, arith}
use Rattle.table_probes.specs.Ring.{next-on, next-round}
use Rattle.table_index.proofs.next.Goals as goal

pub returns-then-q-size : goal.returns-then-q-size
returns-then-q-size c = add-one _ ∙ sym (next-on _ _ (omega arith))

pub returns-else-q-size : goal.returns-else-q-size
returns-else-q-size c = sym (next-round _ _ (omega arith))
