use Rattle.table_lefts.proofs.Lowering.{lefts-none}
use Rattle.table_lefts.proofs.exact_in.Goals as goal

pub lower_all-requires-clause-lefts_are : goal.lower_all-requires-clause-lefts_are
lower_all-requires-clause-lefts_are c = lefts-none c.args.table.now c.args.places.now c.fill.new.lefts c.fill.ensures.by_index
