use Rattle.table_lefts.proofs.Lowering.{lefts-none}
use Rattle.table_windows.proofs.exact_part.Goals as goal

pub lower_window-requires-clause-lefts_are : goal.lower_window-requires-clause-lefts_are
lower_window-requires-clause-lefts_are c = lefts-none c.args.table.now c.args.places.now c.fill.new.lefts c.fill.ensures.by_index
