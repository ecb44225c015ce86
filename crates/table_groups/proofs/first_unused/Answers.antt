-- No group is above every bound.
use Rattle.table_groups.proofs.Words.{place_end}
use Rattle.table_groups.proofs.first_unused.Goals as goal

pub returns : goal.returns
returns c = let w = c.groups_within in λ ps past l. place_end l w.result (w.ensures.place ps past l) (w.ensures.in_use ps past l)
