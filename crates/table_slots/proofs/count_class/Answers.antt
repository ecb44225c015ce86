use Rattle.std.proofs.Common.{arith}
use borrow.Author.Tests.{lt-leb}
use Rattle.table_keys.specs.Keys.{within}
use Rattle.table_keys.proofs.Keys.{rank_fits}
use Rattle.table_keys.proofs.Each.{each-false}
use Rattle.table_slots.proofs.Passes.{good_start}
use Rattle.table_slots.proofs.count_class.Goals as goal

pub loop-i-init : goal.loop-i-init
loop-i-init c = record { good = good_start _ _ _; few = λ j l m. absurd (omega arith) }

pub returns-then-not-count_wanted-clause-table_value : goal.returns-then-not-count_wanted-clause-table_value
unfolding within
returns-then-not-count_wanted-clause-table_value c _ =
    each-false (rank_fits c.args.whole c.args.limit c.args.table.now) c.args.count c.loop-i.i (omega arith) (lt-leb _ _ (c.count_wanted.ensures.limit_bound c.if-not-count_wanted.true))
