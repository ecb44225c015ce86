use Rattle.table_filter.specs.Filter.{Inserted}
use Rattle.table_filter.proofs.insert_all.Given as goal

-- the pairs passed are inserted
abbrev pub invariant-loop-i : goal.invariant-loop-i
invariant-loop-i l = Inserted l.whole l.table l.classes l.class l.i l.seen l.marks
