use Rattle.std.proofs.Common.{refl, sym, ap}
use Rattle.table_pairs.specs.Outcomes.{table_of, value_of}
use Rattle.table_pairs.proofs.Statements.{fits_read, held-read, queried-below, queried-told}
use Rattle.table_pairs.proofs.query_pair.Goals as goal

pub returns-then-not-numbers_fit : goal.returns-then-not-numbers_fit
unfolding value_of
returns-then-not-numbers_fit c =
    sym (ap value_of (queried-below _ _ (table_of c.args.table.now c.args.count) (fits_read c.ranges.group c.ranges.member c.numbers_fit.ensures c.if-not-numbers_fit.true)))

pub returns : goal.returns
unfolding value_of
returns c =
    let fit = fits_read c.ranges.group c.ranges.member c.numbers_fit.ensures c.if-not-numbers_fit.false in
    let there = held-read c.ranges.group c.ranges.member c.args.count c.args.table.now c.present.ensures refl in
    rw c.from.ensures (sym (ap value_of (queried-told _ _ (table_of c.args.table.now c.args.count) c.present.result fit there)))
