use Rattle.std.proofs.Common.{rules, arith, sym, ◌∙◌, add-one}
use Rattle.table_search.specs.Places.{among_pairs}
use Rattle.table_search.proofs.Pairs.{hits_more, hits-same}
use Rattle.table_search.proofs.block_holds.Goals as goal
use Rattle.table_search.proofs.block_holds.Goals.{then-pair_is, else-pair_is}

pub loop-j-init : goal.loop-j-init
unfolding among_pairs
loop-j-init c = search rules

pub loop-j-preserved : goal.loop-j-preserved
loop-j-preserved c =
    let t = c.pair_is.ensures in
    elim c.if-pair_is.branch [
      | then-pair_is w ↦ (omega arith, rw add-one (hits_more _ _ _ _ _ (sym t ∙ w.if-pair_is.true) (w.hits-is ∙ add-one c.loop-j.hits)))
      | else-pair_is w ↦ (omega arith, rw add-one (hits-same _ _ _ _ _ (sym t ∙ w.if-pair_is.false) w.hits-is c.loop-j.invariant.1))
    ]
