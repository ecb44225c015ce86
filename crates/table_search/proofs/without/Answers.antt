use Rattle.std.proofs.Common.{◌≡◌, ◌+◌, ◌*◌, rules, arith, sym, ◌∙◌}
use Rattle.laws.specs.Tables.{find-zero}
use Rattle.table_search.proofs.Pairs.{still-none}
use Rattle.table_search.proofs.without.Goals as goal

pub loop-block-init : goal.loop-block-init
loop-block-init c = search (rules, find-zero)

pub loop-block-preserved : goal.loop-block-preserved
loop-block-preserved c =
    let one_more : 32 * (c.loop-block.block + 1) ≡ 32 * c.loop-block.block + 32 = omega arith in
    rw one_more (still-none _ _ _ 32 _ (omega arith) c.loop-block.invariant (sym c.block_holds.ensures ∙ c.if-block_holds.false))
