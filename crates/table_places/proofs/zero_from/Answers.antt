use Rattle.std.proofs.Common.{sym, ◌∙◌}
use Rattle.table_places.proofs.Zeros.{zero-passed, zero-broken}
use Rattle.table_places.proofs.zero_from.Goals as goal

pub returns-then-not-block_zero : goal.returns-then-not-block_zero
returns-then-not-block_zero c =
    let cut = c.in-Some.ensures.cases in
    sym (c.loop-block.invariant ∙ zero-broken 64 _ _ c.in-Some.after.now cut.0 cut.1 (sym c.block_zero.ensures ∙ c.if-not-block_zero.true))

pub loop-block-preserved : goal.loop-block-preserved
loop-block-preserved c =
    let cut = c.in-Some.ensures.cases in
    c.loop-block.invariant ∙ zero-passed 64 _ _ c.in-Some.after.now cut.0 cut.1 (sym c.block_zero.ensures ∙ c.if-not-block_zero.false)
