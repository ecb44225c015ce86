use Rattle.std.proofs.Common.{◌≡◌, ◌+◌, ◌*◌, ◌-◌, ◌/◌, ◌%◌, arith, sym, ap, ◌∙◌}
use Rattle.std.proofs.Math.Facts.{to_z-of_z}
use Rattle.std.specs.Option.{is_some as some}
use Rattle.language.specs.Table.{is_some}
use Rattle.table_search.proofs.Pairs.{found-there, found_before, find-clamped}
use Rattle.table_search.proofs.Placed.{placed-is_some}
use Rattle.table_search.proofs.present.Goals as goal

pub loop-block-init : goal.loop-block-init
loop-block-init c =
    let n = c.pairs_in-n.result in
    let all : n % 32 + 32 * (n / 32) ≡ n = omega arith in
    rw (all, c.pairs_in-n.ensures) (ap is_some (find-clamped _ _ c.args.count c.args.table.now))

pub returns-then-block_holds : goal.returns-then-block_holds
returns-then-block_holds c =
    let rest = c.pairs_in-n.result % 32 in
    let b = c.loop-block.block in
    let this : rest + 32 * (b - 1) + 32 ≡ rest + 32 * b = omega arith in
    let hit = rw this at (found-there _ _ (rest + 32 * (b - 1)) 32 _ (omega arith) (sym c.block_holds.ensures ∙ c.if-block_holds.true)) in
    rw (to_z-of_z c.ranges.group, to_z-of_z c.ranges.member) at (sym hit ∙ c.loop-block.invariant)

pub loop-block-preserved : goal.loop-block-preserved
loop-block-preserved c =
    let rest = c.pairs_in-n.result % 32 in
    let b = c.loop-block.block in
    let this : rest + 32 * (b - 1) + 32 ≡ rest + 32 * b = omega arith in
    sym (rw this at (found_before _ _ (rest + 32 * (b - 1)) 32 _ (omega arith) (sym c.block_holds.ensures ∙ c.if-block_holds.false))) ∙ c.loop-block.invariant

pub returns : goal.returns
returns c =
    let rest = c.pairs_in-n.result % 32 in
    let none_left : rest + 32 * c.loop-block.block ≡ rest = omega arith in
    let found = rw none_left at c.loop-block.invariant in
    rw (to_z-of_z c.ranges.group, to_z-of_z c.ranges.member) at (c.is_some.ensures ∙ ap some c.place_of.ensures ∙ placed-is_some _ ∙ found)
