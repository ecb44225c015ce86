use Rattle.std.proofs.Common.{◌≡◌, ℕ, ◌/◌, min, List, ℤ, length, arith, sym, ap, ◌∙◌, add-one}
use Rattle.std.proofs.Math.Facts.{to_z-of_z}
use Rattle.std.proofs.Math.Option.{Option}
use Rattle.language.specs.Table.{find}
use Rattle.table_search.specs.Places.{placed}
use Rattle.table_search.proofs.Pairs.{room, find-fresh, find-hit, find-clamped}
use Rattle.table_search.proofs.place_of.Goals as goal

-- what is found among the pairs read is found among the first `count`
answer : (g m : ℤ) (count : ℕ) (ws : List ℤ) {n : ℕ} {r : Option ℕ} → n ≡ min count (length ws / 2) → find g m n ws ≡ r → placed r ≡ placed (find g m count ws)
answer g m count ws e h = ap placed (sym h ∙ rw e (find-clamped g m count ws))

pub returns-then-pair_is : goal.returns-then-pair_is
unfolding placed
returns-then-pair_is c =
    let hit = find-hit _ _ c.pairs_in-n.result (room c.loop-i.i _ (omega arith)) c.loop-i.invariant (sym c.pair_is.ensures ∙ c.if-pair_is.true) (omega arith) in
    rw (to_z-of_z c.ranges.group, to_z-of_z c.ranges.member) at (answer _ _ c.args.count _ c.pairs_in-n.ensures hit)

pub loop-i-preserved : goal.loop-i-preserved
loop-i-preserved c =
    rw add-one (find-fresh _ _ (room c.loop-i.i _ (omega arith)) c.loop-i.invariant (sym c.pair_is.ensures ∙ c.if-pair_is.false))

pub returns : goal.returns
unfolding placed
returns c =
    let all : c.loop-i.i ≡ c.pairs_in-n.result = omega arith in
    rw (to_z-of_z c.ranges.group, to_z-of_z c.ranges.member) at (answer _ _ c.args.count _ (all ∙ c.pairs_in-n.ensures) c.loop-i.invariant)
