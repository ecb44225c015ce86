use Rattle.std.proofs.Common.{◌≡◌, ℕ, rules, arith, sym, ap, suc, ◌∙◌, add-one}
use Rattle.laws.specs.Tables.{group_at, member_at}
use Rattle.table_keys.specs.Keys.{same_at, alike, rank_at}
use Rattle.table_keys.proofs.Keys.{alike-none, alike-hit, alike-miss, alike-within}
use Rattle.table_keys.proofs.rank.Goals as goal
use Rattle.table_keys.proofs.rank.Goals.{then-same_key, else-same_key}

pub loop-j-init : goal.loop-j-init
loop-j-init c = search (rules, alike-none)

pub overflow_add-found : goal.overflow_add-found
overflow_add-found c =
    let ws = c.args.table.now in
    omega (arith, c.loop-j.invariant, alike-within c.args.whole (group_at c.args.i ws) (member_at c.args.i ws) c.loop-j.j ws)

pub loop-j-preserved : goal.loop-j-preserved
unfolding same_at
loop-j-preserved c =
    let t = c.same_key.ensures in
    let e = c.loop-j.invariant in
    rw (add-one c.loop-j.j) (elim c.if-same_key.branch [
      | then-same_key w ↦ w.found-is ∙ add-one c.loop-j.found ∙ ap suc e ∙ sym (alike-hit _ _ _ c.loop-j.j _ (sym t ∙ w.if-same_key.true))
      | else-same_key w ↦ w.found-is ∙ e ∙ sym (alike-miss _ _ _ c.loop-j.j _ (sym t ∙ w.if-same_key.false))
    ])

pub returns-after-same_key : goal.returns-after-same_key
unfolding same_at rank_at
returns-after-same_key c =
    let ws = c.args.table.now in
    let last : c.loop-j.j ≡ c.args.i = omega arith in
    let t = c.same_key.ensures in
    let e = c.loop-j.invariant in
    let counted : c.if-same_key.found ≡ alike c.args.whole (group_at c.args.i ws) (member_at c.args.i ws) (suc c.loop-j.j) ws = elim c.if-same_key.branch [
      | then-same_key w ↦ w.found-is ∙ add-one c.loop-j.found ∙ ap suc e ∙ sym (alike-hit _ _ _ c.loop-j.j _ (sym t ∙ w.if-same_key.true))
      | else-same_key w ↦ w.found-is ∙ e ∙ sym (alike-miss _ _ _ c.loop-j.j _ (sym t ∙ w.if-same_key.false))
    ] in
    counted ∙ ap (λ (k : ℕ). alike c.args.whole (group_at c.args.i ws) (member_at c.args.i ws) (suc k) ws) last
