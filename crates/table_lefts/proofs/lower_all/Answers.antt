use Rattle.std.proofs.Common.{ℕ, ◌∙◌, subst, add-one, arith}
use Rattle.table_lefts.specs.Lefts.{Lowered, Exhausted}
use Rattle.table_lefts.proofs.Numbers.{group-natural}
use Rattle.table_lefts.proofs.Lowering.{lefts-next, exhausted-wrong}
use Rattle.table_lefts.proofs.lower_all.Goals as goal

pub natural_at-requires-clause-natural : goal.natural_at-requires-clause-natural
natural_at-requires-clause-natural c = group-natural c.args.count c.args.table.now c.requires.count_in_bounds c.requires.table_value c.loop-i.i (omega arith)

pub returns-then-not-lower-clause-fact : goal.returns-then-not-lower-clause-fact
returns-then-not-lower-clause-fact c =
    let r = c.requires in
    let i = c.loop-i.i in
    let natural = group-natural c.args.count c.args.table.now r.count_in_bounds r.table_value i (omega arith) in
    let none = subst (λ (g : ℕ). Exhausted c.args.places.now g c.loop-i.lefts) c.natural_at.ensures.value (c.lower.ensures.exhausted c.if-not-lower.true) in
    λ e. exhausted-wrong c.args.table.now c.args.places.now r.rising i (omega arith) natural c.loop-i.lefts c.args.count (omega arith) r.count_in_bounds none c.loop-i.invariant.are

pub loop-i-preserved : goal.loop-i-preserved
loop-i-preserved c =
    let r = c.requires in
    let i = c.loop-i.i in
    let natural = group-natural c.args.count c.args.table.now r.count_in_bounds r.table_value i (omega arith) in
    let after = c.lower.new.lefts in
    let lowered = subst (λ (g : ℕ). Lowered c.args.places.now g c.loop-i.lefts after) c.natural_at.ensures.value (c.lower.ensures.lowered c.if-not-lower.false) in
    record {
      long = c.lower.auto.lefts ∙ c.loop-i.invariant.long;
      are = rw (add-one i) (lefts-next c.args.table.now c.args.places.now r.rising i (omega arith) natural c.loop-i.lefts after lowered c.loop-i.invariant.are);
    }
