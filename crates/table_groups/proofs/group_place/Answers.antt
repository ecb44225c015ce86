use Rattle.std.proofs.Common.{◌≡◌, ℕ, suc, ◌-◌, nat_abs, ap, ◌∙◌, arith, w32, to_z, of_z}
use Rattle.table_groups.specs.Standing.{place_in}
use Rattle.table_groups.proofs.Numbers.{word-cast, word_read, at_least_one_lem}
use Rattle.table_groups.proofs.group_place.Goals as goal

pub overflow_cast-group : goal.overflow_cast-group
overflow_cast-group c = word-cast (at_least_one_lem c.args.group c.requires.group_value).0 c.ranges.group.sfits

pub overflow_sub-group : goal.overflow_sub-group
overflow_sub-group c = let some = at_least_one_lem c.args.group c.requires.group_value in omega (arith, word_read some.0 c.ranges.group.sfits, some.1)

pub returns : goal.returns
returns c =
    let some = at_least_one_lem c.args.group c.requires.group_value in
    let read : suc (nat_abs (to_z w32 (of_z w32 c.args.group)) - 1) ≡ nat_abs c.args.group = omega (arith, word_read some.0 c.ranges.group.sfits, some.1) in
    λ ps past l. c.groups_within.ensures.place ps past l ∙ ap (λ (g : ℕ). place_in g ps) read
