use Rattle.std.proofs.Common.{sym, ◌∙◌, arith}
use Rattle.table_groups.proofs.Numbers.{word-cast, word_read, at_least_one_lem}
use Rattle.table_groups.proofs.Words.{listing-length, listing-word, number_read, number-other, number_past}
use Rattle.table_groups.proofs.group_number.Goals as goal
use Rattle.table_groups.proofs.group_number.Goals.{else-place-places-via-then-place-places+else-word_at-group, else-place-places-via-else-place-places}

pub overflow_mul-place : goal.overflow_mul-place
overflow_mul-place c = omega (arith, listing-length c.requires.listed.1.1.0)

pub word_at-requires-clause-not_negative : goal.word_at-requires-clause-not_negative
word_at-requires-clause-not_negative c = (_, listing-word c.requires.listed.1.1.0 _ (omega arith))

pub word_at-requires-clause-i_in_bounds : goal.word_at-requires-clause-i_in_bounds
word_at-requires-clause-i_in_bounds c = omega (arith, listing-length c.requires.listed.1.1.0)

pub overflow_cast-group : goal.overflow_cast-group
overflow_cast-group c = word-cast (at_least_one_lem c.args.group c.requires.group_value).0 c.ranges.group.sfits

pub overflow_mul-place-then-word_at-group : goal.overflow_mul-place-then-word_at-group
overflow_mul-place-then-word_at-group c = omega (arith, listing-length c.requires.listed.1.1.0)

pub overflow_add-place : goal.overflow_add-place
overflow_add-place c = omega (arith, listing-length c.requires.listed.1.1.0)

pub word_at-requires-then-word_at-group-clause-not_negative : goal.word_at-requires-then-word_at-group-clause-not_negative
word_at-requires-then-word_at-group-clause-not_negative c = (_, listing-word c.requires.listed.1.1.0 _ (omega arith))

pub word_at-requires-then-word_at-group-clause-i_in_bounds : goal.word_at-requires-then-word_at-group-clause-i_in_bounds
word_at-requires-then-word_at-group-clause-i_in_bounds c = omega (arith, listing-length c.requires.listed.1.1.0)

pub returns-then-word_at-group : goal.returns-then-word_at-group
returns-then-word_at-group c =
    let some = at_least_one_lem c.args.group c.requires.group_value in
    λ ps past l e. number_read l _ c.args.place some.1 e c.word_at.result c.word_at-then-word_at-group.result c.if-place-places.true c.word_at.ensures (c.if-word_at-group.true ∙ word_read some.0 c.ranges.group.sfits) c.word_at-then-word_at-group.ensures

pub returns-else-place-places : goal.returns-else-place-places
returns-else-place-places c =
    let some = at_least_one_lem c.args.group c.requires.group_value in
    λ ps past l e.
    elim c.else-place-places.branch [
      | else-place-places-via-then-place-places+else-word_at-group w ↦
          number-other l _ c.args.place some.1 e w.word_at.result w.if-place-places.true w.word_at.ensures (λ q. w.if-word_at-group.false (q ∙ sym (word_read some.0 c.ranges.group.sfits)))
      | else-place-places-via-else-place-places w ↦ number_past l _ c.args.place some.1 e w.if-place-places.false
    ]
