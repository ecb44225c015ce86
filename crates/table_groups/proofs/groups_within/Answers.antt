use Rattle.std.proofs.Common.{◌≡◌, ◌+◌, ◌/◌, sym, ◌∙◌, arith}
use Rattle.table_groups.proofs.Words.{listing-length, listing-word, place-fits, same_word, place-past, place-not}
use Rattle.table_groups.proofs.groups_within.Goals as goal

pub loop-from-init : goal.loop-from-init
loop-from-init c = (omega arith, omega arith, λ ps past h. (omega arith, place-fits h _), λ ps past h k. absurd (omega arith))

pub overflow_add-middle : goal.overflow_add-middle
overflow_add-middle c = omega (arith, listing-length c.requires.1.1)

pub overflow_mul-middle : goal.overflow_mul-middle
overflow_mul-middle c = omega (arith, listing-length c.requires.1.1)

pub word_at-requires-clause-not_negative : goal.word_at-requires-clause-not_negative
word_at-requires-clause-not_negative c = (_, listing-word c.requires.1.1 _ (omega arith))

pub word_at-requires-clause-i_in_bounds : goal.word_at-requires-clause-i_in_bounds
word_at-requires-clause-i_in_bounds c = omega (arith, listing-length c.requires.1.1)

pub loop-from-preserved-then-group_within : goal.loop-from-preserved-then-group_within
loop-from-preserved-then-group_within c =
    let l = c.loop-from in
    let m = (l.from + l.to) / 2 in (
      omega arith,
      l.invariant.1,
      λ ps past h. (
        omega (arith, place-past h c.args.bound m c.word_at.result (omega arith) c.word_at.ensures (sym c.group_within.ensures ∙ c.if-group_within.true)),
        (l.invariant.2 ps past h).1,
      ),
      l.invariant.3,
    )

pub loop-from-preserved : goal.loop-from-preserved
loop-from-preserved c =
    let l = c.loop-from in
    let m = (l.from + l.to) / 2 in (
      omega arith,
      omega arith,
      λ ps past h. (
        (l.invariant.2 ps past h).0,
        place-not h c.args.bound m c.word_at.result (omega arith) c.word_at.ensures (sym c.group_within.ensures ∙ c.if-group_within.false),
      ),
      λ ps past h k. omega (arith, same_word h m c.word_at.result k c.word_at.ensures, c.word_at.type_inv),
    )

pub returns : goal.returns
returns c =
    let l = c.loop-from in
    let e : l.to ≡ l.from = omega arith in
    record {
      place = λ ps past h. omega (arith, l.invariant.2 ps past h);
      in_use = λ ps past h k. rw e at (l.invariant.3 ps past h (omega arith));
    }
