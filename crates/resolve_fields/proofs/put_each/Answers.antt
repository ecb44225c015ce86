-- One word more, or a place past the end.
use Rattle.std.proofs.Common.{length, set, length-set, ap, ◌∙◌}
use Rattle.resolve_fields.proofs.Taking.{taken_next, taken-all, past_end}
use Rattle.resolve_fields.proofs.put_each.Goals as goal
use Rattle.resolve_fields.proofs.put_each.Goals.{then-place-lt4096, else-place-lt4096}

pub loop-place-preserved : goal.loop-place-preserved
loop-place-preserved g c =
    let l = c.loop-place in (
      elim c.if-place-lt4096.branch [
        | then-place-lt4096 x ↦ ap length x.words-is ∙ length-set l.words l.place _ ∙ l.invariant.0
        | else-place-lt4096 x ↦ ap length x.words-is ∙ l.invariant.0
      ],
      λ word says.
          taken_next word l.words _ _ l.place _ c.loop-place-test.true (elim c.if-place-lt4096.branch [
            | then-place-lt4096 x ↦ x.words-is ∙ ap (set l.words l.place) (says l.place _ x.if-place-lt4096.true x.value.ensures)
            | else-place-lt4096 x ↦ x.words-is ∙ past_end l.words l.place (word l.place) l.invariant.0 x.if-place-lt4096.false
          ]) (l.invariant.1 word says),
    )

pub returns-clause-taken : goal.returns-clause-taken
returns-clause-taken g c word says = taken-all word _ _ _ _ _ c.loop-place-test.false (c.loop-place.invariant.1 word says)
