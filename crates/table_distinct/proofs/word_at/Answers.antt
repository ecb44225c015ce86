use Rattle.std.proofs.Common.{ℕ, ◌+◌, ◌*◌, ◌∙◌, ap, ap₂, nat_abs}
use Rattle.table_search.proofs.Signed.{back}
use Rattle.table_distinct.specs.Slots.{word_at}
use Rattle.table_distinct.proofs.word_at.Goals as goal

pub returns-clause-value : goal.returns-clause-value
unfolding word_at
returns-clause-value c =
    ap₂ (λ (x y : ℕ). x * 4294967296 + y) (c.word-group.ensures.value ∙ ap nat_abs (back _ c.group_at.type_inv ∙ c.group_at.ensures))
    (c.word-member.ensures.value ∙ ap nat_abs (back _ c.member_at.type_inv ∙ c.member_at.ensures))
