use Rattle.std.proofs.Common.{ℕ, ◌∙◌, ap, ap₂}
use Rattle.table_search.proofs.Signed.{back}
use Rattle.table_hash.specs.Hashes.{weight_of, combine, mix, hash_at}
use Rattle.table_hash.proofs.hash.Goals as goal

pub returns-then-whole : goal.returns-then-whole
unfolding hash_at
returns-then-whole c =
    let group = c.weight-group.ensures.value ∙ ap weight_of (back _ c.group_at.type_inv ∙ c.group_at.ensures) in
    let member = c.weight.ensures.value ∙ ap weight_of (back _ c.member_at.type_inv ∙ c.member_at.ensures) in
    rw c.if-whole.true (c.mixed.ensures ∙ ap mix (c.combined.ensures ∙ ap₂ combine group member))

pub returns : goal.returns
unfolding hash_at
returns c =
    let group = c.weight-group.ensures.value ∙ ap weight_of (back _ c.group_at.type_inv ∙ c.group_at.ensures) in
    rw c.if-whole.false (c.mixed-2.ensures ∙ ap mix (c.combined-2.ensures ∙ ap (λ (w : ℕ). combine w 0) group))
