use Rattle.std.proofs.Common.{◌≡◌, ℕ, ◌+◌, ◌*◌, ◌<◌, ◌∙◌, sym, ap, ap₂, nat_abs, arith}
use Rattle.laws.specs.Tables.{member_at}
use Rattle.table_search.proofs.Signed.{back}
use Rattle.table_distinct.specs.Slots.{word_at}
use Rattle.table_distinct.proofs.Words.{hash-parts}
use Rattle.table_distinct.proofs.hash_at.Goals as goal

pub returns-clause-value : goal.returns-clause-value
unfolding word_at
returns-clause-value c =
    let group = c.word-group.ensures.value ∙ ap nat_abs (back _ c.group_at.type_inv ∙ c.group_at.ensures) in
    let member : c.word-member.result ≡ nat_abs (member_at c.args.i c.args.table.now) =
    c.word-member.ensures.value ∙ ap nat_abs (back _ c.member_at.type_inv ∙ c.member_at.ensures) in
    let low : nat_abs (member_at c.args.i c.args.table.now) < 4294967296 = omega (arith, member, c.word-member.ensures.upper_bound) in
    ap₂ (λ (x y : ℕ). x * 1886004147 + y * 3726408501) group member ∙ sym (hash-parts _ _ low)
