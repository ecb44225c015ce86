use Rattle.std.proofs.Common.{◌≡◌, ◌<◌, Bool, nat_eq, ℤ, refl, sym, ap₂, ◌∙◌, eq-eqb, ne_eqb, w32, of_z}
use lib.Signed.{mag}
use Rattle.language.specs.Basics.{eq_z}
use Rattle.table_search.proofs.Signed.{same_bits}
use Rattle.table_keys.specs.Keys.{same, same_at}
use Rattle.table_keys.proofs.Keys.{differ}
use Rattle.table_keys.proofs.same_key.Goals as goal

-- two words that were read are one number as their bits are the same
same_words : {x y a b : ℤ} → mag x < 2147483648 → mag y < 2147483648 → x ≡ a → y ≡ b → {t : Bool} → nat_eq (of_z w32 x) (of_z w32 y) ≡ t → eq_z a b ≡ t
same_words {x} {y} h k p q e = sym (ap₂ eq_z p q) ∙ sym (same_bits x y (record { sfits = h }) (record { sfits = k })) ∙ e

pub returns-then-not-whole : goal.returns-then-not-whole
unfolding same same_at
returns-then-not-whole c =
    rw c.if-not-whole.true (sym (same_words c.group_at.type_inv c.group_at-2.type_inv c.group_at.ensures c.group_at-2.ensures (eq-eqb _ _ c.if-group_at.true)))

pub returns-else-not-whole : goal.returns-else-not-whole
unfolding same same_at
returns-else-not-whole c =
    let groups = same_words c.group_at.type_inv c.group_at-2.type_inv c.group_at.ensures c.group_at-2.ensures (eq-eqb _ _ c.if-group_at.true) in
    let members = same_words c.member_at.type_inv c.member_at-else-not-whole.type_inv c.member_at.ensures c.member_at-else-not-whole.ensures refl in
    rw (c.if-not-whole.false, groups) (sym members)

pub returns-else-group_at : goal.returns-else-group_at
unfolding same same_at
returns-else-group_at c =
    let other = ne_eqb _ _ c.if-group_at.false in
    other ∙ differ c.args.whole _ _ _ _ (same_words c.group_at.type_inv c.group_at-2.type_inv c.group_at.ensures c.group_at-2.ensures other)
