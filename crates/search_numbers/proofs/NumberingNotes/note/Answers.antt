-- `note` meets its contract. Assumes nothing.
use mathlib.Core.Path.{◌∙◌, ap}
use Prim.Native.Nat.{ℕ, ◌+◌, ◌/◌}
use native.Mathlib.Omega.{arith}
use borrow.Author.Rules.{rules}
use lib.ListN.{set}
use Rattle.laws.specs.Fields.{field_at}
use Rattle.resolved.specs.Resolved.{level_in}
use Rattle.resolve_fields.specs.Taking.{leading, trailing}
use Rattle.search_numbers.proofs.Records.{block_noted, other-noted}
use Rattle.search_numbers.proofs.NumberingNotes.note.Goals as goal

pub returns-then-mark-eq-BK-clause-noted : goal.returns-then-mark-eq-BK-clause-noted
returns-then-mark-eq-BK-clause-noted c =
    let a = c.args in
    let level = c.level_of-level.ensures.0 ∙ ap level_in c.from_u32.ensures.0 in
    block_noted _ _ _ _ _ _ _ (search rules) (ap (λ (k : ℕ). set a.self.now.around k (a.at / 2)) level) (c.put_each.ensures.taken _ (λ p w inside said. search rules)) (omega (arith, c.requires.2, c.if-mark-eq-BK.true))

pub returns-clause-noted : goal.returns-clause-noted
returns-clause-noted c =
    let a = c.args in
    let mark = c.requires.2 in
    other-noted _ _ _ _ _ _ _ _ _ (c.put_each-2.ensures.taken _ (λ p w inside said. search rules)) (c.put_each-3.ensures.taken _ (λ p w inside said. search rules))
    (c.leading.ensures.0 ∙ ap leading mark)
    (c.trailing.ensures.0 ∙ ap (λ (w : ℕ). trailing w (field_at a.script.now (a.at + 4))) mark)
    (λ i. c.if-mark-eq-BK.false (mark ∙ i))
