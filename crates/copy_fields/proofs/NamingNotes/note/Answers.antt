-- `note` meets its contract. Assumes nothing.
use mathlib.Core.Path.{◌∙◌, ap}
use Prim.Native.Nat.{ℕ, ◌+◌}
use native.Mathlib.Omega.{arith}
use borrow.Author.Rules.{rules}
use Rattle.laws.specs.Fields.{field_at}
use Rattle.resolve_fields.specs.Taking.{leading, trailing}
use Rattle.copy_fields.proofs.Records.{other-noted, if-noted}
use Rattle.copy_fields.proofs.NamingNotes.note.Goals as goal

pub returns-then-mark-eq-IF-clause-noted : goal.returns-then-mark-eq-IF-clause-noted
returns-then-mark-eq-IF-clause-noted c name x fs es ps known stand words =
    let p = c.requires in
    (if-noted _ _ _ _ _ p.0 c.cross.ensures.crossed (omega (arith, p.2)) name x fs es stand words, tt)

pub returns-clause-noted : goal.returns-clause-noted
returns-clause-noted c name x fs es ps known stand words =
    let a = c.args in
    let mark = c.requires.2 in (
      other-noted _ _ _ _ _ _ _ _ (c.put_each.ensures.taken _ (λ place w inside said. search rules)) (c.put_each-2.ensures.taken _ (λ place w inside said. search rules))
          (c.leading.ensures.0 ∙ ap leading mark)
          (c.trailing.ensures.0 ∙ ap (λ (w : ℕ). trailing w (field_at a.script.now (a.at + 4))) mark)
          (λ i. c.if-mark-eq-IF.false (mark ∙ i)) name x fs es stand words,
      tt,
    )
