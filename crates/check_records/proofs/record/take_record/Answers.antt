-- Each way out is a case of `record_at`.
use Rattle.std.proofs.Common.{◌≡◌, ◌∙◌, sym, ap, ℕ, ◌+◌, ◌*◌, arith, rules}
use Rattle.check_marks.specs.declared.Mark.{Mark}
use Rattle.check_marks.proofs.Table.{matched}
use Rattle.check_records.specs.declared.Reading.TheVariants.{Taken}
use Rattle.check_records.proofs.Places.{is-stray, is_cut, is_whole}
use Rattle.check_records.proofs.record.take_record.Goals as goal

same-fields : (m : Mark) (next : ℕ) {a a' b b' c c' d d' : ℕ} → a ≡ a' → b ≡ b' → c ≡ c' → d ≡ d' → Taken m next a b c d ≡ Taken m next a' b' c' d'
same-fields m next p q r s = cc

pub returns-in_default : goal.returns-in_default
returns-in_default c = search (rules, is-stray)

pub returns-then-script-from : goal.returns-then-script-from
returns-then-script-from c = (
  is_cut c.args.place c.args.script.now c.args.at c.requires c.field_at.ensures.0 c.find_mark.ensures c.from-k.result
      c.in-Some.field-0.mark (c.in-Some.is ∙ ap (λ (n : ℕ). matched n c.in-Some.field-0.mark) (sym c.from-k.ensures)) (omega arith),
  tt,
)

pub returns : goal.returns
returns c = (
  same-fields c.in-Some.field-0.mark (c.args.at + 2 + 2 * c.from-k.result) c.field_of-f0.ensures.0 c.field_of-f1.ensures.0
      c.field_of-f2.ensures.0 c.field_of-f3.ensures.0
      ∙ is_whole c.args.place c.args.script.now c.args.at c.requires c.field_at.ensures.0 c.find_mark.ensures c.from-k.result
      c.in-Some.field-0.mark (c.in-Some.is ∙ ap (λ (n : ℕ). matched n c.in-Some.field-0.mark) (sym c.from-k.ensures)) (omega arith),
  search rules,
)
