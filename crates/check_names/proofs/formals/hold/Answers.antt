use Rattle.std.proofs.Common.{refl, sym, ◌∙◌, ap}
use Rattle.check_records.specs.Taking.{progress_of}
use Rattle.check_names.proofs.HoldingLaws.{held-refused, held-range, held-twice, held_next, kept-names, with-name}
use Rattle.check_names.proofs.formals.hold.Goals as goal

pub returns-in_default-clause-judged : goal.returns-in_default-clause-judged
returns-in_default-clause-judged c = c.onward.ensures ∙ ap progress_of c.in_default.is ∙ sym (held-refused _ _ c.in_default.is)

pub returns-in_default-clause-held : goal.returns-in_default-clause-held
returns-in_default-clause-held c = kept-names _ _ _ (c.onward.ensures ∙ ap progress_of c.in_default.is)

pub returns-then-f1-gt-LAST_KIND-clause-judged : goal.returns-then-f1-gt-LAST_KIND-clause-judged
returns-then-f1-gt-LAST_KIND-clause-judged c = sym (held-range _ _ c.in-Taken.is c.if-f1-gt-LAST_KIND.true)

pub returns-then-f1-gt-LAST_KIND-clause-held : goal.returns-then-f1-gt-LAST_KIND-clause-held
returns-then-f1-gt-LAST_KIND-clause-held c = kept-names _ _ _ refl

pub returns-then-seen-clause-judged : goal.returns-then-seen-clause-judged
returns-then-seen-clause-judged c = sym (held-twice _ _ c.in-Taken.is c.if-f1-gt-LAST_KIND.false c.seen.ensures c.if-seen.true)

pub returns-then-seen-clause-held : goal.returns-then-seen-clause-held
returns-then-seen-clause-held c = kept-names _ _ _ refl

pub returns-clause-judged : goal.returns-clause-judged
returns-clause-judged c = sym (held_next _ _ c.in-Taken.is c.if-f1-gt-LAST_KIND.false c.seen.ensures c.if-seen.false)

pub returns-clause-held : goal.returns-clause-held
returns-clause-held c = with-name _ _ _ _ c.in-Taken.is
