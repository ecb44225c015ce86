use Rattle.std.proofs.Common.{sym, ◌∙◌, arith}
use Rattle.table_places.proofs.Reading.{ended-short, ended-other, ended-right}
use Rattle.table_places.proofs.ends.Goals as goal

pub returns-then-left-ne0 : goal.returns-then-left-ne0
returns-then-left-ne0 c = sym (ended-short _ _ _ c.if-left-ne0.true)

pub returns-then-not-zero_from : goal.returns-then-not-zero_from
returns-then-not-zero_from c = sym (ended-other _ _ _ (sym c.zero_from.ensures ∙ c.if-not-zero_from.true))

pub returns : goal.returns
returns c = sym (ended-right _ _ _ (omega arith) (sym c.zero_from.ensures ∙ c.if-not-zero_from.false))
