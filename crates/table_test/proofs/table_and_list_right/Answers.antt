use Rattle.std.proofs.Common.{sym, ◌∙◌}
use Rattle.table_test.proofs.TableRight.{right-odd, right-short, numbers-wrong, pair-twice, by-list}
use Rattle.table_test.proofs.table_and_list_right.Goals as goal

pub returns-then-table-ne0 : goal.returns-then-table-ne0
returns-then-table-ne0 c = right-odd _ _ _ _ c.if-table-ne0.true

pub returns-then-table-count : goal.returns-then-table-count
returns-then-table-count c = right-short _ _ _ _ c.if-table-ne0.false c.if-table-count.true

pub returns-then-not-numbers_right : goal.returns-then-not-numbers_right
returns-then-not-numbers_right c =
    numbers-wrong _ _ _ _ c.if-table-ne0.false c.if-table-count.false (sym c.numbers_right.ensures ∙ c.if-not-numbers_right.true)

pub returns-then-not-pairs_differ : goal.returns-then-not-pairs_differ
returns-then-not-pairs_differ c =
    pair-twice _ _ _ _ c.if-table-ne0.false c.if-table-count.false (sym c.numbers_right.ensures ∙ c.if-not-numbers_right.false)
    (sym c.pairs_differ.ensures ∙ c.if-not-pairs_differ.true)

pub returns : goal.returns
returns c =
    c.list_agrees.ensures ∙
    by-list _ _ _ _ c.if-table-ne0.false c.if-table-count.false (sym c.numbers_right.ensures ∙ c.if-not-numbers_right.false)
    (sym c.pairs_differ.ensures ∙ c.if-not-pairs_differ.false)
