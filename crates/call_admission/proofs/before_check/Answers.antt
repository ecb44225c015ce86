-- `call_admission::before_check` meets its contract: the tests in their order. Assumes nothing.
use mathlib.Core.Path.{sym, ◌∙◌}
use borrow.Author.Tests.{le-leb, lt-leb}
use native.Mathlib.Omega.{arith}
use Rattle.language.specs.Groups.{list_words, list_fits}
use Rattle.language.specs.Call.{limits_fit, sheet_fits, records_fit}
use Rattle.call_admission.proofs.Due.{limits-due, sheet-due, records-due, list-due, table-due, none-due}
use Rattle.call_admission.proofs.before_check.Goals as goal

pub returns-then-not-limits_fit : goal.returns-then-not-limits_fit
unfolding limits_fit
returns-then-not-limits_fit c = limits-due _ _ (sym c.limits_fit.ensures ∙ c.if-not-limits_fit.true)

pub returns-then-sheet-numbers : goal.returns-then-sheet-numbers
unfolding limits_fit sheet_fits
returns-then-sheet-numbers c = sheet-due _ _ (sym c.limits_fit.ensures ∙ c.if-not-limits_fit.false) (lt-leb _ _ c.if-sheet-numbers.true)

pub returns-then-not-holds_at_least : goal.returns-then-not-holds_at_least
unfolding limits_fit sheet_fits records_fit
returns-then-not-holds_at_least c =
    records-due _ _ (sym c.limits_fit.ensures ∙ c.if-not-limits_fit.false) (le-leb _ _ c.if-sheet-numbers.false) (sym c.holds_at_least.ensures ∙ c.if-not-holds_at_least.true)

pub returns-then-groups-table : goal.returns-then-groups-table
unfolding limits_fit sheet_fits records_fit list_fits list_words
returns-then-groups-table c =
    list-due _ _ (sym c.limits_fit.ensures ∙ c.if-not-limits_fit.false) (le-leb _ _ c.if-sheet-numbers.false) (sym c.holds_at_least.ensures ∙ c.if-not-holds_at_least.false) (lt-leb _ _ c.if-groups-table.true)

pub table_and_list_right-requires : goal.table_and_list_right-requires
unfolding list_words
table_and_list_right-requires c = omega arith

pub returns-then-not-table_and_list_right : goal.returns-then-not-table_and_list_right
unfolding limits_fit sheet_fits records_fit list_fits list_words
returns-then-not-table_and_list_right c =
    table-due _ _ (sym c.limits_fit.ensures ∙ c.if-not-limits_fit.false) (le-leb _ _ c.if-sheet-numbers.false) (sym c.holds_at_least.ensures ∙ c.if-not-holds_at_least.false) (le-leb _ _ c.if-groups-table.false) (sym c.table_and_list_right.ensures ∙ c.if-not-table_and_list_right.true)

pub returns : goal.returns
unfolding limits_fit sheet_fits records_fit list_fits list_words
returns c =
    none-due _ _ (sym c.limits_fit.ensures ∙ c.if-not-limits_fit.false) (le-leb _ _ c.if-sheet-numbers.false) (sym c.holds_at_least.ensures ∙ c.if-not-holds_at_least.false) (le-leb _ _ c.if-groups-table.false) (sym c.table_and_list_right.ensures ∙ c.if-not-table_and_list_right.false)
