-- A list that is too short is not tested.
use Rattle.std.proofs.Common.{arith, ◌≡◌, Bool, true, false, ◌&&◌}
use mathlib.Core.Path.{sym, ap, ◌∙◌}
use Rattle.std.proofs.lemmas.Bool.{le-leb, lt-leb}
use Rattle.language.specs.Groups.{list_words, list_fits}
use Rattle.measure.proofs.measure_right.Goals as goal

refused : (a b : Bool) → a ≡ false → a ≡ (a && b)
refused a b e = e ∙ sym (ap (λ (x : Bool). x && b) e)

judged : (a b : Bool) {r : Bool} → a ≡ true → r ≡ b → r ≡ (a && b)
judged a b e f = f ∙ sym (ap (λ (x : Bool). x && b) e)

pub returns-else-table-groups : goal.returns-else-table-groups
unfolding list_fits list_words
returns-else-table-groups c = refused _ _ (lt-leb _ _ c.if-table-groups.false)

pub table_and_list_right-requires : goal.table_and_list_right-requires
unfolding list_words
table_and_list_right-requires c = grind arith

pub returns-then-table-groups : goal.returns-then-table-groups
unfolding list_fits list_words
returns-then-table-groups c = judged _ _ (le-leb _ _ c.if-table-groups.true) c.table_and_list_right.ensures
