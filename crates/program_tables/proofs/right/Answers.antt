-- The list is long enough for the test of table and list, and where both are right the list stands beside the table.
use Rattle.std.proofs.Common.{arith, subst, sym, ◌∙◌, ℕ}
use Rattle.language.specs.Groups.{list_words}
use Rattle.laws.specs.Tests.{both}
use Rattle.table_laws.specs.Listing.{HasList, beside-lent}
use Rattle.program_tables.proofs.right.Goals as goal

pub table_and_list_right-requires : goal.table_and_list_right-requires
unfolding list_words
table_and_list_right-requires c = grind arith

pub returns : goal.returns
unfolding list_words
returns c passed =
    let b = both _ _ (sym c.table_and_list_right.ensures ∙ passed) in
    subst (λ (n : ℕ). HasList n c.args.table.now c.args.count c.args.list.now) c.from.ensures
    (_, beside-lent (grind arith) (omega (arith, c.from.ensures, c.ranges.limit.fits)) b.0 b.1)
