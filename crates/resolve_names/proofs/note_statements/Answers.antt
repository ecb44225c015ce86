-- `resolve_names::note_statements` meets its contract. Assumes nothing.
use Rattle.resolve_names.proofs.Starting.{labelled-noted, unlabelled-noted}
use borrow.Author.Rules.{rules}
use Rattle.resolve_names.proofs.note_statements.Goals as goal

pub returns-then-labelled : goal.returns-then-labelled
returns-then-labelled c = search (rules, labelled-noted)

pub returns-else-labelled : goal.returns-else-labelled
returns-else-labelled c = search (rules, unlabelled-noted)
