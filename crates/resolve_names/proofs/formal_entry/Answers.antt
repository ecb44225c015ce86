-- `resolve_names::formal_entry` meets its contract. Assumes nothing.
use Rattle.resolve_names.proofs.Declarations.{formal-by}
use borrow.Author.Rules.{rules}
use Rattle.resolve_names.proofs.formal_entry.Goals as goal

pub returns : goal.returns
returns c = search (rules, formal-by)
