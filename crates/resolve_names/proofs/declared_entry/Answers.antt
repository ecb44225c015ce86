-- `resolve_names::declared_entry` meets its contract. Assumes nothing.
use Rattle.resolve_names.proofs.Declarations.{declared-by}
use borrow.Author.Rules.{rules}
use Rattle.resolve_names.proofs.declared_entry.Goals as goal

pub returns : goal.returns
returns c = search (rules, declared-by)
