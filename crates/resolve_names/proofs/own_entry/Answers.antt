-- `resolve_names::own_entry` meets its contract. Assumes nothing.
use Rattle.resolve_names.proofs.Declarations.{own-formal, own-declared}
use borrow.Author.Rules.{rules}
use Rattle.resolve_names.proofs.own_entry.Goals as goal

pub returns-then-i-count : goal.returns-then-i-count
returns-then-i-count c = search (rules, own-formal)

pub returns : goal.returns
returns c = search (rules, own-declared)
