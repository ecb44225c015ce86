-- `resolve_statements::emit_if` meets its contract. Assumes nothing.
use Rattle.resolve_statements.proofs.Statements.{if-written}
use borrow.Author.Rules.{rules}
use Rattle.resolve_statements.proofs.emit_if.Goals as goal

pub returns : goal.returns
returns c = search (rules, if-written)
