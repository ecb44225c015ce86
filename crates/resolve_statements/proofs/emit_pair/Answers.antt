-- `resolve_statements::emit_pair` meets its contract. Assumes nothing.
use Rattle.resolve_statements.proofs.Statements.{pair-written}
use borrow.Author.Rules.{rules}
use Rattle.resolve_statements.proofs.emit_pair.Goals as goal

pub returns : goal.returns
returns c = search (rules, pair-written)
