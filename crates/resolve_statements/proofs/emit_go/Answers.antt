-- `resolve_statements::emit_go` meets its contract. Assumes nothing.
use Rattle.resolve_statements.proofs.Statements.{go-written}
use borrow.Author.Rules.{rules}
use Rattle.resolve_statements.proofs.emit_go.Goals as goal

pub returns : goal.returns
returns c = search (rules, go-written)
