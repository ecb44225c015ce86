-- `resolve_statements::emit_qy` meets its contract. Assumes nothing.
use Rattle.resolve_statements.proofs.Statements.{qy-written}
use borrow.Author.Rules.{rules}
use Rattle.resolve_statements.proofs.emit_qy.Goals as goal

pub returns : goal.returns
returns c = search (rules, qy-written)
