-- `resolve_statements::emit_cl` meets its contract. Assumes nothing.
use Rattle.resolve_statements.proofs.Statements.{cl-written}
use borrow.Author.Rules.{rules}
use Rattle.resolve_statements.proofs.emit_cl.Goals as goal

pub returns : goal.returns
returns c = search (rules, cl-written)
