-- `resolve_statements::emit_ar` meets its contract. Assumes nothing.
use Rattle.resolve_statements.proofs.Statements.{ar-written}
use borrow.Author.Rules.{rules}
use Rattle.resolve_statements.proofs.emit_ar.Goals as goal

pub returns : goal.returns
returns c = search (rules, ar-written)
