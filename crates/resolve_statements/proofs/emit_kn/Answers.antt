-- `resolve_statements::emit_kn` meets its contract. Assumes nothing.
use Rattle.resolve_statements.proofs.Statements.{kn-written}
use borrow.Author.Rules.{rules}
use Rattle.resolve_statements.proofs.emit_kn.Goals as goal

pub returns : goal.returns
returns c = search (rules, kn-written)
