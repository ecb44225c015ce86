-- `resolve_statements::operation` meets its contract. Assumes nothing.
use borrow.Author.Tests.{eq-eqb, ne_eqb}
use Rattle.resolved.specs.Resolved.{chosen}
use Rattle.resolve_statements.proofs.operation.Goals as goal

pub returns-then-formals-eq0 : goal.returns-then-formals-eq0
unfolding chosen
returns-then-formals-eq0 c = rw (eq-eqb c.args.formals 0 c.if-formals-eq0.true, chosen)

pub returns : goal.returns
unfolding chosen
returns c = rw (ne_eqb c.args.formals 0 c.if-formals-eq0.false, chosen)
