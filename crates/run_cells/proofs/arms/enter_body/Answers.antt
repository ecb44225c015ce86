-- `enter_body` meets its contract.
use borrow.Author.Rules.{rules}
use Rattle.run_cells.specs.Calling.{call-stops, call_enters}
use Rattle.run_cells.proofs.arms.enter_body.Goals as goal

pub returns-then-activations-live : goal.returns-then-activations-live
returns-then-activations-live c = search (rules, call-stops)

pub returns : goal.returns
returns c = search (rules, call_enters)
