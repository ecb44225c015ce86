-- There is room for no activation more, or the arguments are handed on.
use Rattle.std.proofs.Common.{rules}
use Rattle.search_calls.proofs.Calls.{body-entered, none-entered}
use Rattle.search_calls.proofs.enter_body.Goals as goal

pub returns-then-activations-live : goal.returns-then-activations-live
returns-then-activations-live c = search (rules, none-entered)

pub returns : goal.returns
returns c = search (rules, body-entered)
