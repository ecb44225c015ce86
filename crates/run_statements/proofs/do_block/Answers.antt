use Rattle.std.proofs.Common.{rules}
use Rattle.run_statements.specs.Doing.{block-stops, block-enters}
use Rattle.run_statements.proofs.do_block.Goals as goal

pub returns-then-activations-live : goal.returns-then-activations-live
returns-then-activations-live c = search (rules, block-stops)

pub returns : goal.returns
returns c = search (rules, block-enters)
