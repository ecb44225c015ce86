-- One argument more is handed on; at the end no other is left.
use Rattle.std.proofs.Common.{rules}
use Rattle.search_calls.proofs.Handing.{handing-start, handing-step, handing-end}
use Rattle.search_calls.proofs.arguments.Goals as goal

pub loop-i-init : goal.loop-i-init
loop-i-init c = search (rules, handing-start)

pub loop-i-preserved : goal.loop-i-preserved
loop-i-preserved c = search (rules, handing-step)

pub returns : goal.returns
returns c = search (rules, handing-end)
