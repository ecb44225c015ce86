-- The body stands where the procedure's word says.
use Rattle.std.proofs.Common.{rules}
use Rattle.search_calls.proofs.Calls.{called-own}
use Rattle.search_calls.proofs.do_call.Goals as goal

pub returns : goal.returns
returns c = search (rules, called-own)
