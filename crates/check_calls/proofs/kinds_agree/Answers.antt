-- A declared procedure whose formals' kinds agree with the arguments.
use Rattle.std.proofs.Common.{rules}
use Rattle.check_calls.proofs.Judging.{agreed}
use Rattle.check_calls.proofs.kinds_agree.Goals as goal

pub returns : goal.returns
returns c = search (rules, agreed)
