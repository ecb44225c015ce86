-- What comes after the first name is judged where that is right.
use Rattle.std.proofs.Common.{rules}
use Rattle.check_uses.proofs.Verdicts.{then-stop, then-go, judged-at}
use Rattle.check_uses.proofs.scope.Scope.both.Goals as goal

pub returns-in_err-uses : goal.returns-in_err-uses
returns-in_err-uses c = search (rules, then-stop, judged-at)

pub returns : goal.returns
returns c = search (rules, then-go, judged-at)
