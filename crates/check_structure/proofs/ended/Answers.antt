use Rattle.std.proofs.Common.{◌∙◌}
use Rattle.check_names.proofs.Exits.{same-error}
use Rattle.check_structure.proofs.Whole.{ended-early, ended-last, ended-refused}
use Rattle.check_structure.proofs.ended.Goals as goal

pub returns-in_err-end : goal.returns-in_err-end
returns-in_err-end c = same-error _ c.from_residual.ensures.1 ∙ ended-refused _ c.in_err-end.was

pub returns-then-end-n : goal.returns-then-end-n
returns-then-end-n c = ended-early _ c.in_ok-end.was c.if-end-n.true

pub returns : goal.returns
returns c = ended-last _ c.in_ok-end.was c.if-end-n.false
