-- Each way out is a case of `headed`.
use Rattle.std.proofs.Common.{◌∙◌, sym, rules}
use Rattle.check_names.proofs.Exits.{same-error}
use Rattle.check_bounds.proofs.HeadLaws.{fit-untaken, fit-unfit, fit-twice, fit-new}
use Rattle.check_bounds.proofs.declaration.fit.Goals as goal

pub returns-in_default : goal.returns-in_default
returns-in_default c = search (rules, fit-untaken)

pub returns-in_err-ranged : goal.returns-in_err-ranged
returns-in_err-ranged c =
    same-error _ c.from_residual.ensures.1 ∙ sym c.in_err-ranged.was ∙ fit-unfit _ _ _ c.in-Taken.is c.ranged.ensures c.in_err-ranged.was

pub returns-then-seen : goal.returns-then-seen
returns-then-seen c = search (rules, fit-twice)

pub returns : goal.returns
returns c = search (rules, fit-new)
