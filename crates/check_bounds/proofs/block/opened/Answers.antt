use Rattle.std.proofs.Common.{arith, rules}
use Rattle.check_bounds.proofs.BlockTests.{opened-deep, opened-many, opened-fits}
use Rattle.check_bounds.proofs.block.opened.Goals as goal

pub returns-then-left-eq0 : goal.returns-then-left-eq0
returns-then-left-eq0 c = search (rules, opened-deep)

pub returns-then-d-gt-MOST_NAMES : goal.returns-then-d-gt-MOST_NAMES
returns-then-d-gt-MOST_NAMES c = opened-many _ _ _ _ _ c.if-left-eq0.false (omega arith)

pub returns-then-d-held : goal.returns-then-d-held
returns-then-d-held c = opened-many _ _ _ _ _ c.if-left-eq0.false (omega arith)

pub returns : goal.returns
returns c = opened-fits _ _ _ _ _ c.if-left-eq0.false (omega arith)
