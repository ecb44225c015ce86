-- A case for each mark.
use Rattle.std.proofs.Common.{rules}
use Rattle.check_uses.proofs.Meanings.{kind-PR, kind-LB, kind-FM, kind-other}
use Rattle.check_uses.proofs.kind_at.Goals as goal

pub returns-then-mark-eq-PR : goal.returns-then-mark-eq-PR
returns-then-mark-eq-PR c = search (rules, kind-PR)

pub returns-then-mark-eq-LB : goal.returns-then-mark-eq-LB
returns-then-mark-eq-LB c = search (rules, kind-LB)

pub returns-then-mark-eq-FM : goal.returns-then-mark-eq-FM
returns-then-mark-eq-FM c = search (rules, kind-FM)

pub returns : goal.returns
returns c = search (rules, kind-other)
