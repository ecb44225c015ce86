-- A case for each way out.
use Rattle.std.proofs.Common.{rules}
use Rattle.check_calls.proofs.Judging.{agrees-free, agrees-count, agrees-right, agrees-wrong}
use Rattle.check_calls.proofs.agrees.Goals as goal

pub returns-then-word-ne-PR : goal.returns-then-word-ne-PR
returns-then-word-ne-PR c = search (rules, agrees-free)

pub returns-then-word-count : goal.returns-then-word-count
returns-then-word-count c = search (rules, agrees-count)

pub returns-then-matching : goal.returns-then-matching
returns-then-matching c = search (rules, agrees-right)

pub returns : goal.returns
returns c = search (rules, agrees-wrong)
