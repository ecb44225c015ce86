use Rattle.std.proofs.Common.{rules}
use Rattle.check_names.proofs.Names.{names-none}
use Rattle.check_structure.proofs.Whole.{empty, too_long, odd, program-refused, program-read}
use Rattle.check_structure.proofs.structure.Goals as goal

pub returns-then-n-eq0 : goal.returns-then-n-eq0
returns-then-n-eq0 c = search (rules, empty)

pub returns-then-n-gt-LONGEST : goal.returns-then-n-gt-LONGEST
returns-then-n-gt-LONGEST c = search (rules, too_long)

pub returns-then-n-eq1 : goal.returns-then-n-eq1
returns-then-n-eq1 c = search (rules, odd)

pub returns-in_default : goal.returns-in_default
returns-in_default c = search (rules, program-refused)

pub returns : goal.returns
returns c = search (rules, program-read, names-none)
