-- Both bytes are there, or the second is past the end and counts as 0.
use Rattle.std.proofs.Common.{rules, arith, ◌+◌}
use Rattle.std.proofs.Math.ListN.{get_or-eq_default}
use Rattle.laws.specs.Fields.{field_at}
use Rattle.check_fields.proofs.bytes.word_at.Goals as goal

pub returns-then-at-script : goal.returns-then-at-script
unfolding field_at
returns-then-at-script c = search rules

pub returns : goal.returns
unfolding field_at
returns c =
    let none = get_or-eq_default c.args.script.now 0 {n = c.args.at + 1} c.if-at-script.false in
    (omega (arith, none), omega arith)
