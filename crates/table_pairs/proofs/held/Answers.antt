use Rattle.std.proofs.Common.{◌≡◌, refl, sym, ap, arith}
use Rattle.language.specs.Table.{is_some, holds, size}
use Rattle.table_laws.specs.Pairs.{group-none}
use Rattle.table_pairs.proofs.Statements.{held-read}
use Rattle.table_pairs.proofs.held.Goals as goal

pub returns-then-members-ne0 : goal.returns-then-members-ne0
returns-then-members-ne0 c = sym (held-read c.ranges.group c.ranges.member c.args.count c.args.table.now c.present.ensures refl)

pub returns-else-members-ne0 : goal.returns-else-members-ne0
unfolding holds is_some size
returns-else-members-ne0 c =
    let none : c.args.members ≡ 0 = omega arith in
    rw none (sym (ap is_some (group-none c.args.group c.args.member c.args.count c.args.table.now c.requires.count_in_bounds (omega (arith, c.requires.members_value)))))
