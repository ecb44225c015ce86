-- Past the end `set` changes nothing.
use Rattle.std.proofs.Common.{suc, ◌*◌, set, sym, ◌∙◌, arith, add-one, length-set}
use Rattle.std.proofs.Math.Facts.{to_z-of_z}
use Rattle.std.proofs.Math.Seq.{set_out}
use Rattle.language.specs.Table.{add}
use Rattle.table_pairs.proofs.append.Goals as goal

pub returns-then-count-table : goal.returns-then-count-table
unfolding add
returns-then-count-table c =
    rw (c.write_word.ensures, to_z-of_z c.ranges.group, to_z-of_z c.ranges.member, add-one) at c.write_word-then-count-table.ensures

pub returns-else-count-table : goal.returns-else-count-table
unfolding add
returns-else-count-table c =
    let s = c.args in
    sym (set_out (set s.table.now (2 * s.count) s.group) (suc (2 * s.count)) s.member (simp length-set (omega arith)) ∙
    set_out s.table.now (2 * s.count) s.group (omega arith))
