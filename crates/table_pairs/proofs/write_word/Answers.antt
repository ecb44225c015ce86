-- Past the end `set` changes nothing.
use Rattle.std.proofs.Common.{sym, arith}
use Rattle.std.proofs.Math.Seq.{set_out}
use Rattle.table_pairs.proofs.write_word.Goals as goal

pub returns-else-i-table : goal.returns-else-i-table
returns-else-i-table c = sym (set_out c.args.table.now c.args.i c.args.word (omega arith))
