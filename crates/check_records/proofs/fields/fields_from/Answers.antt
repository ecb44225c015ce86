use Rattle.std.proofs.Common.{arith}
use Rattle.check_records.proofs.Unread.{unread-number}
use Rattle.check_records.proofs.fields.fields_from.Goals as goal

pub returns-then-script-at : goal.returns-then-script-at
returns-then-script-at c = (unread-number c.args.script.now c.args.at 0 (omega arith) (omega arith), omega arith)

pub returns : goal.returns
returns c = (unread-number c.args.script.now c.args.at _ (omega arith) (omega arith), omega arith)
