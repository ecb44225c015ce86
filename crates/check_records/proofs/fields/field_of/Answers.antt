use Rattle.std.proofs.Common.{◌∙◌, sym, arith}
use lib.Seq.{get_or-take}
use Rattle.check_records.specs.Taking.{unread}
use Rattle.check_records.proofs.Unread.{unread-at}
use Rattle.check_records.proofs.fields.field_of.Goals as goal

pub returns-then-k-count : goal.returns-then-k-count
returns-then-k-count c = (
  c.field_at.ensures.0
      ∙ sym (unread-at c.args.script.now c.args.at c.args.k (omega arith))
      ∙ sym (get_or-take c.args.count (unread c.args.script.now c.args.at) c.args.k 0 c.if-k-count.true),
  c.field_at.ensures.1,
)
