use Rattle.std.proofs.Common.{rules}
use Rattle.check_records.proofs.Places.{absent}
use Rattle.check_records.proofs.record.record_at.Goals as goal

pub returns : goal.returns
returns c = search (rules, absent)
