-- What comes of the run, or a refusal.
use Rattle.std.proofs.Common.{false}
use Rattle.language.specs.Call as Call
use Rattle.call_admission.specs.Lent.{fed_of}
use Rattle.call_replies.specs.Replies.{admitted-call, refused-call}
use Rattle.search_call.proofs.call.Goals as goal

pub ran-requires : goal.ran-requires
ran-requires c =
    let s = c.args in
    admitted-call Call.search (fed_of s.numbers s.script.now s.table.now s.groups.now s.sheet.now) c.admit.result (c.admit.ensures false) c.in-Ok.is

pub returns-in-Err : goal.returns-in-Err
returns-in-Err c =
    let s = c.args in
    refused-call Call.search (fed_of s.numbers s.script.now s.table.now s.groups.now s.sheet.now) c.admit.result (c.admit.ensures false) c.in-Err.fault.cause
    c.in-Err.fault.offset c.in-Err.is c.refused_answer.ensures
