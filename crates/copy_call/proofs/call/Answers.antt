-- What comes of the run, or a refusal.
use Rattle.std.proofs.Common.{false, length}
use Rattle.language.specs.Call.{copying}
use Rattle.call_admission.specs.Lent.{fed_of}
use Rattle.call_replies.specs.Replies.{admitted-call, refused-call, leaving-all, leaving-length}
use Rattle.copy_call.proofs.call.Goals as goal

pub ran-requires : goal.ran-requires
ran-requires c =
    let s = c.args in
    admitted-call (copying (length s.area.now)) (fed_of s.numbers s.script.now s.table.now s.groups.now s.sheet.now) c.admit.result (c.admit.ensures false)
    c.in-Ok.is

pub returns-in-Err : goal.returns-in-Err
returns-in-Err c =
    let s = c.args in
    let e = copying (length s.area.now) in
    let f = fed_of s.numbers s.script.now s.table.now s.groups.now s.sheet.now in
    leaving-all e f (refused-call e f c.admit.result (c.admit.ensures false) c.in-Err.fault.cause c.in-Err.fault.offset c.in-Err.is c.refused_answer.ensures)
    s.area.now

pub returns-in-Ok : goal.returns-in-Ok
returns-in-Ok c =
    let s = c.args in
    let e = copying (length s.area.now) in
    let f = fed_of s.numbers s.script.now s.table.now s.groups.now s.sheet.now in
    leaving-length e f c.ran.ensures (admitted-call e f c.admit.result (c.admit.ensures false) c.in-Ok.is).1 c.ran.auto.area
