-- What comes of the run, where no refusal is due, or a refusal.
use Rattle.std.proofs.Common.{length}
use Rattle.language.specs.Call.{chain}
use Rattle.call_admission.specs.Lent.{fed_of}
use Rattle.call_replies.specs.Replies.{admitted-call, refused-call, leaving-all, leaving-length}
use Rattle.chain_call.proofs.call.Goals as goal

pub ran-requires : goal.ran-requires
ran-requires c =
    let s = c.args in
    admitted-call (chain (length s.records.now)) (fed_of s.numbers s.script.now s.table.now s.groups.now s.sheet.now) c.judged.result c.judged.ensures c.in-Ok.is

pub returns-in-Ok : goal.returns-in-Ok
returns-in-Ok c =
    let s = c.args in
    let e = chain (length s.records.now) in
    let f = fed_of s.numbers s.script.now s.table.now s.groups.now s.sheet.now in
    leaving-length e f c.ran.ensures (admitted-call e f c.judged.result c.judged.ensures c.in-Ok.is).1 c.ran.auto.records

pub returns-in-Err : goal.returns-in-Err
returns-in-Err c =
    let s = c.args in
    let e = chain (length s.records.now) in
    let f = fed_of s.numbers s.script.now s.table.now s.groups.now s.sheet.now in
    leaving-all e f (refused-call e f c.judged.result c.judged.ensures c.in-Err.fault.cause c.in-Err.fault.offset c.in-Err.is c.refused_answer.ensures) s.records.now
