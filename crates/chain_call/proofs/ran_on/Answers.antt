-- The pieces (`Pieces`), one after another.
use Rattle.call_replies.specs.Replies.{tally-fits}
use Rattle.call_replies.specs.Runs.{call-lists}
use Rattle.call_admission.specs.Lent.{fed_of}
use Rattle.chain_call.proofs.Pieces.{begins-at, sheet-ready, replied}
use Rattle.chain_call.proofs.ran_on.Goals as goal

pub resolved-requires : goal.resolved-requires
resolved-requires c = c.requires.code-zero

pub run_program-halt-requires : goal.run_program-halt-requires
run_program-halt-requires c =
    let s = c.args in
    let r = c.requires in
    record {
      beginning = begins-at s.records.now (fed_of s.numbers s.script.now s.table.now s.groups.now s.sheet.now) c.resolved.ensures.1 r.program r.admitted
          c.resolved.new.code c.resolved.ensures.0 s.cells.now r.cells-zero c.activations_of.result c.activations_of.ensures;
      has_list = (_, call-lists r.admitted);
    }

pub write_sheet-written-requires : goal.write_sheet-written-requires
write_sheet-written-requires c =
    let s = c.args in
    let r = c.requires in
    let h = c.run_program-halt in
    let w = sheet-ready s.records.now (fed_of s.numbers s.script.now s.table.now s.groups.now s.sheet.now) c.resolved.ensures.1 r.program r.admitted
    c.resolved.new.code c.resolved.ensures.0 s.cells.now r.cells-zero h.result c.activations_of.result c.activations_of.ensures h.ensures.ended
    h.auto.records in
    record { held = w.0; live_in_bounds = w.1.0; live_in_bounds_2 = w.1.1 }

pub answered-requires : goal.answered-requires
answered-requires c = tally-fits c.requires.admitted

pub returns : goal.returns
returns c =
    let s = c.args in
    let r = c.requires in
    let h = c.run_program-halt in
    replied s.records.now (fed_of s.numbers s.script.now s.table.now s.groups.now s.sheet.now) c.resolved.ensures.1 r.program r.admitted
    c.resolved.new.code c.resolved.ensures.0 s.cells.now r.cells-zero h.result c.activations_of.result c.activations_of.ensures h.ensures.ended
    c.write_sheet-written.ensures h.ensures.keeps_list c.answered.ensures
