-- What the run, its links and the sheet come to is the copy rule's reply.
use Rattle.std.proofs.Common.{ℕ, refl}
use Rattle.std.proofs.lemmas.List.{length-replicate}
use Rattle.language.specs.Call as Call
use Rattle.grammar.specs.Words.{bytes-are}
use Rattle.frames.specs.Frame.{frame_run_of}
use Rattle.resolve_script.specs.Resolving.{resolved-covers}
use Rattle.call_admission.specs.Lent.{fed_of}
use Rattle.call_replies.specs.Replies.{no-links, tally-fits}
use Rattle.call_replies.specs.Runs.{call-lists, sheet-needs, run-replies}
use Rattle.search_run.specs.Linked.{end-linkable, end-linked}
use Rattle.search_call.proofs.Pieces.{beginning}
use Rattle.search_call.proofs.ran.Goals as goal

pub run_program-halt-requires : goal.run_program-halt-requires
run_program-halt-requires c =
    let p = c.requires in
    let bytes = bytes-are c.args.script.now (λ i. (c.type_inv.script i).fits) in
    record {
      beginning = beginning bytes p.1 (resolved-covers _ _ _ c.resolve.ensures _ p.1.script) c.number_names.ensures.numbered c.start_state-state.ensures;
      has_list = (_, call-lists p.1);
    }

pub find_links-requires : goal.find_links-requires
find_links-requires c =
    let p = c.requires in
    let bytes = bytes-are c.args.script.now (λ i. (c.type_inv.script i).fits) in
    let b = beginning bytes p.1 (resolved-covers _ _ _ c.resolve.ensures _ p.1.script) c.number_names.ensures.numbered c.start_state-state.ensures in
    (end-linkable b (c.run_program-halt.ensures.ended b), length-replicate {A = ℕ} 256 0)

pub write_sheet-written-requires : goal.write_sheet-written-requires
unfolding frame_run_of
write_sheet-written-requires c =
    let p = c.requires in
    let bytes = bytes-are c.args.script.now (λ i. (c.type_inv.script i).fits) in
    let covers = resolved-covers _ _ _ c.resolve.ensures _ p.1.script in
    let b = beginning bytes p.1 covers c.number_names.ensures.numbered c.start_state-state.ensures in
    let w = sheet-needs bytes p.1 covers (end-linked b (c.run_program-halt.ensures.ended b) refl c.find_links.ensures) in
    record { held = w.0; live_in_bounds = w.1 }

pub ran_answer-requires : goal.ran_answer-requires
ran_answer-requires c = tally-fits c.requires.1

pub returns : goal.returns
unfolding frame_run_of
returns c =
    let s = c.args in
    let p = c.requires in
    let bytes = bytes-are s.script.now (λ i. (c.type_inv.script i).fits) in
    let covers = resolved-covers _ _ _ c.resolve.ensures _ p.1.script in
    let b = beginning bytes p.1 covers c.number_names.ensures.numbered c.start_state-state.ensures in
    run-replies bytes p.1 covers (end-linked b (c.run_program-halt.ensures.ended b) refl c.find_links.ensures) c.write_sheet-written.ensures
    c.run_program-halt.ensures.keeps_list (no-links Call.search (fed_of s.numbers s.script.now s.table.now s.groups.now s.sheet.now) _ refl)
    c.ran_answer.ensures
