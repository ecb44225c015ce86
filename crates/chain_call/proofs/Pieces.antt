-- What the pieces of the chain engine's call come to: `begins-at` is what its run begins with once the script is resolved; from what the run ends with,
-- `sheet-ready` is what the sheet needs and `replied` that answer, sheet, table and list are the reply's.
use Prim.Native.Nat.{ℕ, ◌*◌, ◌≤◌}
use native.Mathlib.Omega.{arith}
use mathlib.Core.List.{List}
use mathlib.Core.Path.{◌≡◌, refl, sym, ◌∙◌, subst}
use borrow.Author.Tests.{leb-true}
use lib.IntN.{ℤ, pos}
use lib.ListN.{length, replicate}
use Rattle.language.specs.Text.{Block}
use Rattle.language.specs.Sheet.{sheet_share}
use Rattle.language.specs.Call.{Fed, chain, records_fit, holds_at_least, written}
use Rattle.language.specs.declared.Answer.{Answer}
use Rattle.grammar.specs.Rules.{Bytes}
use Rattle.table_laws.specs.Listing.{KeepsList}
use Rattle.runs.specs.Admission.{Admitted, records-fit}
use Rattle.frames.specs.Frame.{Frame, frame_run, frame_start, frame_run_of, frame_sheet}
use Rattle.resolved.specs.Resolved.{resolved_of, Covers}
use Rattle.resolve_script.specs.Resolving.{Resolved, resolved-covers}
use Rattle.run_sheet.specs.Held.{Held}
use Rattle.call_answers.specs.Replies.{Answers}
use Rattle.call_replies.specs.Replies.{with-links}
use Rattle.call_replies.specs.Runs.{call-begins, sheet-needs, run-replies}
use Rattle.chain_records.specs.declared.Activation.{Activation}
use Rattle.chain_links.specs.Records.{blocks_in, nexts_in, links_in}
use Rattle.run_state.specs.Limits.{limits_by}
use Rattle.chain_run.specs.Running.{Beginning, Ended}
use Rattle.run_state.specs.declared.Halt.{Halt}
use Rattle.chain_call.specs.Calls.{halt_answer}

module _ (records : List Activation) (f : Fed) (bytes : Bytes f.script) (t : Block) (h : Admitted (chain (length records)) f t) (code : List ℕ)
    (resolved : Resolved f.script f.name code) (cells : List ℤ) (zero : cells ≡ replicate 8224 (pos 0)) where
  covers : Covers code 0 (resolved_of f.name t)
  covers = resolved-covers f.script f.name code resolved t h.script

  records-room : f.activations ≤ length records
  unfolding records_fit holds_at_least
  records-room = leb-true f.activations (length records) (records-fit h)

  abbrev Begins : ℕ → Type 0
  Begins = Beginning code cells records f.lent.table.words f.lent.table.used f.limit

  abbrev beginning : Begins f.activations
  beginning = record { begun = call-begins bytes h covers zero; room = records-room }

  -- the same of what the code has as the limit
  pub begins-at : (activations : ℕ) → activations ≡ f.activations → Begins activations
  begins-at activations q = subst Begins (sym q) beginning

  -- what a run from there ends with
  abbrev Ends : {activations : ℕ} → Begins activations → Halt → List ℤ → List Activation → List ℤ → Type 0
  Ends {activations} b =
      Ended b.begun.program b.begun.name activations f.limit (frame_run (limits_by activations f.limit) f.allowance (frame_start b.begun.program f.lent.table))

  module _ (r : Halt) {cells' : List ℤ} {records' : List Activation} {table' : List ℤ} (activations : ℕ) (q : activations ≡ f.activations)
      (run : (b : Begins activations) → Ends b r cells' records' table') where
    ended : Ended t f.name f.activations f.limit (frame_run_of f t) r cells' records' table'
    unfolding frame_run_of
    ended = subst (λ (k : ℕ). (b : Begins k) → Ends b r cells' records' table') q run beginning

    pub sheet-ready : length records' ≡ length records → ((fs : List Frame) × Held code cells' (blocks_in records') (nexts_in records') (links_in records') fs × (length fs ≡ r.live)) ×
        ((r.live ≤ length records') × (sheet_share * r.live ≤ length f.lent.sheet))
    sheet-ready e =
        let s = sheet-needs bytes h covers ended.ended in
        (s.0, (omega (arith, records-room, ended.ended.live-is, ended.ended.sound.bounded.live), s.1))

    pub replied : {sheet groups : List ℤ} {count : ℕ}
        → ((fs : List Frame) → Held code cells' (blocks_in records') (nexts_in records') (links_in records') fs → length fs ≡ r.live
        → (sheet ≡ written (frame_sheet fs) f.lent.sheet) × (count ≡ length (frame_sheet fs)))
        → KeepsList f.limit f.lent.table.words f.lent.table.used f.lent.groups table' r.pairs groups
        → {answer : Answer} → answer ≡ halt_answer r count f.tally → Answers (chain (length records)) f answer sheet table' groups
    replied is keeps a = run-replies bytes h covers ended.ended is keeps (ended.links-are ∙ with-links (chain (length records)) f (frame_run_of f t) refl) a
