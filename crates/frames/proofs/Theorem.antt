-- The frame machine runs as the copy rule does.
--
-- `RunsAsCopies` is the statement: whatever engine is called on whatever it is fed, the whole reply of the frame machine (answer,
-- sheet, table and list) is the reply of the copy-rule machine, refusals included. All of it but `frame_reply` is of crate language, and
-- `Bytes` says that the script's elements are bytes, as those of a byte slice always are. Related.antt has the relation between the
-- two machines' states, Steps.antt that a step keeps it.
use Rattle.std.specs.Prelude.{◌≡◌}
use Rattle.language.specs.Call.{Engine, Fed, replied, run_of, reply}
use Rattle.grammar.specs.Rules.{Bytes}
use Rattle.runs.specs.Calls.{answered-same}
use Rattle.frames.specs.Frame.{frame_replied, frame_run_of, frame_reply}
use Rattle.frames.proofs.Runs.{runs-replied}

abbrev pub RunsAsCopies : Type 0
RunsAsCopies = (e : Engine) (f : Fed) → Bytes f.script → frame_reply e f ≡ reply e f

pub frames-run-as-copies : RunsAsCopies
unfolding frame_reply reply
frames-run-as-copies e f bytes = answered-same e f (λ t. frame_replied e f (frame_run_of f t)) (λ t. replied e f (run_of f t)) (λ t a. runs-replied e f bytes t a)
