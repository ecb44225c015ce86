-- What the display engine's run begins with, once a call is admitted and its script resolved (`beginning`).
use Prim.Native.Nat.{ℕ}
use mathlib.Core.List.{List}
use mathlib.Core.Path.{◌≡◌, refl, ap, ◌∙◌}
use lib.IntN.{pos}
use lib.ListN.{length, get_or, replicate, length-replicate}
use Rattle.language.specs.Text.{Block}
use Rattle.language.specs.Call.{Fed, display}
use Rattle.grammar.specs.Rules.{Bytes}
use Rattle.runs.specs.Admission.{Admitted}
use Rattle.resolved.specs.Resolved.{resolved_of, Covers}
use Rattle.call_replies.specs.Runs.{call-begins}
use Rattle.display_run.specs.Program.{Beginning, start_state}
use Rattle.display_run.specs.declared.state.State.{State}

abbrev pub beginning : {f : Fed} → Bytes f.script → {t : Block} → Admitted display f t → {code : List ℕ} → Covers code 0 (resolved_of f.name t)
    → {state : State} → state ≡ start_state
    → Beginning code (replicate 8224 (pos 0)) state.blocks state.nexts state.links state.display f.lent.table.words f.lent.table.used f.limit f.activations
beginning bytes h covers made =
    record {
      begun = call-begins bytes h covers refl;
      blocks-long = ap (λ (s : State). length s.blocks) made ∙ length-replicate {A = ℕ} 256 0;
      nexts-long = ap (λ (s : State). length s.nexts) made ∙ length-replicate {A = ℕ} 256 0;
      links-long = ap (λ (s : State). length s.links) made ∙ length-replicate {A = ℕ} 256 0;
      display-long = ap (λ (s : State). length s.display) made ∙ length-replicate {A = ℕ} 256 0;
      no_block = ap (λ (s : State). get_or s.blocks 0 0) made;
      no-link = ap (λ (s : State). get_or s.links 0 0) made;
      no-entry = ap (λ (s : State). get_or s.display 1 0) made;
    }
