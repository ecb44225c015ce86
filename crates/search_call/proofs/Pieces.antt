-- What the search engine's run begins with, once a call is admitted, its script resolved and its names numbered (`beginning`).
use Prim.Native.Nat.{ℕ}
use mathlib.Core.List.{List}
use mathlib.Core.Path.{◌≡◌, refl, ap, ◌∙◌}
use lib.IntN.{pos}
use lib.ListN.{length, get_or, replicate, length-replicate}
use Rattle.language.specs.Text.{Block}
use Rattle.language.specs.Call.{Fed}
use Rattle.language.specs.Call as Call
use Rattle.grammar.specs.Rules.{Bytes}
use Rattle.runs.specs.Admission.{Admitted}
use Rattle.resolved.specs.Resolved.{resolved_of, Covers}
use Rattle.call_replies.specs.Runs.{call-begins}
use Rattle.search_numbers.specs.Numbering.{NumbersStand}
use Rattle.search_run.specs.Program.{Beginning, start_state}
use Rattle.search_run.specs.declared.state.State.{State}

abbrev pub beginning : {f : Fed} → Bytes f.script → {t : Block} → Admitted Call.search f t → {code : List ℕ} → Covers code 0 (resolved_of f.name t)
    → {numbers : List ℕ} → NumbersStand f.script code numbers → {state : State} → state ≡ start_state
    → Beginning code numbers (replicate 8224 (pos 0)) state.passers state.blocks state.nexts state.froms f.lent.table.words f.lent.table.used f.limit f.activations
beginning {f} bytes {t} h covers numbered made =
    record {
      begun = call-begins bytes h covers refl;
      numbers-stand = numbered t f.name h.script covers;
      passers-long = ap (λ (s : State). length s.passers) made ∙ length-replicate {A = ℕ} 8192 0;
      blocks-long = ap (λ (s : State). length s.blocks) made ∙ length-replicate {A = ℕ} 256 0;
      nexts-long = ap (λ (s : State). length s.nexts) made ∙ length-replicate {A = ℕ} 256 0;
      froms-long = ap (λ (s : State). length s.froms) made ∙ length-replicate {A = ℕ} 256 0;
      no_block = ap (λ (s : State). get_or s.blocks 0 0) made;
      no-from = ap (λ (s : State). get_or s.froms 0 0) made;
    }
