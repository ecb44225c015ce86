-- What the copying engine's run begins with, once a call is admitted, its script resolved and the words of its names found (`beginning`).
use Prim.Native.Nat.{ℕ, ◌*◌, ◌/◌, ◌<◌, ◌≤◌}
use mathlib.Core.List.{List}
use mathlib.Core.Path.{refl}
use borrow.Author.Tests.{leb-true}
use lib.IntN.{pos}
use lib.ListN.{length, replicate, length-replicate}
use Rattle.language.specs.Text.{Block}
use Rattle.language.specs.Call.{Fed, copying, holds_at_least, area_fits}
use Rattle.grammar.specs.Rules.{Bytes}
use Rattle.grammar.proofs.Exact.{accepts-exactly}
use Rattle.runs.specs.Admission.{Admitted, area-fits}
use Rattle.resolved.specs.Resolved.{resolved_of, Covers}
use Rattle.copy_fields.specs.Naming.{NamesStand}
use Rattle.call_replies.specs.Replies.{steps-fit}
use Rattle.call_replies.specs.Runs.{call-begins}
use Rattle.copy_run.specs.Beginning.{Beginning}

module _ (area : List ℕ) {f : Fed} (bytes : Bytes f.script) (small : f.name < 65536) {t : Block} (h : Admitted (copying (length area)) f t) where
  pub area-room : f.activations * (length f.script / 2) ≤ length area
  unfolding area_fits holds_at_least
  area-room = leb-true (f.activations * (length f.script / 2)) (length area) (area-fits h)

  abbrev pub beginning : {code : List ℕ} → Covers code 0 (resolved_of f.name t) → {names : List ℕ} → NamesStand f.script code names
      → Beginning f.script code names (replicate 8224 (pos 0)) area (replicate 256 0) (replicate 256 0) (replicate 256 0) f.lent.table.words f.lent.table.used
      f.limit f.activations f.allowance
  beginning covers named =
      record {
        begun = call-begins bytes h covers refl;
        written = ((accepts-exactly f.script bytes t).0 h.script).0;
        names_stand = named t f.name h.script covers;
        name-small = small;
        few-steps = steps-fit h;
        room = area-room;
        blocks-long = length-replicate {A = ℕ} 256 0;
        nexts-long = length-replicate {A = ℕ} 256 0;
        links-long = length-replicate {A = ℕ} 256 0;
        no_block = refl;
        no-link = refl;
      }
