-- A step that only moves among the frames leaves the table as it was, so that its list stays beside it: `left-lists`, `jumped-lists`, `entered-lists`.
use Rattle.std.specs.Prelude.{ℕ, List, ◌≡◌, ℤ}
use Rattle.std.proofs.Common.{sym, ◌∙◌, subst}
use Rattle.std.proofs.Math.Path.{ap}
use Rattle.language.specs.Table.{Table}
use Rattle.language.specs.Machine.{Limits}
use Rattle.table_laws.specs.Listing.{Beside, KeepsList}
use Rattle.frames.specs.Frame.{Frame, Stack, Acted, acted, with_frames, stepped, frame_step}
use Rattle.steps.specs.Standing.{Standing}
use Rattle.steps.specs.Means.{Follows, JumpsTo, EntersAt}
use Rattle.steps.specs.Loop.{leaving}

same-acted : (v v' : Stack) → acted v ≡ acted v' → v ≡ v'
same-acted v v' e = cc

module _ {code : List ℕ} {l : Limits} {cells : List ℤ} {blocks nexts links : List ℕ} {table : List ℤ} {pairs live at end : ℕ}
    (w : Standing code l cells blocks nexts links table pairs live at end) {cells' : List ℤ} {blocks' nexts' links' : List ℕ} {table' : List ℤ} {pairs' live' at' end' : ℕ}
    (w' : Standing code l cells' blocks' nexts' links' table' pairs' live' at' end') (f : Follows w w'.stack w'.program w'.name) (groups : List ℤ) where
  same-table : (fs : List Frame) → frame_step l w.stack ≡ acted (with_frames w.stack fs) → w'.stack.table ≡ w.stack.table
  unfolding with_frames stepped
  same-table fs e = ap (λ (v : Stack). v.table) f.is-stepped ∙ ap (λ (v : Stack). v.table) (same-acted f.moved (with_frames w.stack fs) (sym f.steps ∙ e))

  keeps : (fs : List Frame) → frame_step l w.stack ≡ acted (with_frames w.stack fs) → KeepsList l.limit table pairs groups table' pairs' groups
  keeps fs e past = subst (λ (t : Table). Beside l.limit past t groups) (sym w.table_is ∙ sym (same-table fs e) ∙ w'.table_is)

  pub left-lists : at ≡ end → KeepsList l.limit table pairs groups table' pairs' groups
  left-lists e = keeps w.below (leaving w e)

  pub jumped-lists : {home p : ℕ} → JumpsTo w home p → KeepsList l.limit table pairs groups table' pairs' groups
  jumped-lists j = keeps _ j.steps

  pub entered-lists : {body link back : ℕ} {cells'' : List ℤ} → EntersAt w body link back cells'' → KeepsList l.limit table pairs groups table' pairs' groups
  entered-lists n = keeps _ n.steps
