-- What a run ends with: the frame machine's result, and the arrays hold its stack. `EndedFrom`: by how it has ended, from a stack at which so many
-- steps are done; `RunFrom`: from where an engine stands, and `from_start`: where that is the program's start. `spent-end`, `stopped-end`, `finished-end`: the three ends of a run that has come so far.
-- The links of a `Halt` are the chain engine's alone, and said there.
use Rattle.std.specs.Prelude.{ℕ, ◌+◌, ◌-◌, ◌≤◌, List, ◌≡◌, ℤ, length, set}
use Rattle.std.proofs.Common.{sym, ap, ◌∙◌, subst}
use Rattle.language.specs.Text.{Block}
use Rattle.language.specs.Machine.{Limits}
use Rattle.language.specs.declared.Stop.{Stop}
use Rattle.frames.specs.Frame.{Result, halted, designates, frame_step, frame_run, frame_start}
use Rattle.coordinates.proofs.Sound.{Sound}
use Rattle.steps.specs.Standing.{Standing}
use Rattle.steps.specs.Begun.{Begun, AtStart}
use Rattle.steps.specs.Underway as steps
use Rattle.run_state.specs.declared.Registers.{Registers}
use Rattle.run_state.specs.declared.Halt.{Halt}
use Rattle.run_state.specs.Halts.{finished_after, spent_after, stopped_after, named_by}

abbrev pub EndedFrom : ℕ → Block → ℕ → Limits → Result → Halt → List ℤ → List ℕ → List ℕ → List ℕ → List ℤ → Type 0
EndedFrom done program name l result r cells blocks nexts links table =
    steps.EndedFrom done program name l result r.end r.steps r.offset r.pairs r.live r.designator cells blocks nexts links table

abbrev pub RunFrom : {code : List ℕ} {l : Limits} {cells : List ℤ} {blocks nexts links : List ℕ} {table : List ℤ} {pairs live at end : ℕ}
    → Standing code l cells blocks nexts links table pairs live at end → ℕ → Halt → List ℤ → List ℕ → List ℕ → List ℕ → List ℤ → Type 0
RunFrom {l = l} w allowance r cells' blocks' nexts' links' table' =
    EndedFrom w.stack.steps w.program w.name l (frame_run l allowance w.stack) r cells' blocks' nexts' links' table'

pub from_start : {code : List ℕ} {l : Limits} {cells : List ℤ} {blocks nexts links : List ℕ} {table : List ℤ} {pairs limit activations used live at end : ℕ}
    {b : Begun code cells table pairs limit activations} (w : Standing code l cells blocks nexts links table used live at end) → AtStart b w
    → (allowance : ℕ) (r : Halt) {cells' : List ℤ} {blocks' nexts' links' : List ℕ} {table' : List ℤ}
    → RunFrom w allowance r cells' blocks' nexts' links' table'
    → EndedFrom 0 b.program b.name l (frame_run l allowance (frame_start b.program (record { words = table; used = pairs }))) r cells' blocks' nexts' links' table'
unfolding frame_start
from_start {l = l} w s allowance r {cells'} {blocks'} {nexts'} {links'} {table'} =
    subst (λ (T : Type 0). T)
    (λ i. EndedFrom (s.stack_is i).steps (s.program-is i) (s.name-is i) l (frame_run l allowance (s.stack_is i)) r cells' blocks' nexts' links' table')

module _ {done : ℕ} {program : Block} {name allowance : ℕ} {result : Result} {code : List ℕ} {l : Limits} {cells : List ℤ} {blocks nexts links : List ℕ}
    {table : List ℤ} {left : ℕ} (here : Registers) (w : Standing code l cells blocks nexts links table here.pairs here.live here.at here.end)
    (u : steps.UnderwayFrom done program name allowance result w left) where
  -- what a run leaves is sound
  sound : Sound l program result.final
  sound = subst (λ (T : Type 0). T) (λ i. Sound l (u.same-program i) (sym u.runs i).final) (steps.leaves-sound-from w left)

  -- activations are left live: the place of the innermost one is put with the others, and the name is looked up
  module _ (nexts' : List ℕ) (noted : nexts' ≡ set nexts here.live here.at) (designator : ℕ) (found : designator ≡ designates w.stack.frames w.name)
      (counted : ℕ) (halt r : Halt) (named : r ≡ named_by halt designator counted) where
    abbrev Ends : Halt → List ℕ → Type 0
    Ends h ns = EndedFrom done program name l result h cells blocks ns links table

    reports : (h : Halt) → halt ≡ h → Ends (named_by h designator counted) (set nexts here.live here.at) → Ends r nexts'
    reports h is = subst (λ (T : Type 0). T) (λ i. Ends (sym (named ∙ ap (λ (x : Halt). named_by x designator counted) is) i) (sym noted i))

    pub spent-end : left ≡ 0 → halt ≡ spent_after here allowance → Ends r nexts'
    spent-end z is = reports (spent_after here allowance) is (steps.spent w u z sound designator found)

    pub stopped-end : (c : Stop) → frame_step l w.stack ≡ halted c → 1 ≤ left → halt ≡ stopped_after here c (allowance - left) → Ends r nexts'
    stopped-end c stop more is = reports (stopped_after here c (allowance - left)) is (steps.stopped w u c stop more sound designator found)

  pub finished-end : here.at ≡ here.end → here.live ≡ 0 → 1 ≤ left → (cells' : List ℤ) (blocks' nexts' links' : List ℕ) (table' : List ℤ)
      → cells' ≡ cells → table' ≡ table → (r : Halt) → r ≡ finished_after here (allowance - left + 1)
      → EndedFrom done program name l result r cells' blocks' nexts' links' table'
  finished-end ended alone more cells' blocks' nexts' links' table' same-cells same-table r is =
      subst (λ (h : Halt). EndedFrom done program name l result h cells' blocks' nexts' links' table') (sym is)
      (steps.finished w u ended alone more sound cells' blocks' nexts' links' table' same-table (ap length same-cells ∙ w.cells-long))
