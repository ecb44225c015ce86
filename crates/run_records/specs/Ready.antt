-- What leaving and jumping ask holds of an engine between two steps (`leave-ready`, `jump-ready`), and the end that they find is that of the text (`end-found`).
use Rattle.std.specs.Prelude.{ℕ, suc, ◌+◌, ◌-◌, ◌≤◌, ◌<◌, List, ◌≡◌, ℤ, get_or}
use Rattle.std.proofs.Common.{arith, sym, ap, ◌∙◌}
use Rattle.std.proofs.Math.Option.{some}
use Rattle.language.specs.Machine.{Limits}
use Rattle.laws.specs.Lists.{get_elem-in}
use Rattle.frames.specs.Frame.{Frame, numbered}
use Rattle.frames.specs.Numbered.{numbered-index}
use Rattle.resolved.specs.Resolved.{end_place}
use Rattle.resolved.specs.Layout.{end_in}
use Rattle.steps.specs.Standing.{Standing}
use Rattle.steps.specs.Here.{many, live-few}
use Rattle.steps.specs.Reads.{block_within, end-there, end-here}

module _ {code : List ℕ} {l : Limits} {cells : List ℤ} {blocks nexts links : List ℕ} {table : List ℤ} {pairs live at end : ℕ} (w : Standing code l cells blocks nexts links table pairs live at end) where
  within : (k : ℕ) → k ≤ live → get_or blocks k 0 + 1 < 4096
  within k h =
      let f = get_elem-in w.stack.frames k (omega (arith, many w)) in
      omega (arith, block_within w k f.0 f.1)

  pub leave-ready : 1 ≤ live → (1 ≤ live) × (live ≤ 256) × (get_or blocks (live - 1) 0 + 1 < 4096)
  leave-ready h = (h, omega (arith, live-few w), within (live - 1) (omega arith))

  pub jump-ready : (home : ℕ) → home ≤ live → (home < 256) × (get_or blocks home 0 + 1 < 4096) × (home ≡ live → end ≡ end_in (get_or code (get_or blocks home 0 + 1) 0))
  jump-ready home h = (omega (arith, live-few w), within home h, λ q. sym (ap (λ k. end_in (get_or code (get_or blocks k 0 + 1) 0)) q ∙ end-here w))

  pub end-found : (k : ℕ) (f : Frame) → numbered w.stack.frames (suc k) ≡ some f → end_in (get_or code (get_or blocks k 0 + 1) 0) ≡ end_place f.text
  end-found k f e = end-there w k f (numbered-index w.stack.frames (suc k) f e)
