-- What a step says where a run ends with it: the program is left (`LeavesProgram`), or the statement has a cause to stop and nothing is written (`Stops`).
-- `pairs_after`: the pairs in use once it is done.
use Rattle.std.specs.Prelude.{ℕ, zero, suc, ◌≤◌, List, ◌≡◌, refl, ℤ}
use Rattle.std.proofs.Common.{arith}
use Rattle.language.specs.Machine.{Limits}
use Rattle.language.specs.declared.Stop.{Stop}
use Rattle.frames.specs.Frame.{Stack, halted, frame_step}
use Rattle.run_state.specs.declared.Registers.{Registers}
use Rattle.run_state.specs.declared.Turn.{Turn}
use Rattle.run_state.specs.declared.Turn.TheVariants.{Went, Finished, Stopped}

abbrev pub pairs_after : Registers → Turn → ℕ
pairs_after here (Went next) = next.pairs
pairs_after here Finished = here.pairs
pairs_after here (Stopped c) = here.pairs

pub record LeavesProgram (here : Registers) (cells table cells' table' : List ℤ) : Type 0 where
  pub ended : here.at ≡ here.end
  pub alone : here.live ≡ 0
  pub same-cells : cells' ≡ cells
  pub same-table : table' ≡ table

-- what a step may write, before and after
pub record Stops (l : Limits) (s : Stack) (c : Stop) {A : Type 0} (before after : A) : Type 0 where
  pub stops : frame_step l s ≡ halted c
  pub same : after ≡ before

pub above_zero : (n : ℕ) → (n ≡ 0 → ⊥) → 1 ≤ n
above_zero zero d = absurd (d refl)
above_zero (suc n) d = omega arith
