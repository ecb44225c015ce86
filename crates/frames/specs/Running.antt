-- The frame machine by its parts (`Machines` in laws), and its run (`run-runs`), by any bound above the steps allowed (`within-runs`). So the rules of a run are equations:
-- `run-finished`, `run-spent`, `run-stops` and `run-steps`; and what every step keeps is had by the stack that a run leaves (`run-keeps`). The stacks
-- of a run are those that its shorter runs leave.
use Prim.Native.Nat.{ℕ, zero, suc, ◌-◌, ◌≤◌, ◌<◌}
use Rattle.std.proofs.Common.{arith}
use Rattle.std.proofs.Math.Bool.{true, false}
use Rattle.std.specs.Prelude.{[], ◌≡◌, refl, leb}
use Rattle.std.proofs.Math.ListN.{length}
use Rattle.language.specs.Machine.{Limits}
use Rattle.language.specs.declared.Stop.{Stop}
use Rattle.language.specs.declared.End.TheVariants.{Finished, Spent, Stopped}
use Rattle.laws.specs.Machines.{Machine, Runs, finished, spent, stopped, gone, only_one, runs-live, runs_fit, runs-keep}
use Rattle.frames.specs.Frame.{Frame, Stack, Acted, acted, halted, frame_cost, stepped, frame_step, frame_offset, Result, results, frame_run_within, frame_run}

pub some-cost : (s s' : Stack) → 1 ≤ frame_cost s s'
unfolding frame_cost
some-cost s s' = omega arith

module _ (l : Limits) where
  pub one-step : (s t u : Stack) → frame_step l s ≡ acted t → frame_step l s ≡ acted u → t ≡ u
  one-step s t u g h = cc

  pub one-cause : (s : Stack) (c d : Stop) → frame_step l s ≡ halted c → frame_step l s ≡ halted d → c ≡ d
  one-cause s c d x y = cc

  pub not-both : (s t : Stack) (c : Stop) → frame_step l s ≡ acted t → frame_step l s ≡ halted c → ⊥
  not-both s t c g x = let z : ◌≡◌ {A = ℕ} 0 1 = cc in omega arith

  abbrev pub framed : Machine Stack Frame Result
  framed =
      record {
        live = λ s. s.frames;
        Goes = λ s s'. frame_step l s ≡ acted s';
        Stops = λ s c. frame_step l s ≡ halted c;
        cost = frame_cost;
        counted = stepped;
        offset = frame_offset;
        ends = results;
        one-step = one-step;
        one-cause = one-cause;
        not-both = not-both;
      }

  pub within-runs : (bound n : ℕ) (s : Stack) → n < bound → Runs framed n s (frame_run_within bound l n s)
  unfolding frame_run_within
  within-runs zero n s h = absurd {0} (omega arith)
  within-runs (suc b) zero s h = runs-live framed s (results Spent 0 s) (λ k. spent k refl)
  within-runs (suc b) (suc n) s h = runs-live framed s _ (λ k. on k (λ m t f. within-runs b m t (omega arith)) (frame_step l s) refl)
    where
      on : 1 ≤ length s.frames → ((m : ℕ) (t : Stack) → m ≤ n → Runs framed m t (frame_run_within b l m t)) → (d : Acted) → frame_step l s ≡ d
          → Runs framed (suc n) s (elim d [ halted c ↦ results (Stopped c) (frame_offset s) s | acted s' ↦ elim (leb (frame_cost s s') (suc n)) [ true ↦ frame_run_within b l (suc n - frame_cost s s') (stepped s s') | false ↦ results Spent 0 s ] ])
      on k f (halted c) e = stopped {n = suc n} c k (omega arith) e
      on k f (acted s') e = runs_fit framed {n = suc n} s s' _ k (omega arith) e (f (suc n - frame_cost s s') (stepped s s') (omega (arith, some-cost s s')))

  pub run-runs : (n : ℕ) (s : Stack) → Runs framed n s (frame_run l n s)
  unfolding frame_run
  run-runs n s = within-runs (suc n) n s (omega arith)

  module _ (s : Stack) where
    pub run-finished : (n : ℕ) → s.frames ≡ [] → frame_run l n s ≡ results Finished 0 s
    run-finished n e = only_one framed (run-runs n s) (finished e)

    pub run-spent : 1 ≤ length s.frames → frame_run l 0 s ≡ results Spent 0 s
    run-spent h = only_one framed (run-runs 0 s) (spent h refl)

    pub run-stops : (n : ℕ) (c : Stop) → 1 ≤ length s.frames → 1 ≤ n → frame_step l s ≡ halted c → frame_run l n s ≡ results (Stopped c) (frame_offset s) s
    run-stops n c h k e = only_one framed (run-runs n s) (stopped c h k e)

    pub run-steps : (n : ℕ) (s' : Stack) → 1 ≤ length s.frames → frame_step l s ≡ acted s' → frame_cost s s' ≤ n → frame_run l n s ≡ frame_run l (n - frame_cost s s') (stepped s s')
    run-steps n s' h e f = only_one framed (run-runs n s) (gone s' h (omega (arith, some-cost s s')) e f (run-runs (n - frame_cost s s') (stepped s s')))

  pub run-keeps : (P : Stack → Type 0) → ((s s' : Stack) → 1 ≤ length s.frames → frame_step l s ≡ acted s' → P s → P (stepped s s')) → (n : ℕ) (s : Stack) → P s → P (frame_run l n s).final
  unfolding results
  run-keeps P keeps n s = runs-keep framed P (λ r. P r.final) (λ e o t p. p) keeps (run-runs n s)

-- a property of the stack that a statement or a step leaves, where it did not stop
abbrev pub After : (Stack → Type 0) → Acted → Type 0
After P (acted s) = P s
After P (halted c) = Unit {0}
