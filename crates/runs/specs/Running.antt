-- The copy-rule machine by its parts (`Machines` in laws), and its run (`run-runs`), by any bound above the steps allowed (`within-runs`). So the rules of a run are equations:
-- `run-finished`, `run-spent`, `run-stopped` and `run-did`.
use Prim.Native.Nat.{ℕ, zero, suc, ◌-◌, ◌≤◌, ◌<◌}
use Rattle.std.proofs.Common.{arith}
use Rattle.std.proofs.Math.Bool.{true, false}
use Rattle.std.specs.Prelude.{[], ◌≢◌, ◌≡◌, refl, leb}
use Rattle.std.proofs.Math.ListN.{length}
use Rattle.language.specs.Machine.{Activation, State, Limits, Outcome, Done, did, stop, cost, counted, step, next_offset, ends, run_within, run}
use Rattle.language.specs.declared.Stop.{Stop}
use Rattle.language.specs.declared.End.TheVariants.{Finished, Spent, Stopped}
use Rattle.laws.specs.Lists.{by-elements}
use Rattle.laws.specs.Machines.{Machine, Runs, finished, spent, stopped, gone, only_one, runs-live, runs_fit}

pub some-cost : (s s' : State) → 1 ≤ cost s s'
unfolding cost
some-cost s s' = omega arith

pub some-live : (s : State) → s.live ≢ [] → 1 ≤ length s.live
some-live s h = by-elements s.live (λ e. absurd (h e)) (λ k. k)

module _ (l : Limits) where
  pub one-step : (s t u : State) → step l s ≡ did t → step l s ≡ did u → t ≡ u
  one-step s t u g h = cc

  pub one-cause : (s : State) (c d : Stop) → step l s ≡ stop c → step l s ≡ stop d → c ≡ d
  one-cause s c d x y = cc

  pub not-both : (s t : State) (c : Stop) → step l s ≡ did t → step l s ≡ stop c → ⊥
  not-both s t c g x = let z : ◌≡◌ {A = ℕ} 0 1 = cc in omega arith

  abbrev pub copied : Machine State Activation Outcome
  copied =
      record {
        live = λ s. s.live;
        Goes = λ s s'. step l s ≡ did s';
        Stops = λ s c. step l s ≡ stop c;
        cost = cost;
        counted = counted;
        offset = next_offset;
        ends = ends;
        one-step = one-step;
        one-cause = one-cause;
        not-both = not-both;
      }

  pub within-runs : (bound n : ℕ) (s : State) → n < bound → Runs copied n s (run_within bound l n s)
  unfolding run_within
  within-runs zero n s h = absurd {0} (omega arith)
  within-runs (suc b) zero s h = runs-live copied s (ends Spent 0 s) (λ k. spent k refl)
  within-runs (suc b) (suc n) s h = runs-live copied s _ (λ k. on k (λ m t f. within-runs b m t (omega arith)) (step l s) refl)
    where
      on : 1 ≤ length s.live → ((m : ℕ) (t : State) → m ≤ n → Runs copied m t (run_within b l m t)) → (d : Done) → step l s ≡ d
          → Runs copied (suc n) s (elim d [ stop c ↦ ends (Stopped c) (next_offset s) s | did s' ↦ elim (leb (cost s s') (suc n)) [ true ↦ run_within b l (suc n - cost s s') (counted s s') | false ↦ ends Spent 0 s ] ])
      on k f (stop c) e = stopped {n = suc n} c k (omega arith) e
      on k f (did s') e = runs_fit copied {n = suc n} s s' _ k (omega arith) e (f (suc n - cost s s') (counted s s') (omega (arith, some-cost s s')))

  pub run-runs : (n : ℕ) (s : State) → Runs copied n s (run l n s)
  unfolding run
  run-runs n s = within-runs (suc n) n s (omega arith)

  -- with nothing live a run is finished, whatever is allowed
  pub run-finished : (n : ℕ) (s : State) → s.live ≡ [] → run l n s ≡ ends Finished 0 s
  run-finished n s e = only_one copied (run-runs n s) (finished e)

  pub run-spent : (s : State) → s.live ≢ [] → run l 0 s ≡ ends Spent 0 s
  run-spent s e = only_one copied (run-runs 0 s) (spent (some-live s e) refl)

  pub run-stopped : (n : ℕ) (s : State) (c : Stop) → s.live ≢ [] → 1 ≤ n → step l s ≡ stop c → run l n s ≡ ends (Stopped c) (next_offset s) s
  run-stopped n s c e k d = only_one copied (run-runs n s) (stopped c (some-live s e) k d)

  pub run-did : (n : ℕ) (s s' : State) → s.live ≢ [] → step l s ≡ did s' → cost s s' ≤ n → run l n s ≡ run l (n - cost s s') (counted s s')
  run-did n s s' e d f =
      only_one copied (run-runs n s) (gone s' (some-live s e) (omega (arith, some-cost s s')) d f (run-runs (n - cost s s') (counted s s')))
