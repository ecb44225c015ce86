-- A statement leaves the count of steps as it was (`step_counts`): the run counts the step that is done, which costs 1 (`costs-one`).
use Rattle.std.specs.Prelude.{ℕ, ◌≤◌, ◌≡◌, refl, length}
use Rattle.std.proofs.Common.{subst}
use Rattle.language.specs.Text.{Action, CL, GO, IF, KN, AR, AD, RM, QY, Stmt, BK, DO}
use Rattle.language.specs.Machine.{Limits}
use Rattle.frames.specs.Frame.{Stack, acted, with_frames, table_changed, frame_cost, designates, map_action, act, act_stmt, frame_step}
use Rattle.frames.specs.Running.{After}
use Rattle.frame_laws.specs.Actions.{does, stores}
use Rattle.frame_laws.specs.Cases.{enter-cases, call-cases, go-cases, if-cases, compute-cases, add-cases, remove-cases, ask-cases, step-cases}

pub costs-one : (s s' : Stack) → frame_cost s s' ≡ 1
unfolding frame_cost
costs-one s s' = refl

module _ (l : Limits) (n : ℕ) where
  abbrev Counted : Stack → Type 0
  Counted s = s.steps ≡ n

  act-counts : (s : Stack) (a : Action) → Counted s → After Counted (act l s a)
  unfolding with_frames table_changed
  act-counts s (CL p xs) h = call-cases l s (After Counted) (λ c. tt) p xs h (λ d e a r. h)
  act-counts s (GO x) h = go-cases l s (After Counted) (λ c. tt) x h (λ f d e g. h)
  act-counts s (IF v x) h = if-cases l s (After Counted) (λ c. tt) v x h (go-cases l s (After Counted) (λ c. tt) x h (λ f d e g. h))
  act-counts s (KN t z) h = rw (stores l s t z) h
  act-counts s (AR t o a b) h = compute-cases l s (After Counted) (λ c. tt) t o a b (λ z q. h)
  act-counts s (AD x y) h = add-cases l s (After Counted) (λ c. tt) x y h (λ g m k a z f. h)
  act-counts s (RM x y) h = remove-cases l s (After Counted) (λ c. tt) x y (λ g m. h)
  act-counts s (QY t x y) h = ask-cases l s (After Counted) (λ c. tt) t x y (λ z q. h)

  stmt-counts : (s : Stack) (x : Stmt) → Counted s → After Counted (act_stmt l s x)
  unfolding with_frames
  stmt-counts s (BK b) h = enter-cases l s (After Counted) (λ c. tt) b (λ r. h)
  stmt-counts s (DO at a) h = rw (does l s at a) (act-counts s (map_action (designates s.frames) a) h)

  after-counts : (s : Stack) → 1 ≤ length s.frames → Counted s → After Counted (frame_step l s)
  unfolding with_frames
  after-counts s some-live h = step-cases l s (After Counted) some-live (λ pre f e q. h) (λ pre f x e q. stmt-counts (with_frames s _) x h)

pub step_counts : (l : Limits) (s s' : Stack) → 1 ≤ length s.frames → frame_step l s ≡ acted s' → s'.steps ≡ s.steps
step_counts l s s' h e = subst (After (λ v. v.steps ≡ s.steps)) e (after-counts l s.steps s h refl)
