-- The account of a run: steps were done, one after another, at some cost, and then the run ended for one of three reasons: `account`.
use Rattle.std.specs.Prelude.{ℕ, ◌+◌, ◌-◌, ◌≤◌, ◌<◌, ◌≢◌, ◌⊎◌, ◌≡◌, refl, [], length}
use Rattle.std.proofs.Common.{zero-le, zero-add, arith, inl, inr, sym, ap, subst, ◌∙◌}
use Rattle.language.specs.Machine.{State, Limits, Outcome, did, stop, cost, counted, with_live, with_table, advance, store, enter, step, next_offset, ends, run}
use Rattle.language.specs.declared.End.{End}
use Rattle.language.specs.declared.End.TheVariants.{Finished, Spent, Stopped, Refused}
use Rattle.laws.specs.Machines.{Runs, finished, spent, stopped, short, gone}
use Rattle.runs.specs.Running.{copied, run-runs, run-did}
use Rattle.runs.specs.Moves.{Kept, After, step_keeps}

-- `Reached l s k t`: steps that cost k together, each with an activation live, lead from s to t
pub data Reached (l : Limits) : State → ℕ → State → Type 0 where
  no_step : {s : State} → Reached l s 0 s
  a-step : {s s' t : State} {k : ℕ} → s.live ≢ [] → step l s ≡ did s' → Reached l (counted s s') k t → Reached l s (cost s s' + k) t

-- after the steps done the run goes on from there
pub run-reached : (l : Limits) {s t : State} {k : ℕ} → Reached l s k t → (m : ℕ) → run l (k + m) s ≡ run l m t
run-reached l no_step m = rw zero-add
run-reached l (a-step {s = s} {s' = s'} {k = k} e d r) m =
    let j : cost s s' + k + m - cost s s' ≡ k + m = omega arith in
    run-did l (cost s s' + k + m) s s' e d (omega arith) ∙ ap (λ i. run l i (counted s s')) j ∙ run-reached l r m

-- a step leaves the count of steps to `counted`
steps-kept : (l : Limits) (j : ℕ) → Kept l (λ t. t.steps ≡ j)
unfolding with_live with_table advance store enter
steps-kept l j =
    record { left = λ s h. h; advanced = λ s a e h. h; stored = λ s x z h. h; entered = λ s a b e n r h. h; called = λ s p xs i e g r h. h; jumped = λ s x i e h. h; added = λ s g m n a z f h. h; removed = λ s g m h. h }

pub reached-steps : (l : Limits) {s t : State} {k : ℕ} → Reached l s k t → t.steps ≡ s.steps + k
unfolding counted
reached-steps l no_step = omega arith
reached-steps l (a-step {s = s} {s' = s'} {t = t} {k = k} e d r) =
    let h : s'.steps ≡ s.steps = subst (After (λ u. u.steps ≡ s.steps)) d (step_keeps l (λ u. u.steps ≡ s.steps) (steps-kept l s.steps) s refl) in
    let q : t.steps ≡ s'.steps + cost s s' + k = reached-steps l r in
    omega arith

-- of n steps allowed k are done, and the next one, which has no cause to stop, costs more than is left
abbrev pub TooDear : Limits → ℕ → ℕ → State → Type 0
TooDear l n k t = (t' : State) × (step l t ≡ did t') × (n < k + cost t t')

-- Why a run that was allowed n steps ended after k of them, in the state t with the offset o.
abbrev pub Reason : Limits → ℕ → ℕ → End → ℕ → State → Type 0
Reason l n k Finished o t = (k ≤ n) × (t.live ≡ []) × (o ≡ 0)
Reason l n k Spent o t = (k ≤ n) × (t.live ≢ []) × (o ≡ 0) × ((k ≡ n) ⊎ TooDear l n k t)
Reason l n k (Stopped c) o t = (k < n) × (t.live ≢ []) × (o ≡ next_offset t) × (step l t ≡ stop c)
Reason l n k (Refused c) o t = ⊥

pub record Account (l : Limits) (n : ℕ) (s : State) (r : Outcome) : Type 0 where
  pub done : ℕ
  pub reached : Reached l s done r.final
  pub reason : Reason l n done r.end r.offset r.final

later : (l : Limits) (n k c : ℕ) (t : State) → c ≤ n → (k ≡ n - c) ⊎ TooDear l (n - c) k t → (c + k ≡ n) ⊎ TooDear l n (c + k) t
later l n k c t f (inl e) = inl (omega arith)
later l n k c t f (inr d) = inr (d.0, d.1, omega (arith, d.2))

one_more : (l : Limits) (n k c : ℕ) (e : End) (o : ℕ) (t : State) → c ≤ n → Reason l (n - c) k e o t → Reason l n (c + k) e o t
one_more l n k c Finished o t f h = (omega (arith, h.0), h.1, h.2)
one_more l n k c Spent o t f h = (omega (arith, h.0), h.1, h.2, later l n k c t f h.3)
one_more l n k c (Stopped d) o t f h = (omega (arith, h.0), h.1, h.2, h.3)
one_more l n k c (Refused d) o t f h = h

some-live : (s : State) → 1 ≤ length s.live → s.live ≢ []
some-live s h e = omega (arith, ap length e)

of-run : (l : Limits) {n : ℕ} {s : State} {r : Outcome} → Runs (copied l) n s r → Account l n s r
unfolding ends
of-run l (finished e) = record { done = 0; reached = no_step; reason = (zero-le, e, refl) }
of-run l {s = s} (spent h z) = record { done = 0; reached = no_step; reason = (zero-le, some-live s h, refl, inl (sym z)) }
of-run l {s = s} (stopped c h k x) = record { done = 0; reached = no_step; reason = (k, some-live s h, refl, x) }
of-run l {s = s} (short s' h k g f) = record { done = 0; reached = no_step; reason = (zero-le, some-live s h, refl, inr (s', g, omega arith)) }
of-run l {n} {s} {r} (gone s' h k g f rest) =
    let a = of-run l rest in
    record {
      done = cost s s' + a.done;
      reached = a-step (some-live s h) g a.reached;
      reason = one_more l n a.done (cost s s') r.end r.offset r.final f a.reason;
    }

pub account : (l : Limits) (n : ℕ) (s : State) → Account l n s (run l n s)
account l n s = of-run l (run-runs l n s)
