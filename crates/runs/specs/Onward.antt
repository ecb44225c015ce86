-- Running n steps and then m more from there is running n + m steps: `run-onward`. Whatever the end was and the steps cost, a run goes on from where it
-- ended as one of the steps done, which the state counts, and m more does from the start: `run-carried`.
use Rattle.std.specs.Prelude.{ℕ, ◌+◌, ◌-◌, ◌≡◌}
use Rattle.std.proofs.Common.{arith, sym, ap, ◌∙◌}
use Rattle.language.specs.Machine.{State, Limits, Outcome, ends, run}
use Rattle.language.specs.declared.End.{End}
use Rattle.language.specs.declared.End.TheVariants.{Finished, Spent, Stopped, Refused}
use Rattle.runs.specs.Running.{run-finished, run-stopped}
use Rattle.runs.specs.Account.{Reached, Reason, account, run-reached, reached-steps}
use Rattle.runs.specs.Reasons.{none_left}

-- m steps more from the state left, where the steps allowed were spent; any other end is the end
unfoldable pub onward : Limits → ℕ → Outcome → Outcome
onward l m r = elim r.end [ Finished ↦ r | Spent ↦ run l m r.final | Stopped c ↦ r | Refused c ↦ r ]

-- by the end e of the run so far, of which k steps were done
onward-by : (l : Limits) (n m k : ℕ) (s t : State) (e : End) (o : ℕ) → Reached l s k t → Reason l n k e o t → run l (n + m) s ≡ onward l m (ends e o t)
unfolding onward ends
onward-by l n m k s t Finished o r h =
    let j : k + (n - k + m) ≡ n + m = omega (arith, h.0) in
    ap (λ i. run l i s) (sym j) ∙ run-reached l r (n - k + m) ∙ run-finished l (n - k + m) t h.1 ∙ ap (λ i. ends Finished i t) (sym h.2)
onward-by l n m k s t Spent o r h = ap (λ i. run l (i + m) s) (sym (none_left l n k t h.0 h.3)) ∙ run-reached l r m
onward-by l n m k s t (Stopped c) o r h =
    let j : k + (n - k + m) ≡ n + m = omega (arith, h.0) in
    ap (λ i. run l i s) (sym j) ∙ run-reached l r (n - k + m) ∙ run-stopped l (n - k + m) t c h.1 (omega (arith, h.0)) h.3 ∙ ap (λ i. ends (Stopped c) i t) (sym h.2)
onward-by l n m k s t (Refused c) o r h = absurd h

pub run-onward : (l : Limits) (n m : ℕ) (s : State) → run l (n + m) s ≡ onward l m (run l n s)
unfolding ends
run-onward l n m s = let r = run l n s in let a = account l n s in onward-by l n m a.done s r.final r.end r.offset a.reached a.reason

pub run-carried : (l : Limits) (n m k : ℕ) (s : State) → (run l n s).final.steps ≡ s.steps + k → run l (k + m) s ≡ run l m (run l n s).final
run-carried l n m k s e =
    let a = account l n s in
    let done : k ≡ a.done = omega (arith, e, reached-steps l a.reached) in
    ap (λ i. run l (i + m) s) done ∙ run-reached l a.reached m
