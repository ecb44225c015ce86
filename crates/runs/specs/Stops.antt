-- A stop leaves all as before the statement: the state left by a stopped run is the one that its done steps led to.
-- Read `Before l n s c k` as: after k steps, fewer than n, the run of k steps is spent in that same state, and the next
-- statement there has the cause c to stop; the offset is that statement's. So values, table and sheet are those before it.
use Rattle.std.specs.Prelude.{ℕ, ◌+◌, ◌<◌, ◌≢◌, ◌≡◌, []}
use Rattle.std.proofs.Common.{add-zero, sym, ap, ◌∙◌}
use Rattle.language.specs.Machine.{State, Limits, stop, step, next_offset, ends, run}
use Rattle.language.specs.Sheet.{sheet_words}
use Rattle.language.specs.declared.Stop.{Stop}
use Rattle.language.specs.declared.End.TheVariants.{Spent, Stopped}
use Rattle.runs.specs.Running.{run-spent}
use Rattle.runs.specs.Account.{Reached, account, run-reached, reached-steps}
use Rattle.runs.specs.Reasons.{stop-by}

pub record Before (l : Limits) (n : ℕ) (s : State) (c : Stop) (k : ℕ) : Type 0 where
  pub fewer : k < n
  pub steps : (run l n s).final.steps ≡ s.steps + k
  pub spent : run l k s ≡ ends Spent 0 (run l n s).final
  pub cause : step l (run l n s).final ≡ stop c
  pub offset : (run l n s).offset ≡ next_offset (run l n s).final

-- a state reached in k steps with an activation live is the state left by a run of k steps, which is spent
pub reached-spent : (l : Limits) {s t : State} {k : ℕ} → Reached l s k t → t.live ≢ [] → run l k s ≡ ends Spent 0 t
reached-spent l {s} {t} {k} r e = ap (λ i. run l i s) (sym (add-zero k)) ∙ run-reached l r 0 ∙ run-spent l t e

pub stop-before : (l : Limits) (n : ℕ) (s : State) (c : Stop) → (run l n s).end ≡ Stopped c → Before l n s c (account l n s).done
stop-before l n s c e =
    let r = run l n s in
    let a = account l n s in
    let h = stop-by l n a.done r.end r.offset r.final c a.reason e in
    record { fewer = h.0; steps = reached-steps l a.reached; spent = reached-spent l a.reached h.1; cause = h.3; offset = h.2 }

-- the sheet and the table of a stopped run are those of the run that did the same steps and no more
pub stop-leaves : (l : Limits) (n : ℕ) (s : State) (c : Stop) → (run l n s).end ≡ Stopped c → (k : ℕ) × (k < n) × ((run l k s).end ≡ Spent) × ((run l k s).final ≡ (run l n s).final) × (sheet_words (run l k s).final ≡ sheet_words (run l n s).final) × ((run l k s).final.table ≡ (run l n s).final.table)
unfolding ends
stop-leaves l n s c e =
    let b = stop-before l n s c e in
    let q : (run l (account l n s).done s).final ≡ (run l n s).final = ap (λ r. r.final) b.spent in
    ((account l n s).done, b.fewer, ap (λ r. r.end) b.spent, q, ap sheet_words q, ap (λ t. t.table) q)
