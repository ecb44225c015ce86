-- How a run of at most n steps from the state s ends, and how many steps it did.
-- Read `(run l n s).final` as the state left, `.end` as the answer's end and `.steps` as the count of steps done since the start.
use Rattle.std.specs.Prelude.{ℕ, ◌+◌, ◌≤◌, ◌<◌, ◌≢◌, ◌↔◌, ◌≡◌, []}
use Rattle.std.proofs.Common.{arith, inl}
use Rattle.language.specs.Machine.{State, Limits, stop, step, run}
use Rattle.language.specs.declared.Stop.{Stop}
use Rattle.language.specs.declared.Refusal.{Refusal}
use Rattle.language.specs.declared.End.TheVariants.{Finished, Spent, Stopped, Refused}
use Rattle.runs.specs.Reasons.{done-at-most, refused-not, finished-iff, spent-iff, none_left, stopped-iff, offset-none}
use Rattle.runs.specs.Account.{account, reached-steps}

-- the steps of the state left are those of s and those done; the run's account says why it ended there
pub steps-done : (l : Limits) (n : ℕ) (s : State) → (run l n s).final.steps ≡ s.steps + (account l n s).done
steps-done l n s = reached-steps l (account l n s).reached

pub steps-at-most : (l : Limits) (n : ℕ) (s : State) → (run l n s).final.steps ≤ s.steps + n
steps-at-most l n s =
    let r = run l n s in
    omega (arith, steps-done l n s, done-at-most l n (account l n s).done r.end r.offset r.final (account l n s).reason)

-- a run is finished, spent or stopped
pub never-refused : (l : Limits) (n : ℕ) (s : State) (c : Refusal) → (run l n s).end ≢ Refused c
never-refused l n s = let r = run l n s in refused-not l n (account l n s).done r.end r.offset r.final (account l n s).reason

-- finished exactly where no activation is live
pub finished-exactly : (l : Limits) (n : ℕ) (s : State) → ((run l n s).end ≡ Finished) ↔ ((run l n s).final.live ≡ [])
finished-exactly l n s = let r = run l n s in finished-iff l n (account l n s).done r.end r.offset r.final (account l n s).reason

-- spent exactly where n steps were done and an activation is live
pub spent-exactly : (l : Limits) (n : ℕ) (s : State) → ((run l n s).end ≡ Spent) ↔ (((run l n s).final.steps ≡ s.steps + n) × ((run l n s).final.live ≢ []))
spent-exactly l n s =
    let r = run l n s in
    let a = account l n s in
    let h = spent-iff l n a.done r.end r.offset r.final a.reason in
    let few = done-at-most l n a.done r.end r.offset r.final a.reason in
    (λ q. (omega (arith, steps-done l n s, none_left l n a.done r.final few (h.0 q).1), (h.0 q).0), λ q. h.1 (q.1, inl (omega (arith, steps-done l n s, q.0))))

-- stopped exactly where fewer steps were done, an activation is live and its next statement has that cause to stop
pub stopped-exactly : (l : Limits) (n : ℕ) (s : State) (c : Stop) → ((run l n s).end ≡ Stopped c) ↔ (((run l n s).final.steps < s.steps + n) × ((run l n s).final.live ≢ []) × (step l (run l n s).final ≡ stop c))
stopped-exactly l n s c =
    let r = run l n s in
    let k = (account l n s).done in
    let h = stopped-iff l n k r.end r.offset r.final c (account l n s).reason in
    (λ q. (omega (arith, steps-done l n s, (h.0 q).0), (h.0 q).1, (h.0 q).2), λ q. h.1 (omega (arith, steps-done l n s, q.0), q.1, q.2))

-- the offset is 0 where no record is at fault
pub offset-else : (l : Limits) (n : ℕ) (s : State) → ((c : Stop) → (run l n s).end ≢ Stopped c) → (run l n s).offset ≡ 0
offset-else l n s = let r = run l n s in offset-none l n (account l n s).done r.end r.offset r.final (account l n s).reason
