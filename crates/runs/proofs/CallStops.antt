-- A whole call is stopped exactly on its cause: `call-stopped-exactly`. The cause is said of the state in which the run ends, before the statement; the
-- offset that is reported is that statement's.
use Rattle.std.specs.Prelude.{ℕ, ◌+◌, ◌<◌, ◌↔◌, ◌≡◌, refl}
use Rattle.std.proofs.Common.{arith, ap, ◌∙◌, subst}
use Rattle.std.proofs.Math.Path.{sym}
use Rattle.language.specs.Text.{Block}
use Rattle.language.specs.Machine.{State, Limits, next_offset, run, start}
use Rattle.language.specs.Call.{Engine, Fed, Reply, limits_of, turned_away, replied, run_of, reply}
use Rattle.language.specs.declared.Stop.{Stop}
use Rattle.language.specs.declared.Refusal.{Refusal}
use Rattle.language.specs.declared.End.TheVariants.{Stopped, Refused}
use Rattle.runs.specs.Reasons.{clash}
use Rattle.runs.specs.Stops.{stop-before}
use Rattle.runs.specs.Admission.{Due, Admitted}
use Rattle.runs.specs.Calls.{reply-cases, admitted-reply, start-steps}
use Rattle.runs.specs.Causes.{StopDue}
use Rattle.runs.proofs.Stopping.{run-stops-exactly}

-- The call is admitted, and its run comes to a statement at o that has the cause, with a step left to do.
pub record CallStop (e : Engine) (f : Fed) (c : Stop) (o : ℕ) : Type 0 where
  pub program : Block
  pub admitted : Admitted e f program
  pub left : (run_of f program).final.steps < f.allowance
  pub due : StopDue (limits_of f) (run_of f program).final c
  pub stands : next_offset (run_of f program).final ≡ o

abbrev SaysStopped : Stop → ℕ → Reply → Type 0
SaysStopped c o r = (r.answer.end ≡ Stopped c) × (r.answer.offset ≡ o)

module _ (e : Engine) (f : Fed) (c : Stop) (o : ℕ) where
  away-not : (d : Refusal) (p : ℕ) → SaysStopped c o (turned_away f d p) → CallStop e f c o
  unfolding turned_away
  away-not d p q = clash (Refused d) (Stopped c) (omega arith) q.0

  ran-stopped : (t : Block) → Admitted e f t → SaysStopped c o (replied e f (run_of f t)) → CallStop e f c o
  unfolding replied run_of
  ran-stopped t h q =
      let s = start t f.lent.table in
      let w = (run-stops-exactly (limits_of f) f.allowance s c).0 q.0 in
      let b = stop-before (limits_of f) f.allowance s c q.0 in
      record { program = t; admitted = h; left = omega (arith, w.0, start-steps t f.lent.table); due = w.1; stands = sym b.offset ∙ q.1 }

  due-says : (w : CallStop e f c o) → SaysStopped c o (replied e f (run_of f w.program))
  unfolding replied run_of
  due-says w =
      let s = start w.program f.lent.table in
      let q = (run-stops-exactly (limits_of f) f.allowance s c).1 (omega (arith, w.left, start-steps w.program f.lent.table), w.due) in
      (q, (stop-before (limits_of f) f.allowance s c q).offset ∙ w.stands)

  pub call-stopped-exactly : (((reply e f).answer.end ≡ Stopped c) × ((reply e f).answer.offset ≡ o)) ↔ CallStop e f c o
  call-stopped-exactly =
      (reply-cases (λ r. SaysStopped c o r → CallStop e f c o) e f (λ d p h. away-not d p) ran-stopped, λ w. subst (SaysStopped c o) (sym (admitted-reply e f w.program w.admitted)) (due-says w))
