-- A whole call is refused exactly on its cause, with the offset of the record at fault where there is one: `call-refused-exactly`. Of a script that is at fault
-- `Fault` says how; the check itself is cited nowhere.
use Rattle.std.specs.Prelude.{ℕ, ◌↔◌, ◌≡◌, refl}
use Rattle.std.proofs.Common.{ap, ◌∙◌, subst}
use Rattle.language.specs.Text.{Block}
use Rattle.language.specs.Encoding.{encode}
use Rattle.language.specs.Call.{Engine, Fed, Reply, tests_before, tests_after, turned_away, reply}
use Rattle.language.specs.declared.Refusal.{Refusal}
use Rattle.language.specs.declared.End.TheVariants.{Refused}
use Rattle.laws.specs.Order.{AllHold, FailsFirst}
use Rattle.grammar.specs.Rules.{Bytes, Keeps}
use Rattle.grammar.proofs.Exact.{accepts-exactly}
use Rattle.runs.specs.Admission.{Due, before-check, by-check, after_check}
use Rattle.runs.specs.Calls.{due-reply, refused-due}
use Rattle.causes.specs.Faults.{Fault}
use Rattle.causes.proofs.Exact.{faulted, fault-refused}

-- The cause of a refusal: a test before the script's, the script, or a test after it, where the script is that of a program.
pub data CallFault (e : Engine) (f : Fed) : Refusal → ℕ → Type 0 where
  by-test : {c : Refusal} → FailsFirst (tests_before e f) c → CallFault e f c 0
  by-script : {c : Refusal} {o : ℕ} → AllHold (tests_before e f) → Fault f.script c o → CallFault e f c o
  by-area : {c : Refusal} (t : Block) → AllHold (tests_before e f) → f.script ≡ encode t → Keeps t → FailsFirst (tests_after e f) c → CallFault e f c 0

away-end : (f : Fed) (c : Refusal) (o : ℕ) → ((turned_away f c o).answer.end ≡ Refused c) × ((turned_away f c o).answer.offset ≡ o)
unfolding turned_away
away-end f c o = (refl, refl)

module _ (e : Engine) (f : Fed) (bytes : Bytes f.script) where
  due-fault : {c : Refusal} {o : ℕ} → Due e f c o → CallFault e f c o
  due-fault (before-check d) = by-test d
  due-fault (by-check h) = by-script h.0 (faulted f.script bytes _ _ h.1)
  due-fault (after_check {t = t} h d) = let k = (accepts-exactly f.script bytes t).0 h.1 in by-area t h.0 k.0 k.1 d

  fault-due : {c : Refusal} {o : ℕ} → CallFault e f c o → Due e f c o
  fault-due (by-test d) = before-check d
  fault-due (by-script h x) = by-check (h, fault-refused f.script _ _ x)
  fault-due (by-area t h s k d) = after_check {t = t} (h, (accepts-exactly f.script bytes t).1 (s, k)) d

  pub call-refused-exactly : (c : Refusal) (o : ℕ) → (((reply e f).answer.end ≡ Refused c) × ((reply e f).answer.offset ≡ o)) ↔ CallFault e f c o
  call-refused-exactly c o = (λ q. subst (CallFault e f c) q.1 (due-fault (refused-due e f c q.0)), λ x. says (due-reply e f (fault-due x)))
    where
      says : reply e f ≡ turned_away f c o → ((reply e f).answer.end ≡ Refused c) × ((reply e f).answer.offset ≡ o)
      says r = (ap (λ (x : Reply). x.answer.end) r ∙ (away-end f c o).0, ap (λ (x : Reply). x.answer.offset) r ∙ (away-end f c o).1)
