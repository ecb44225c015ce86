-- What an end says of the account that it stands in, one end at a time.
-- In each law: k of the n steps allowed were done, the end is e with the offset o, and t is the state left.
use Rattle.std.specs.Prelude.{ℕ, ◌≤◌, ◌<◌, ◌≢◌, ◌↔◌, ◌⊎◌, ◌≡◌, refl, []}
use Rattle.std.proofs.Common.{arith, inl, inr, sym, ap, ◌∙◌}
use Rattle.language.specs.Numbers.{end_number}
use Rattle.language.specs.Machine.{State, Limits, stop, cost, step, next_offset}
use Rattle.language.specs.declared.Stop.{Stop}
use Rattle.language.specs.declared.Refusal.{Refusal}
use Rattle.language.specs.declared.End.{End}
use Rattle.language.specs.declared.End.TheVariants.{Finished, Spent, Stopped, Refused}
use Rattle.runs.specs.Account.{TooDear, Reason}

-- the ends that differ in number are different
pub clash : {X : Type 0} (e f : End) → end_number e ≢ end_number f → e ≡ f → X
clash e f h q = absurd (h (ap end_number q))

pub done-at-most : (l : Limits) (n k : ℕ) (e : End) (o : ℕ) (t : State) → Reason l n k e o t → k ≤ n
done-at-most l n k Finished o t h = h.0
done-at-most l n k Spent o t h = omega (arith, h.0)
done-at-most l n k (Stopped c) o t h = omega (arith, h.0)
done-at-most l n k (Refused c) o t h = absurd h

pub refused-not : (l : Limits) (n k : ℕ) (e : End) (o : ℕ) (t : State) → Reason l n k e o t → (c : Refusal) → e ≢ Refused c
refused-not l n k Finished o t h c = clash Finished (Refused c) (omega arith)
refused-not l n k Spent o t h c = clash Spent (Refused c) (omega arith)
refused-not l n k (Stopped d) o t h c = clash (Stopped d) (Refused c) (omega arith)
refused-not l n k (Refused d) o t h c = absurd h

pub finished-iff : (l : Limits) (n k : ℕ) (e : End) (o : ℕ) (t : State) → Reason l n k e o t → (e ≡ Finished) ↔ (t.live ≡ [])
finished-iff l n k Finished o t h = (λ q. h.1, λ q. refl)
finished-iff l n k Spent o t h = (clash Spent Finished (omega arith), λ q. absurd (h.1 q))
finished-iff l n k (Stopped c) o t h = (clash (Stopped c) Finished (omega arith), λ q. absurd (h.1 q))
finished-iff l n k (Refused c) o t h = absurd h

-- a step that costs more than is left has no cause to stop
dear-goes : {X : Type 0} (l : Limits) (n k : ℕ) (t : State) (c : Stop) → (k ≡ n) ⊎ TooDear l n k t → k < n → step l t ≡ stop c → X
dear-goes l n k t c (inl e) h q = absurd (omega arith)
dear-goes l n k t c (inr d) h q = let z : ◌≡◌ {A = ℕ} 0 1 = cc d.1 in absurd (omega arith)

pub spent-iff : (l : Limits) (n k : ℕ) (e : End) (o : ℕ) (t : State) → Reason l n k e o t → (e ≡ Spent) ↔ ((t.live ≢ []) × ((k ≡ n) ⊎ TooDear l n k t))
spent-iff l n k Finished o t h = (clash Finished Spent (omega arith), λ q. absurd (q.0 h.1))
spent-iff l n k Spent o t h = (λ q. (h.1, h.3), λ q. refl)
spent-iff l n k (Stopped c) o t h = (clash (Stopped c) Spent (omega arith), λ q. dear-goes l n k t c q.1 h.0 h.3)
spent-iff l n k (Refused c) o t h = absurd h

-- as every step costs 1, none is left where one would cost more
pub none_left : (l : Limits) (n k : ℕ) (t : State) → k ≤ n → (k ≡ n) ⊎ TooDear l n k t → k ≡ n
unfolding cost
none_left l n k t h (inl e) = e
none_left l n k t h (inr d) = omega (arith, d.2)

pub stopped-iff : (l : Limits) (n k : ℕ) (e : End) (o : ℕ) (t : State) (c : Stop) → Reason l n k e o t → (e ≡ Stopped c) ↔ ((k < n) × (t.live ≢ []) × (step l t ≡ stop c))
stopped-iff l n k Finished o t c h = (clash Finished (Stopped c) (omega arith), λ q. absurd (q.1 h.1))
stopped-iff l n k Spent o t c h = (clash Spent (Stopped c) (omega arith), λ q. dear-goes l n k t c h.3 q.0 q.2)
stopped-iff l n k (Stopped d) o t c h = (λ q. (h.0, h.1, h.3 ∙ cc), λ q. let e : stop d ≡ stop c = sym h.3 ∙ q.2 in cc)
stopped-iff l n k (Refused d) o t c h = absurd h

pub offset-none : (l : Limits) (n k : ℕ) (e : End) (o : ℕ) (t : State) → Reason l n k e o t → ((c : Stop) → e ≢ Stopped c) → o ≡ 0
offset-none l n k Finished o t h q = h.2
offset-none l n k Spent o t h q = h.2
offset-none l n k (Stopped c) o t h q = absurd (q c refl)
offset-none l n k (Refused c) o t h q = absurd h

pub stop-by : (l : Limits) (n k : ℕ) (e : End) (o : ℕ) (t : State) (c : Stop) → Reason l n k e o t → e ≡ Stopped c → (k < n) × (t.live ≢ []) × (o ≡ next_offset t) × (step l t ≡ stop c)
stop-by l n k Finished o t c h q = clash Finished (Stopped c) (omega arith) q
stop-by l n k Spent o t c h q = clash Spent (Stopped c) (omega arith) q
stop-by l n k (Stopped d) o t c h q = (h.0, h.1, h.2, h.3 ∙ cc)
stop-by l n k (Refused d) o t c h q = absurd h
