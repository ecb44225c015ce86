-- Sums over the first numbers.
use Rattle.std.specs.Prelude.{ℕ, zero, suc, ◌+◌, ◌≤◌, ◌<◌, ◌≡◌, refl, Bool, true, false, ltb}
use Rattle.std.proofs.Common.{ap₂, arith, ltb-true, ltb-false}

unfoldable pub total : (ℕ → ℕ) → ℕ → ℕ
total f zero = 0
total f (suc n) = total f n + f n

pub total-none : (f : ℕ → ℕ) → total f 0 ≡ 0
unfolding total
total-none f = refl

pub total-next : (f : ℕ → ℕ) (n : ℕ) → total f (suc n) ≡ total f n + f n
unfolding total
total-next f n = refl

-- below the next number: below this one, or this one
by_last {ℓ} : {X : Type ℓ} (p n : ℕ) → p < suc n → (p < n → X) → (p ≡ n → X) → X
by_last {X} p n l f g = go (ltb p n) refl
  where
    go : (b : Bool) → ltb p n ≡ b → X
    go true e = f (ltb-true p n e)
    go false e = g (omega (arith, ltb-false p n e))

pub total-alike : (f g : ℕ → ℕ) (n : ℕ) → ((p : ℕ) → p < n → f p ≡ g p) → total f n ≡ total g n
unfolding total
total-alike f g zero h = refl
total-alike f g (suc n) h = ap₂ ◌+◌ (total-alike f g n (λ p l. h p (omega arith))) (h n (omega arith))

pub total-both : (f g : ℕ → ℕ) (n : ℕ) → total (λ p. f p + g p) n ≡ total f n + total g n
unfolding total
total-both f g zero = omega arith
total-both f g (suc n) = omega (arith, total-both f g n)

-- the first m, and n more
pub total-more : (f : ℕ → ℕ) (m n : ℕ) → total f (m + n) ≡ total f m + total (λ p. f (m + p)) n
unfolding total
total-more f m zero = let e : m + 0 ≡ m = omega arith in rw e (omega arith)
total-more f m (suc n) = let e : m + suc n ≡ suc (m + n) = omega arith in rw e (omega (arith, total-more f m n))

pub total_first : (f : ℕ → ℕ) (n : ℕ) → total f (suc n) ≡ f 0 + total (λ p. f (suc p)) n
unfolding total
total_first f zero = omega arith
total_first f (suc n) = omega (arith, total_first f n)

pub total-rises : (f g : ℕ → ℕ) (n : ℕ) → ((p : ℕ) → p < n → f p ≤ g p) → total f n ≤ total g n
unfolding total
total-rises f g zero h = omega arith
total-rises f g (suc n) h = omega (arith, total-rises f g n (λ p l. h p (omega arith)), h n (omega arith))

-- where none is larger and the sums are equal, all are equal
pub total-equal : (f g : ℕ → ℕ) (n : ℕ) → ((p : ℕ) → p < n → f p ≤ g p) → total f n ≡ total g n → (p : ℕ) → p < n → f p ≡ g p
unfolding total
total-equal f g zero h e p l = absurd (omega arith)
total-equal f g (suc n) h e p l =
    let few = total-rises f g n (λ p l. h p (omega arith)) in
    let last = h n (omega arith) in
    by_last p n l
    (λ b. total-equal f g n (λ p l. h p (omega arith)) (omega (arith, few, last)) p b)
    (λ z. rw z (omega (arith, few, last)))

pub total-zero : (f : ℕ → ℕ) (n : ℕ) → ((p : ℕ) → p < n → f p ≡ 0) → total f n ≡ 0
unfolding total
total-zero f zero h = refl
total-zero f (suc n) h = omega (arith, total-zero f n (λ p l. h p (omega arith)), h n (omega arith))

-- all but one are 0
pub total-one : (f : ℕ → ℕ) (n p : ℕ) → p < n → ((q : ℕ) → q < n → (q ≡ p → ⊥) → f q ≡ 0) → total f n ≡ f p
unfolding total
total-one f zero p l h = absurd (omega arith)
total-one f (suc n) p l h =
    by_last p n l
    (λ b. omega (arith, total-one f n p b (λ q k d. h q (omega arith) d), h n (omega arith) (λ z. omega arith)))
    (λ z. rw z (omega (arith, total-zero f n (λ q k. h q (omega arith) (λ y. omega arith)))))

-- one is not 0
pub record Some (f : ℕ → ℕ) (n : ℕ) : Type 0 where
  pub place : ℕ
  pub within : place < n
  pub some : 1 ≤ f place

pub total-some : (f : ℕ → ℕ) (n : ℕ) → 1 ≤ total f n → Some f n
unfolding total
total-some f zero h = absurd (omega arith)
total-some f (suc n) h = go (ltb 0 (f n)) refl (total-some f n)
  where
    go : (b : Bool) → ltb 0 (f n) ≡ b → (1 ≤ total f n → Some f n) → Some f (suc n)
    go true e before = record { place = n; within = omega arith; some = ltb-true 0 (f n) e }
    go false e before =
        let s = before (omega (arith, ltb-false 0 (f n) e)) in
        record { place = s.place; within = omega (arith, s.within); some = s.some }
