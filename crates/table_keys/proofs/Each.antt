-- A test of each of the first numbers.
use Prim.Native.Nat.{ℕ, zero, suc, ◌+◌, ◌<◌}
use mathlib.Core.Path.{◌≡◌, refl, ◌∙◌, ap}
use mathlib.Core.Bool.{Bool, true, false, ◌&&◌, and-false}
use native.Mathlib.Omega.{arith}
use borrow.Author.Tests.{ltb-true, ltb-false}
use lib.Dec.{ltb}
use Rattle.laws.specs.Tests.{never}
use Rattle.table_keys.specs.Keys.{each}

pub each_none : (p : ℕ → Bool) → each p 0 ≡ true
unfolding each
each_none p = refl

-- below the next number: below this one, or this one
pub below_next {ℓ} : {X : Type ℓ} (x n : ℕ) → (x < n → X) → (x ≡ n → X) → x < n + 1 → X
below_next {X} x n f g h = go (ltb x n) refl
  where
    go : (t : Bool) → ltb x n ≡ t → X
    go true e = f (ltb-true x n e)
    go false e = g (omega (arith, ltb-false x n e))

module _ (p : ℕ → Bool) where
  pub each-false : (n i : ℕ) → i < n → p i ≡ false → each p n ≡ false
  unfolding each
  each-false zero i h e = absurd (omega arith)
  each-false (suc k) i h e = go (λ l. each-false k i l e) (ltb i k) refl
    where
      go : (i < k → each p k ≡ false) → (t : Bool) → ltb i k ≡ t → (each p k && p k) ≡ false
      go ih true q = rw (ih (ltb-true i k q))
      go ih false q = let z : k ≡ i = omega (arith, ltb-false i k q) in rw (z, e) (and-false (each p i))

  pub each-true : (n : ℕ) → ((i : ℕ) → i < n → p i ≡ true) → each p n ≡ true
  unfolding each
  each-true zero h = refl
  each-true (suc k) h = rw (each-true k (λ i l. h i (omega arith)), h k (omega arith))

  pub each_at : (n i : ℕ) → each p n ≡ true → i < n → p i ≡ true
  each_at n i e h = go (p i) refl
    where
      go : (t : Bool) → p i ≡ t → t ≡ true
      go true q = refl
      go false q = never e (each-false n i h q)

  pub each_next : (n : ℕ) → each p n ≡ true → p n ≡ true → each p (suc n) ≡ true
  unfolding each
  each_next n e q = rw (e, q)

  pub each-is : (f : ℕ → Bool) (n : ℕ) → f 0 ≡ true → ((i : ℕ) → i < n → f (suc i) ≡ (f i && p i)) → f n ≡ each p n
  unfolding each
  each-is f zero e h = e
  each-is f (suc k) e h = h k (omega arith) ∙ ap (λ (t : Bool). t && p k) (each-is f k e (λ i l. h i (omega arith)))

pub each_same : (p q : ℕ → Bool) (n : ℕ) → ((i : ℕ) → i < n → p i ≡ q i) → each p n ≡ each q n
unfolding each
each_same p q zero h = refl
each_same p q (suc k) h = rw (each_same p q k (λ i l. h i (omega arith)), h k (omega arith))
