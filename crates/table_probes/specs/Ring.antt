-- Places in a ring: the one after the last is the first.
use Rattle.std.specs.Prelude.{ℕ, suc, ◌+◌, ◌-◌, ◌%◌, ◌≤◌, ◌<◌, ◌≡◌, refl, Bool, true, false, ltb}
use Rattle.std.proofs.Common.{sym, ◌∙◌, ap, mod-eq_of_lt, arith, ltb-true, ltb-false, lt-ltb, le-ltb}
use Rattle.std.proofs.Math.Nat.{mod_self}

-- the place after q, of `size`
unfoldable pub next : ℕ → ℕ → ℕ
next size q = elim (ltb (suc q) size) [ true ↦ suc q | false ↦ 0 ]

-- how many steps lead from place a on to q
unfoldable pub ahead : ℕ → ℕ → ℕ → ℕ
ahead size a q = elim (ltb q a) [ true ↦ q + (size - a) | false ↦ q - a ]

pub next-on : (size q : ℕ) → suc q < size → next size q ≡ suc q
unfolding next
next-on size q h = rw (lt-ltb (suc q) size h, next)

pub next-round : (size q : ℕ) → size ≤ suc q → next size q ≡ 0
unfolding next
next-round size q h = rw (le-ltb (suc q) size h, next)

ahead_before : (size a q : ℕ) → q < a → ahead size a q ≡ q + (size - a)
unfolding ahead
ahead_before size a q h = rw (lt-ltb q a h, ahead)

ahead_after : (size a q : ℕ) → a ≤ q → ahead size a q ≡ q - a
unfolding ahead
ahead_after size a q h = rw (le-ltb q a h, ahead)

-- the place and the distance, by which side of a the place is
by-ahead {ℓ} : {X : Type ℓ} (size a q : ℕ) → (q < a → ahead size a q ≡ q + (size - a) → X) → (a ≤ q → ahead size a q ≡ q - a → X) → X
by-ahead {X} size a q f g = go (ltb q a) refl
  where
    go : (b : Bool) → ltb q a ≡ b → X
    go true e = let h = ltb-true q a e in f h (ahead_before size a q h)
    go false e = let h = ltb-false q a e in g h (ahead_after size a q h)

pub by_next {ℓ} : {X : Type ℓ} (size q : ℕ) → (suc q < size → next size q ≡ suc q → X) → (size ≤ suc q → next size q ≡ 0 → X) → X
by_next {X} size q f g = go (ltb (suc q) size) refl
  where
    go : (b : Bool) → ltb (suc q) size ≡ b → X
    go true e = let h = ltb-true (suc q) size e in f h (next-on size q h)
    go false e = let h = ltb-false (suc q) size e in g h (next-round size q h)

-- as code has it: the remainder of the sum
pub next-is : (size q : ℕ) → q < size → (q + 1) % size ≡ next size q
next-is size q h =
    by_next size q
    (λ l e. mod-eq_of_lt (omega arith) ∙ (omega arith))
    (λ l e. ap (◌% size) (omega arith) ∙ mod_self size ∙ sym e)

pub next-below : (size q : ℕ) → q < size → next size q < size
next-below size q h = by_next size q (λ l e. omega arith) (λ l e. omega arith)

pub ahead-self : (size a : ℕ) → ahead size a a ≡ 0
ahead-self size a = by-ahead size a a (λ l e. absurd (omega arith)) (λ l e. omega arith)

module _ (size a : ℕ) (start : a < size) where
  pub ahead-below : (q : ℕ) → q < size → ahead size a q < size
  ahead-below q h = by-ahead size a q (λ l e. omega arith) (λ l e. omega arith)

  pub ahead-next : (q : ℕ) → q < size → (next size q ≡ a → ⊥) → ahead size a (next size q) ≡ suc (ahead size a q)
  ahead-next q h other =
      by-ahead size a q
      (λ l e. by-ahead size a (next size q) (λ m d. by_next size q (λ k p. omega arith) (λ k p. omega arith)) (λ m d. by_next size q (λ k p. absurd (omega arith)) (λ k p. absurd (omega arith))))
      (λ l e. by-ahead size a (next size q) (λ m d. by_next size q (λ k p. absurd (omega arith)) (λ k p. omega arith)) (λ m d. by_next size q (λ k p. omega arith) (λ k p. absurd (omega arith))))

  -- none is farther than the last before a
  pub ahead-last : (q x : ℕ) → q < size → x < size → next size q ≡ a → ahead size a x ≤ ahead size a q
  ahead-last q x h k r =
      by_next size q
      (λ l e. by-ahead size a q (λ m d. omega (arith, ahead-below x k)) (λ m d. absurd (omega arith)))
      (λ l e. by-ahead size a q (λ m d. absurd (omega arith)) (λ m d. omega (arith, ahead-below x k)))

  pub ahead-same : (q x : ℕ) → q < size → x < size → ahead size a q ≡ ahead size a x → q ≡ x
  ahead-same q x h k r =
      by-ahead size a q
      (λ l e. by-ahead size a x (λ m d. omega arith) (λ m d. absurd (omega arith)))
      (λ l e. by-ahead size a x (λ m d. absurd (omega arith)) (λ m d. omega arith))
