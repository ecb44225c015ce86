-- How many names a record has, by its mark.
-- Assumes nothing.
use mathlib.Core.Logic.{◌⊎◌, inl, inr}
use mathlib.Core.Path.{◌≡◌}
use Prim.Native.Nat.{ℕ}
use borrow.Author.Tests.{ne_eqb}
use Rattle.language.specs.Encoding.{BK-mark, QY-mark, AD-mark, RM-mark, IF-mark, AR-mark, CL-mark}
use Rattle.resolve_fields.specs.Taking.{leading, trailing}

module _ (m : ℕ) where
  pub leading-BK : m ≡ BK-mark → 0 ≡ leading m
  unfolding leading
  leading-BK e = rw e

  pub leading-QY : m ≡ QY-mark → 3 ≡ leading m
  unfolding leading
  leading-QY e = rw e

  leading-AD : m ≡ AD-mark → 2 ≡ leading m
  unfolding leading
  leading-AD e = rw e

  leading-RM : m ≡ RM-mark → 2 ≡ leading m
  unfolding leading
  leading-RM e = rw e

  leading-IF : m ≡ IF-mark → 2 ≡ leading m
  unfolding leading
  leading-IF e = rw e

  pub leading-two : m ≡ AD-mark ⊎ (m ≡ IF-mark ⊎ m ≡ RM-mark) → 2 ≡ leading m
  leading-two (inl e) = leading-AD e
  leading-two (inr (inl e)) = leading-IF e
  leading-two (inr (inr e)) = leading-RM e

  pub leading-other : (m ≡ BK-mark → ⊥) → (m ≡ QY-mark → ⊥) → (m ≡ AD-mark → ⊥) → (m ≡ RM-mark → ⊥) → (m ≡ IF-mark → ⊥) → 1 ≡ leading m
  unfolding leading
  leading-other b q a r i = rw (ne_eqb m BK-mark b, ne_eqb m QY-mark q, ne_eqb m AD-mark a, ne_eqb m RM-mark r, ne_eqb m IF-mark i, leading)

  pub trailing-AR : (a : ℕ) → m ≡ AR-mark → 2 ≡ trailing m a
  unfolding trailing
  trailing-AR a e = rw e

  pub trailing-CL : (a : ℕ) → m ≡ CL-mark → a ≡ trailing m a
  unfolding trailing
  trailing-CL a e = rw e

  pub trailing-other : (a : ℕ) → (m ≡ AR-mark → ⊥) → (m ≡ CL-mark → ⊥) → 0 ≡ trailing m a
  unfolding trailing
  trailing-other a r c = rw (ne_eqb m AR-mark r, ne_eqb m CL-mark c, trailing)
