-- Laws of `numbered`, which counts from 1: where an element stands, lists end to end, a list's last element, and a list read from its
-- other end.
use Prim.Native.Nat.{ℕ, zero, suc, pred, ◌-◌, ◌≤◌, ◌<◌}
use native.Mathlib.Omega.{arith}
use Rattle.std.proofs.Common.{not-suc-le-zero}
use mathlib.Core.List.{List, [], ◌∷◌, ◌++◌, reverse}
use Rattle.std.proofs.Math.Option.{none, some}
use Rattle.std.specs.Prelude.{◌≡◌, length, take, get_or}
use Rattle.std.proofs.Math.Path.{refl, ap}
use Rattle.std.proofs.Math.ListN.{get_elem?}
use Rattle.language.specs.Basics.{last?}
use Rattle.laws.specs.Tests.{none≢some}
use Rattle.laws.specs.Lists.{get_elem-none, get_elem-bound, get_elem-in, get_elem-append, get_elem-seam, get_elem_take, get_d-elem}
use Rattle.laws.specs.Reversed.{reverse-at}
use Rattle.frames.specs.Frame.{numbered}

module _ {A : Type 0} where
  pub numbered-suc : (xs : List A) (k : ℕ) → numbered xs (suc k) ≡ get_elem? xs k
  unfolding numbered
  numbered-suc xs k = refl

  pub numbered-zero : (xs : List A) (k : ℕ) → k ≤ 0 → numbered xs k ≡ none
  unfolding numbered
  numbered-zero xs zero h = refl
  numbered-zero xs (suc k) h = absurd (omega arith)

  pub numbered-past : (xs : List A) (k : ℕ) → length xs < k → numbered xs k ≡ none
  unfolding numbered
  numbered-past xs zero h = refl
  numbered-past xs (suc k) h = get_elem-none xs k (omega arith)

  pub numbered-low : (xs : List A) (k : ℕ) (a : A) → numbered xs k ≡ some a → 1 ≤ k
  unfolding numbered
  numbered-low xs zero a e = none≢some e
  numbered-low xs (suc k) a e = omega arith

  pub numbered-high : (xs : List A) (k : ℕ) (a : A) → numbered xs k ≡ some a → k ≤ length xs
  unfolding numbered
  numbered-high xs zero a e = omega arith
  numbered-high xs (suc k) a e = get_elem-bound xs k a e

  pub numbered-bounds : (xs : List A) (k : ℕ) (a : A) → numbered xs k ≡ some a → (1 ≤ k) × (k ≤ length xs)
  numbered-bounds xs k a e = (numbered-low xs k a e, numbered-high xs k a e)

  pub numbered-exists : (xs : List A) (k : ℕ) → 1 ≤ k → k ≤ length xs → (a : A) × (numbered xs k ≡ some a)
  unfolding numbered
  numbered-exists xs zero p h = absurd (not-suc-le-zero p)
  numbered-exists xs (suc k) p h = get_elem-in xs k h

  pub numbered-index : (xs : List A) (k : ℕ) (a : A) → numbered xs k ≡ some a → get_elem? xs (pred k) ≡ some a
  unfolding numbered
  numbered-index xs zero a e = none≢some e
  numbered-index xs (suc k) a e = e

  pub numbered-get_d : (xs : List A) (k : ℕ) (a d : A) → numbered xs k ≡ some a → get_or xs (pred k) d ≡ a
  numbered-get_d xs k a d e = get_d-elem xs (pred k) a d (numbered-index xs k a e)

  pub numbered-at : (xs : List A) (k : ℕ) → 1 ≤ k → numbered xs k ≡ get_elem? xs (k - 1)
  unfolding numbered
  numbered-at xs zero h = absurd (not-suc-le-zero h)
  numbered-at xs (suc k) h = let e : k ≡ suc k - 1 = omega arith in ap (get_elem? xs) e

  pub numbered-append : (xs ys : List A) (k : ℕ) → k ≤ length xs → numbered (xs ++ ys) k ≡ numbered xs k
  unfolding numbered
  numbered-append xs ys zero h = refl
  numbered-append xs ys (suc k) h = get_elem-append xs ys k h

  pub numbered-seam : (xs : List A) (y : A) → numbered (xs ++ (y ∷ [])) (suc (length xs)) ≡ some y
  unfolding numbered
  numbered-seam xs y = get_elem-seam xs y []

  pub numbered-take : (n : ℕ) (xs : List A) (k : ℕ) → k ≤ n → numbered (take n xs) k ≡ numbered xs k
  unfolding numbered
  numbered-take n xs zero h = refl
  numbered-take n xs (suc k) h = get_elem_take xs n k h

  pub numbered-reverse : (xs : List A) (j : ℕ) → 1 ≤ j → j ≤ length xs → numbered (reverse xs) j ≡ get_elem? xs (length xs - j)
  unfolding numbered
  numbered-reverse xs zero p h = absurd (not-suc-le-zero p)
  numbered-reverse xs (suc j) p h = reverse-at xs j h

  pub last-numbered : (xs : List A) → last? xs ≡ numbered xs (length xs)
  unfolding last? numbered
  last-numbered [] = refl
  last-numbered (x ∷ []) = refl
  last-numbered (x ∷ y ∷ ys) = last-numbered (y ∷ ys)
