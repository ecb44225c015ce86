-- A property of the activations and the frames side by side, each pair with its index.
use Prim.Native.Nat.{ℕ, zero, suc, ◌+◌, ◌<◌}
use Rattle.std.proofs.Common.{arith, add-suc, subst}
use Rattle.std.proofs.Math.Nat.{add-zero, suc-add}
use Rattle.std.specs.Prelude.{◌≡◌, length, take, set}
use Rattle.std.proofs.Math.Path.{refl, ap}
use mathlib.Core.List.{List, [], ◌∷◌, ◌++◌}
use Rattle.std.proofs.Math.Option.{some}
use Rattle.std.proofs.Math.ListN.{get_elem?}
use Rattle.laws.specs.Tests.{none≢some, some_inj}

unfoldable pub Both : {A B : Type 0} → (ℕ → A → B → Type 0) → ℕ → List A → List B → Type 0
Both P k [] [] = Unit {0}
Both P k [] (f ∷ fs) = ⊥
Both P k (a ∷ l) [] = ⊥
Both P k (a ∷ l) (f ∷ fs) = P k a f × Both P (suc k) l fs

module _ {A B : Type 0} (P : ℕ → A → B → Type 0) where
  pub both-length : (k : ℕ) (l : List A) (fs : List B) → Both P k l fs → length l ≡ length fs
  unfolding Both
  both-length k [] [] h = refl
  both-length k [] (f ∷ fs) h = absurd h
  both-length k (a ∷ l) [] h = absurd h
  both-length k (a ∷ l) (f ∷ fs) h = ap suc (both-length (suc k) l fs h.1)

  -- the pair at an index
  pub both_at : (k : ℕ) (l : List A) (fs : List B) → Both P k l fs → (j : ℕ) (a : A) → get_elem? l j ≡ some a → (f : B) × (get_elem? fs j ≡ some f) × P (k + j) a f
  unfolding Both
  both_at k [] [] h j a e = none≢some e
  both_at k [] (f ∷ fs) h j a e = absurd h
  both_at k (b ∷ l) [] h j a e = absurd h
  both_at k (b ∷ l) (f ∷ fs) h zero a e = (f, refl, rw add-zero (subst (λ (x : A). P k x f) (some_inj e) h.0))
  both_at k (b ∷ l) (f ∷ fs) h (suc j) a e = let r = both_at (suc k) l fs h.1 j a e in (r.0, r.1, rw (add-suc k j, ← suc-add k j) r.2)

  pub both-take : (k m : ℕ) (l : List A) (fs : List B) → Both P k l fs → Both P k (take m l) (take m fs)
  unfolding Both
  both-take k zero [] [] h = tt
  both-take k (suc m) [] [] h = tt
  both-take k m [] (f ∷ fs) h = absurd h
  both-take k m (a ∷ l) [] h = absurd h
  both-take k zero (a ∷ l) (f ∷ fs) h = tt
  both-take k (suc m) (a ∷ l) (f ∷ fs) h = (h.0, both-take (suc k) m l fs h.1)

  pub both-snoc : (k : ℕ) (l : List A) (fs : List B) (a : A) (f : B) → Both P k l fs → P (k + length l) a f → Both P k (l ++ (a ∷ [])) (fs ++ (f ∷ []))
  unfolding Both
  both-snoc k [] [] a f h p = (rw add-zero at p, tt)
  both-snoc k [] (g ∷ fs) a f h p = absurd h
  both-snoc k (b ∷ l) [] a f h p = absurd h
  both-snoc k (b ∷ l) (g ∷ fs) a f h p = (h.0, both-snoc (suc k) l fs a f h.1 (rw (add-suc k (length l), ← suc-add k (length l)) at p))

  -- the last pair, and all before it
  pub both-unsnoc : (k : ℕ) (l : List A) (a : A) (fs : List B) → Both P k (l ++ (a ∷ [])) fs → (gs : List B) × (f : B) × (fs ≡ gs ++ (f ∷ [])) × Both P k l gs × P (k + length l) a f
  unfolding Both
  both-unsnoc k [] a [] h = absurd h
  both-unsnoc k [] a (f ∷ []) h = ([], f, refl, tt, rw add-zero h.0)
  both-unsnoc k [] a (f ∷ g ∷ fs) h = absurd h.1
  both-unsnoc k (b ∷ l) a [] h = absurd h
  both-unsnoc k (b ∷ l) a (f ∷ fs) h =
      let r = both-unsnoc (suc k) l a fs h.1 in
      (f ∷ r.0, r.1, ap (f ∷◌) r.2, (h.0, r.3), rw (add-suc k (length l), ← suc-add k (length l)) r.4)

-- from one property to another, pair by pair
pub both-map : {A B : Type 0} (P Q : ℕ → A → B → Type 0) (k : ℕ) (l : List A) (fs : List B) → ((j : ℕ) (a : A) (f : B) → j < length l → get_elem? l j ≡ some a → get_elem? fs j ≡ some f → P (k + j) a f → Q (k + j) a f) → Both P k l fs → Both Q k l fs
unfolding Both
both-map P Q k [] [] g h = tt
both-map P Q k [] (f ∷ fs) g h = absurd h
both-map P Q k (a ∷ l) [] g h = absurd h
both-map P Q k (a ∷ l) (f ∷ fs) g h = (
  rw add-zero at (g 0 a f (omega arith) refl refl (rw add-zero h.0)),
  both-map P Q (suc k) l fs (λ j b c i e e' p. rw (add-suc k j, ← suc-add k j) at (g (suc j) b c (omega arith) e e' (rw (add-suc k j, ← suc-add k j) p))) h.1,
)

-- one of the second list's elements replaced
pub both-set : {A B : Type 0} (P Q : ℕ → A → B → Type 0) (k j : ℕ) (l : List A) (fs : List B) (f f' : B) → get_elem? fs j ≡ some f → ((i : ℕ) (a : A) (g : B) → (i ≡ j → ⊥) → get_elem? l i ≡ some a → P (k + i) a g → Q (k + i) a g) → ((a : A) → get_elem? l j ≡ some a → P (k + j) a f → Q (k + j) a f') → Both P k l fs → Both Q k l (set fs j f')
unfolding Both
both-set P Q k j [] [] f f' e others this h = none≢some e
both-set P Q k j [] (g ∷ fs) f f' e others this h = absurd h
both-set P Q k j (a ∷ l) [] f f' e others this h = absurd h
both-set {B = B} P Q k zero (a ∷ l) (g ∷ fs) f f' e others this h = (
  rw add-zero at (this a refl (rw add-zero (subst (λ (x : B). P k a x) (some_inj e) h.0))),
  both-map P Q (suc k) l fs (λ i b c n q q' p. rw (add-suc k i, ← suc-add k i) at (others (suc i) b c (λ z. omega arith) q (rw (add-suc k i, ← suc-add k i) p))) h.1,
)
both-set P Q k (suc j) (a ∷ l) (g ∷ fs) f f' e others this h = (
  rw add-zero at (others 0 a g (λ z. omega arith) refl (rw add-zero h.0)),
  both-set P Q (suc k) j l fs f f' e (λ i b c n q p. rw (add-suc k i, ← suc-add k i) at (others (suc i) b c (λ z. n (omega arith)) q (rw (add-suc k i, ← suc-add k i) p))) (λ b q p. rw (add-suc k j, ← suc-add k j) at (this b q (rw (add-suc k j, ← suc-add k j) p))) h.1,
)
