-- The position of a name in a list, and what the list paired with values gives for it.
use Prim.Native.Nat.{ℕ, zero, suc, ◌+◌, ◌≤◌, ◌<◌}
use native.Mathlib.Omega.{arith}
use Rattle.std.proofs.Math.Path.{◌≡◌, refl, ap}
use Rattle.std.proofs.Common.{sym, ◌∙◌}
use Rattle.std.specs.Prelude.{Bool, length, get_or}
use Rattle.std.proofs.Math.Bool.{true, false}
use mathlib.Core.List.{List, [], ◌∷◌, ◌++◌}
use Rattle.std.proofs.Math.Option.{none, some}
use Rattle.std.proofs.Math.Dec.{eqb}
use Rattle.language.specs.Basics.{among, lookup, zip}
use Rattle.laws.specs.Lookup.{among_there, keys_zip, lookup-here, lookup-not-among, lookup-right, lookup-there}
use Rattle.frames.specs.Frame.{position_from}

pub position-empty : (n i : ℕ) → position_from n i [] ≡ none
unfolding position_from
position-empty n i = refl

module _ (n i x : ℕ) (xs : List ℕ) where
  pub position-hit : eqb n x ≡ true → position_from n i (x ∷ xs) ≡ some i
  unfolding position_from
  position-hit e = rw (e, position_from)

  pub position-miss : eqb n x ≡ false → position_from n i (x ∷ xs) ≡ position_from n (suc i) xs
  unfolding position_from
  position-miss e = rw (e, position_from)

-- a position counts from i and is one of the list's
pub position-range : (n i p : ℕ) (xs : List ℕ) → position_from n i xs ≡ some p → (i ≤ p) × (p < i + length xs)
unfolding position_from
position-range n i p [] h = absurd (let z : ◌≡◌ {A = ℕ} 0 1 = cc in omega arith)
position-range n i p (x ∷ xs) h = go (eqb n x) refl (position-range n (suc i) p xs)
  where
    go : (b : Bool) → eqb n x ≡ b → (position_from n (suc i) xs ≡ some p → (suc i ≤ p) × (p < suc i + length xs)) → (i ≤ p) × (p < i + suc (length xs))
    go true e f = let q : i ≡ p = cc (position-hit n i x xs e) in omega arith
    go false e f = let r = f (sym (position-miss n i x xs e) ∙ h) in omega arith

pub position-none : (n i : ℕ) (xs : List ℕ) → position_from n i xs ≡ none → among n xs ≡ false
unfolding among
position-none n i [] h = refl
position-none n i (x ∷ xs) h = go (eqb n x) refl (position-none n (suc i) xs)
  where
    go : (b : Bool) → eqb n x ≡ b → (position_from n (suc i) xs ≡ none → among n xs ≡ false) → among n (x ∷ xs) ≡ false
    go true e f = absurd (let z : ◌≡◌ {A = ℕ} 0 1 = cc (position-hit n i x xs e) in omega arith)
    go false e f = among_there n x xs e ∙ f (sym (position-miss n i x xs e) ∙ h)

module _ {A : Type 0} (d : A) (σ : List (ℕ × A)) (n : ℕ) where
  pub lookup-position : (i j : ℕ) (ks : List ℕ) (ys : List A) → length ks ≡ length ys → position_from n i ks ≡ some (i + j)
      → lookup n (zip ks ys ++ σ) ≡ some (get_or ys j d)
  unfolding zip position_from
  lookup-position i j [] ys l h = absurd (let z : ◌≡◌ {A = ℕ} 0 1 = cc in omega arith)
  lookup-position i j (k ∷ ks) [] l h = absurd (omega arith)
  lookup-position i j (k ∷ ks) (y ∷ ys) l h = go (eqb n k) refl j h (λ m. lookup-position (suc i) m ks ys (omega arith))
    where
      go : (b : Bool) → eqb n k ≡ b → (j : ℕ) → position_from n i (k ∷ ks) ≡ some (i + j)
          → ((m : ℕ) → position_from n (suc i) ks ≡ some (suc i + m) → lookup n (zip ks ys ++ σ) ≡ some (get_or ys m d))
          → lookup n ((k, y) ∷ (zip ks ys ++ σ)) ≡ some (get_or (y ∷ ys) j d)
      go true e j h f =
          let q : i ≡ i + j = cc (position-hit n i k ks e) in
          let z : j ≡ 0 = omega arith in
          rw z (lookup-here n (k, y) (zip ks ys ++ σ) e)
      go false e zero h f =
          let r = position-range n (suc i) (i + 0) ks (sym (position-miss n i k ks e) ∙ h) in
          absurd (omega arith)
      go false e (suc j) h f =
          let q : i + suc j ≡ suc i + j = omega arith in
          lookup-there n (k, y) (zip ks ys ++ σ) e ∙ f j (sym (position-miss n i k ks e) ∙ h ∙ ap some q)

  pub lookup-no-position : (i : ℕ) (ks : List ℕ) (ys : List A) → length ks ≡ length ys → position_from n i ks ≡ none → lookup n (zip ks ys ++ σ) ≡ lookup n σ
  lookup-no-position i ks ys l h = lookup-right n (zip ks ys) σ (lookup-not-among n (zip ks ys) (rw (keys_zip ks ys l) (position-none n i ks h)))
