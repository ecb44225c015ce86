-- The definitions ask of the names seen only which they are, not in what order. Assumes nothing.
use mathlib.Core.Path.{◌≡◌, refl, sym, ◌∙◌, ap, fun_ext}
use mathlib.Core.Bool.{Bool, true, false}
use mathlib.Core.List.{List, [], ◌∷◌, ◌++◌}
use Prim.Native.Nat.{ℕ, zero, suc}
use lib.Dec.{eqb}
use lib.ListN.{get_or}
use Rattle.language.specs.Basics.{among}
use Rattle.language.specs.Structure.{Reader, ◌>>=◌, ◌>>◌, formal_marks, take-record, kind, formals}

abbrev pub Same : List ℕ → List ℕ → Type 0
Same xs ys = (n : ℕ) → among n xs ≡ among n ys

hit : (n x : ℕ) (xs : List ℕ) → eqb n x ≡ true → among n (x ∷ xs) ≡ true
unfolding among
hit n x xs e = rw (e, among)

miss : (n x : ℕ) (xs : List ℕ) → eqb n x ≡ false → among n (x ∷ xs) ≡ among n xs
unfolding among
miss n x xs e = rw (e, among)

pub same-cons : (x : ℕ) (xs ys : List ℕ) → Same xs ys → Same (x ∷ xs) (x ∷ ys)
same-cons x xs ys h n = go (eqb n x) refl
  where
    go : (b : Bool) → eqb n x ≡ b → among n (x ∷ xs) ≡ among n (x ∷ ys)
    go true e = hit n x xs e ∙ sym (hit n x ys e)
    go false e = miss n x xs e ∙ h n ∙ sym (miss n x ys e)

-- a name put after, or in front
swapped : (n x y : ℕ) (xs : List ℕ) → among n (x ∷ y ∷ xs) ≡ among n (y ∷ x ∷ xs)
swapped n x y xs = go (eqb n x) (eqb n y) refl refl
  where
    go : (a b : Bool) → eqb n x ≡ a → eqb n y ≡ b → among n (x ∷ y ∷ xs) ≡ among n (y ∷ x ∷ xs)
    go true true p q = hit n x (y ∷ xs) p ∙ sym (hit n y (x ∷ xs) q)
    go true false p q = hit n x (y ∷ xs) p ∙ sym (miss n y (x ∷ xs) q ∙ hit n x xs p)
    go false true p q = miss n x (y ∷ xs) p ∙ hit n y xs q ∙ sym (hit n y (x ∷ xs) q)
    go false false p q = miss n x (y ∷ xs) p ∙ miss n y xs q ∙ sym (miss n y (x ∷ xs) q ∙ miss n x xs p)

pub same-snoc : (xs : List ℕ) (x : ℕ) → Same (x ∷ xs) (xs ++ (x ∷ []))
same-snoc [] x n = refl
same-snoc (y ∷ xs) x n = swapped n x y xs ∙ same-cons y (x ∷ xs) (xs ++ (x ∷ [])) (same-snoc xs x) n

pub then_same : {A B : Type 0} (m : Reader A) {f g : A → Reader B} → ((a : A) → f a ≡ g a) → (m >>= f) ≡ (m >>= g)
then_same m h = ap (λ k. m >>= k) (fun_ext h)

pub formals-same : (p : ℕ) (xs ys : List ℕ) → Same xs ys → formals p xs ≡ formals p ys
unfolding formals ◌>>◌
formals-same zero xs ys h = refl
formals-same (suc p) xs ys h =
    then_same (take-record formal_marks) λ r.
    then_same (kind r.at (get_or r.fields 1 0)) λ k.
    rw (h (get_or r.fields 0 0), formals-same p (get_or r.fields 0 0 ∷ xs) (get_or r.fields 0 0 ∷ ys) (same-cons (get_or r.fields 0 0) xs ys h))
