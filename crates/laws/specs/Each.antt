-- Lists of which every element has a property.
use Rattle.std.specs.Prelude.{ℕ, zero, suc, ◌≡◌, take, get_or, set}
use Rattle.std.proofs.Math.Path.{subst}
use mathlib.Core.List.{List, [], ◌∷◌, ◌++◌}
use Rattle.std.proofs.Math.Option.{some}
use Rattle.std.proofs.Math.ListN.{get_elem?}
use Rattle.language.specs.Basics.{last?, but_last}
use Rattle.laws.specs.Tests.{none≢some, some_inj}

abbrev pub Each : {A : Type 0} → (A → Type 0) → List A → Type 0
Each P [] = Unit {0}
Each P (x ∷ xs) = P x × Each P xs

module _ {A : Type 0} where
  pub each_map : (P Q : A → Type 0) (xs : List A) → ((x : A) → P x → Q x) → Each P xs → Each Q xs
  each_map P Q [] f h = tt
  each_map P Q (x ∷ xs) f h = (f x h.0, each_map P Q xs f h.1)

  pub each-pair : (P Q : A → Type 0) (xs : List A) → Each P xs → Each Q xs → Each (λ x. P x × Q x) xs
  each-pair P Q [] h k = tt
  each-pair P Q (x ∷ xs) h k = ((h.0, k.0), each-pair P Q xs h.1 k.1)

  pub each-unit : (xs : List A) → Each (λ x. Unit {0}) xs
  each-unit [] = tt
  each-unit (x ∷ xs) = (tt, each-unit xs)

  -- rows against columns
  pub each-swap : (R : A → A → Type 0) (xs ys : List A) → Each (λ x. Each (λ y. R x y) ys) xs → Each (λ y. Each (λ x. R x y) xs) ys
  each-swap R [] ys h = each-unit ys
  each-swap R (x ∷ xs) ys h = each-pair (λ y. R x y) (λ y. Each (λ x'. R x' y) xs) ys h.0 (each-swap R xs ys h.1)

  module _ (P : A → Type 0) where
    -- a list of two parts
    pub each_append : (xs ys : List A) → Each P xs → Each P ys → Each P (xs ++ ys)
    each_append [] ys h k = k
    each_append (x ∷ xs) ys h k = (h.0, each_append xs ys h.1 k)

    pub each_first : (xs ys : List A) → Each P (xs ++ ys) → Each P xs
    each_first [] ys h = tt
    each_first (x ∷ xs) ys h = (h.0, each_first xs ys h.1)

    pub each-second : (xs ys : List A) → Each P (xs ++ ys) → Each P ys
    each-second [] ys h = h
    each-second (x ∷ xs) ys h = each-second xs ys h.1

    pub each_take : (n : ℕ) (xs : List A) → Each P xs → Each P (take n xs)
    each_take zero xs h = tt
    each_take (suc n) [] h = tt
    each_take (suc n) (x ∷ xs) h = (h.0, each_take n xs h.1)

    pub each_set : (xs : List A) (n : ℕ) (a : A) → P a → Each P xs → Each P (set xs n a)
    each_set [] n a p h = tt
    each_set (x ∷ xs) zero a p h = (p, h.1)
    each_set (x ∷ xs) (suc n) a p h = (h.0, each_set xs n a p h.1)

    pub each-but_last : (xs : List A) → Each P xs → Each P (but_last xs)
    unfolding but_last
    each-but_last [] h = tt
    each-but_last (x ∷ []) h = tt
    each-but_last (x ∷ y ∷ ys) h = (h.0, each-but_last (y ∷ ys) h.1)

    pub each_last : (xs : List A) (a : A) → last? xs ≡ some a → Each P xs → P a
    unfolding last?
    each_last [] a e h = none≢some e
    each_last (x ∷ []) a e h = subst P (some_inj e) h.0
    each_last (x ∷ y ∷ ys) a e h = each_last (y ∷ ys) a e h.1

    pub each_at : (xs : List A) (n : ℕ) (a : A) → get_elem? xs n ≡ some a → Each P xs → P a
    each_at [] n a e h = none≢some e
    each_at (x ∷ xs) zero a e h = subst P (some_inj e) h.0
    each_at (x ∷ xs) (suc n) a e h = each_at xs n a e h.1

    pub each-get_d : (xs : List A) (n : ℕ) (d : A) → P d → Each P xs → P (get_or xs n d)
    each-get_d [] n d p h = p
    each-get_d (x ∷ xs) zero d p h = h.0
    each-get_d (x ∷ xs) (suc n) d p h = each-get_d xs n d p h.1
