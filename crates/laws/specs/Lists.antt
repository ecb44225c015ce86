-- Laws of lists: the last element, the element at an index, also after a store, images; the indices of a list that is read two by two.
use Rattle.std.specs.Prelude.{ℕ, zero, suc, pred, ◌+◌, ◌-◌, ◌*◌, ◌≤◌, ◌<◌, length, take, drop, get_or, set, replicate}
use native.Mathlib.Omega.{arith}
use Rattle.std.proofs.Common.{not-suc-le-zero, le_of_suc-le-suc, zero-add, suc-add, sym, ap₂, ◌∙◌, length-append}
use Rattle.std.proofs.Math.Path.{◌≡◌, refl, ap}
use mathlib.Core.List.{List, [], ◌∷◌, ◌++◌, map}
use Rattle.std.proofs.Math.Option
use Rattle.std.proofs.Math.Option.{none, some}
use Rattle.std.proofs.Math.ListN.{get_elem?}
use Rattle.language.specs.Basics.{last?, but_last}
use Rattle.laws.specs.Tests.{none≢some, some_inj}

module _ {ℓ} {A : Type ℓ} where
  pub last_snoc : (l : List A) (a : A) → last? (l ++ (a ∷ [])) ≡ some a
  unfolding last?
  last_snoc [] a = refl
  last_snoc (x ∷ []) a = refl
  last_snoc (x ∷ y ∷ l) a = last_snoc (y ∷ l) a

  pub but_last-snoc : (l : List A) (a : A) → but_last (l ++ (a ∷ [])) ≡ l
  unfolding but_last
  but_last-snoc [] a = refl
  but_last-snoc (x ∷ []) a = refl
  but_last-snoc (x ∷ y ∷ l) a = ap (x ∷◌) (but_last-snoc (y ∷ l) a)

  -- a list with a last element is all before it, and that one
  pub last-split : (l : List A) (a : A) → last? l ≡ some a → l ≡ but_last l ++ (a ∷ [])
  unfolding last? but_last
  last-split [] a e = none≢some e
  last-split (x ∷ []) a e = ap (◌∷ []) (some_inj e)
  last-split (x ∷ y ∷ l) a e = ap (x ∷◌) (last-split (y ∷ l) a e)

  pub last_none : (l : List A) → last? l ≡ none → l ≡ []
  unfolding last?
  last_none [] e = refl
  last_none (x ∷ []) e = none≢some (sym e)
  last_none (x ∷ y ∷ l) e = let h = last_none (y ∷ l) e in let z : ◌≡◌ {A = ℕ} 0 1 = cc in absurd (omega arith)

  pub some-last : (l : List A) → 1 ≤ length l → (a : A) × (last? l ≡ some a)
  unfolding last?
  some-last [] h = absurd (not-suc-le-zero h)
  some-last (x ∷ []) h = (x, refl)
  some-last (x ∷ y ∷ l) h = some-last (y ∷ l) (omega arith)

  pub snoc-length : (l : List A) (a : A) → length (l ++ (a ∷ [])) ≡ suc (length l)
  snoc-length l a = length-append l (a ∷ []) ∙ omega arith

  pub but_last-take : (l : List A) → but_last l ≡ take (pred (length l)) l
  unfolding but_last
  but_last-take [] = refl
  but_last-take (x ∷ []) = refl
  but_last-take (x ∷ y ∷ l) = ap (x ∷◌) (but_last-take (y ∷ l))

  pub but_last-length : (l : List A) → length (but_last l) ≤ length l
  unfolding but_last
  but_last-length [] = omega arith
  but_last-length (x ∷ []) = omega arith
  but_last-length (x ∷ y ∷ l) = omega (arith, but_last-length (y ∷ l))

  -- replacing the last element keeps the length
  pub replaced-length : (l : List A) (a b : A) → last? l ≡ some a → length (but_last l ++ (b ∷ [])) ≡ length l
  replaced-length l a b e = length-append (but_last l) (b ∷ []) ∙ sym (length-append (but_last l) (a ∷ [])) ∙ ap length (sym (last-split l a e))

  -- a list has no element, or some
  pub by-elements {ℓ'} : {X : Type ℓ'} (l : List A) → (l ≡ [] → X) → (1 ≤ length l → X) → X
  by-elements [] f g = f refl
  by-elements (x ∷ l) f g = g (omega arith)

  -- the element at an index
  pub get_elem-append : (l m : List A) (k : ℕ) → k < length l → get_elem? (l ++ m) k ≡ get_elem? l k
  get_elem-append [] m k h = absurd (not-suc-le-zero h)
  get_elem-append (x ∷ l) m zero h = refl
  get_elem-append (x ∷ l) m (suc k) h = get_elem-append l m k (le_of_suc-le-suc h)

  pub get_elem-after : (l m : List A) (k : ℕ) → length l ≤ k → get_elem? (l ++ m) k ≡ get_elem? m (k - length l)
  get_elem-after [] m k h = let e : k ≡ k - 0 = omega arith in ap (get_elem? m) e
  get_elem-after (x ∷ l) m zero h = absurd (not-suc-le-zero h)
  get_elem-after (x ∷ l) m (suc k) h =
      let e : k - length l ≡ suc k - suc (length l) = omega arith in
      get_elem-after l m k (le_of_suc-le-suc h) ∙ ap (get_elem? m) e

  pub get_elem-seam : (l : List A) (a : A) (m : List A) → get_elem? (l ++ (a ∷ m)) (length l) ≡ some a
  get_elem-seam [] a m = refl
  get_elem-seam (x ∷ l) a m = get_elem-seam l a m

  pub get_elem_take : (l : List A) (m k : ℕ) → k < m → get_elem? (take m l) k ≡ get_elem? l k
  get_elem_take [] zero k h = refl
  get_elem_take [] (suc m) k h = refl
  get_elem_take (x ∷ l) zero k h = absurd (not-suc-le-zero h)
  get_elem_take (x ∷ l) (suc m) zero h = refl
  get_elem_take (x ∷ l) (suc m) (suc k) h = get_elem_take l m k (le_of_suc-le-suc h)

  pub get_elem-bound : (l : List A) (k : ℕ) (a : A) → get_elem? l k ≡ some a → k < length l
  get_elem-bound [] k a e = none≢some e
  get_elem-bound (x ∷ l) zero a e = omega arith
  get_elem-bound (x ∷ l) (suc k) a e = let h = get_elem-bound l k a e in omega arith

  pub get_elem-in : (l : List A) (k : ℕ) → k < length l → (a : A) × (get_elem? l k ≡ some a)
  get_elem-in [] k h = absurd (not-suc-le-zero h)
  get_elem-in (x ∷ l) zero h = (x, refl)
  get_elem-in (x ∷ l) (suc k) h = get_elem-in l k (le_of_suc-le-suc h)

  pub take_snoc : (l : List A) (k : ℕ) (a : A) → get_elem? l k ≡ some a → take (suc k) l ≡ take k l ++ (a ∷ [])
  take_snoc [] k a e = none≢some e
  take_snoc (x ∷ l) zero a e = ap (◌∷ []) (some_inj e)
  take_snoc (x ∷ l) (suc k) a e = ap (x ∷◌) (take_snoc l k a e)

  -- a list is what is before an element, that one, and what is after it
  pub get_elem-split : (l : List A) (k : ℕ) (a : A) → get_elem? l k ≡ some a → l ≡ take k l ++ (a ∷ drop (suc k) l)
  get_elem-split [] k a e = none≢some e
  get_elem-split (x ∷ l) zero a e = ap (◌∷ l) (some_inj e)
  get_elem-split (x ∷ l) (suc k) a e = ap (x ∷◌) (get_elem-split l k a e)

  pub get_d-elem : (l : List A) (k : ℕ) (a d : A) → get_elem? l k ≡ some a → get_or l k d ≡ a
  get_d-elem [] k a d e = none≢some e
  get_d-elem (x ∷ l) zero a d e = some_inj e
  get_d-elem (x ∷ l) (suc k) a d e = get_d-elem l k a d e

  pub get_elem-none : (l : List A) (k : ℕ) → length l ≤ k → get_elem? l k ≡ none
  get_elem-none [] k h = refl
  get_elem-none (x ∷ l) zero h = absurd (not-suc-le-zero h)
  get_elem-none (x ∷ l) (suc k) h = get_elem-none l k (le_of_suc-le-suc h)

  pub get_elem-past : (l : List A) (k : ℕ) → get_elem? l k ≡ none → length l ≤ k
  get_elem-past [] k e = omega arith
  get_elem-past (x ∷ l) zero e = none≢some (sym e)
  get_elem-past (x ∷ l) (suc k) e = omega (arith, get_elem-past l k e)

  -- after a store
  pub get_elem-set-same : (l : List A) (i : ℕ) (a b : A) → get_elem? l i ≡ some a → get_elem? (set l i b) i ≡ some b
  get_elem-set-same [] i a b e = none≢some e
  get_elem-set-same (x ∷ l) zero a b e = refl
  get_elem-set-same (x ∷ l) (suc i) a b e = get_elem-set-same l i a b e

  pub get_elem-set-other : (l : List A) (i j : ℕ) (b : A) → (j ≡ i → ⊥) → get_elem? (set l i b) j ≡ get_elem? l j
  get_elem-set-other [] i j b h = refl
  get_elem-set-other (x ∷ l) zero zero b h = absurd (h refl)
  get_elem-set-other (x ∷ l) zero (suc j) b h = refl
  get_elem-set-other (x ∷ l) (suc i) zero b h = refl
  get_elem-set-other (x ∷ l) (suc i) (suc j) b h = get_elem-set-other l i j b (λ e. h (ap suc e))

  pub set-append-add : (xs ys : List A) (n : ℕ) (z : A) → set (xs ++ ys) (length xs + n) z ≡ xs ++ set ys n z
  set-append-add [] ys n z = rw zero-add
  set-append-add (x ∷ xs) ys n z = rw suc-add (ap (x ∷◌) (set-append-add xs ys n z))

-- what each element has, the default included
module _ {A : Type 0} (P : A → Type 0) where
  pub get_d_set : (l : List A) (i j : ℕ) (z d : A) → P z → P (get_or l j d) → P (get_or (set l i z) j d)
  get_d_set [] i j z d p h = h
  get_d_set (x ∷ l) zero zero z d p h = p
  get_d_set (x ∷ l) zero (suc j) z d p h = h
  get_d_set (x ∷ l) (suc i) zero z d p h = h
  get_d_set (x ∷ l) (suc i) (suc j) z d p h = get_d_set l i j z d p h

  pub get_d-both : (l m : List A) (j : ℕ) (d : A) → ((i : ℕ) → P (get_or l i d)) → ((i : ℕ) → P (get_or m i d)) → P (get_or (l ++ m) j d)
  get_d-both [] m j d h k = k j
  get_d-both (x ∷ l) m zero d h k = h zero
  get_d-both (x ∷ l) m (suc j) d h k = get_d-both l m j d (λ i. h (suc i)) k

pub lengths-append {ℓ} : {A B : Type ℓ} (xs xs' : List A) (ys ys' : List B) → length xs ≡ length ys → length xs' ≡ length ys' → length (xs ++ xs') ≡ length (ys ++ ys')
lengths-append xs xs' ys ys' p q = rw (length-append xs xs', length-append ys ys') (omega arith)

-- images
module _ {A B : Type 0} (g : A → B) where
  pub get_elem?-map : (l : List A) (k : ℕ) → get_elem? (map g l) k ≡ Option.map g (get_elem? l k)
  get_elem?-map [] k = refl
  get_elem?-map (x ∷ l) zero = refl
  get_elem?-map (x ∷ l) (suc k) = get_elem?-map l k

  pub image-at : (l : List A) (k : ℕ) (b : B) → get_elem? (map g l) k ≡ some b → (a : A) × (get_elem? l k ≡ some a) × (b ≡ g a)
  image-at [] k b e = none≢some e
  image-at (x ∷ l) zero b e = (x, refl, sym (some_inj e))
  image-at (x ∷ l) (suc k) b e = image-at l k b e

-- images of a list under two functions that agree at its elements, all of them or all but one
module _ {A B : Type 0} where
  pub map-alike : (g h : A → B) (l : List A) → ((j : ℕ) (a : A) → get_elem? l j ≡ some a → g a ≡ h a) → map g l ≡ map h l
  map-alike g h [] e = refl
  map-alike g h (x ∷ l) e = ap₂ ◌∷◌ (e 0 x refl) (map-alike g h l (λ j a q. e (suc j) a q))

  pub map-but-one : (g h : A → B) (l : List A) (i : ℕ) (z : B) → ((a : A) → get_elem? l i ≡ some a → g a ≡ z) → ((j : ℕ) (a : A) → (j ≡ i → ⊥) → get_elem? l j ≡ some a → g a ≡ h a) → map g l ≡ set (map h l) i z
  map-but-one g h [] i z e f = refl
  map-but-one g h (x ∷ l) zero z e f = ap₂ ◌∷◌ (e x refl) (map-alike g h l (λ j a q. f (suc j) a (λ p. omega arith) q))
  map-but-one g h (x ∷ l) (suc i) z e f = ap₂ ◌∷◌ (f 0 x (λ p. omega arith) refl) (map-but-one g h l i z e (λ j a n q. f (suc j) a (λ p. n (omega arith)) q))

pub map-map : {A B C : Type 0} (g : B → C) (h : A → B) (l : List A) → map g (map h l) ≡ map (λ (a : A). g (h a)) l
map-map g h [] = refl
map-map g h (x ∷ l) = ap (g (h x) ∷◌) (map-map g h l)

pub constant : {A B C : Type 0} (c : C) (l : List A) (m : List B) → length l ≡ length m → map (λ (a : A). c) l ≡ map (λ (b : B). c) m
constant c [] [] e = refl
constant c [] (y ∷ m) e = absurd (omega arith)
constant c (x ∷ l) [] e = absurd (omega arith)
constant c (x ∷ l) (y ∷ m) e = ap (c ∷◌) (constant c l m (omega arith))

pub snoc-inj : {A : Type 0} (l m : List A) (a b : A) → l ++ (a ∷ []) ≡ m ++ (b ∷ []) → (l ≡ m) × (a ≡ b)
snoc-inj l m a b e =
    (sym (but_last-snoc l a) ∙ (ap but_last e ∙ but_last-snoc m b), some_inj (sym (last_snoc l a) ∙ (ap last? e ∙ last_snoc m b)))

pub zeros : (n q : ℕ) → ◌≡◌ {A = ℕ} (get_or (replicate n 0) q 0) 0
zeros zero q = refl
zeros (suc n) zero = refl
zeros (suc n) (suc q) = zeros n q

-- the two elements of place k of a list that is read two by two
pub twice-suc : (k : ℕ) → 2 * suc k ≡ suc (suc (2 * k))
twice-suc k = omega arith

pub twice-suc-one : (k : ℕ) → 2 * suc k + 1 ≡ suc (suc (2 * k + 1))
twice-suc-one k = omega arith
