-- Laws of `among`, `lookup`, `zip` and `up_from`.
use Prim.Native.Nat.{ℕ, zero, suc, ◌+◌, ◌≤◌, ◌<◌}
use Rattle.std.proofs.Math.Nat.{le_refl}
use native.Mathlib.Omega.{arith}
use Rattle.std.specs.Prelude.{true, false, ◌≡◌, eqb, length}
use mathlib.Core.List.{List, [], ◌∷◌, ◌++◌, map, map-append}
use Rattle.std.proofs.Math.Option.{Option, none, some}
use Rattle.std.proofs.Math.Path.{refl, sym, ap}
use Rattle.std.proofs.Common.{◌∙◌}
use borrow.Author.Tests.{eqb-true, eq-eqb, ne_eqb}
use Rattle.std.proofs.Math.ListN.{get_elem?}
use Rattle.language.specs.Basics.{among, lookup, zip, up_from}
use Rattle.laws.specs.Tests.{split, never, none≢some, some_inj}
use Rattle.laws.specs.Each.{Each}

module _ (n x : ℕ) (xs : List ℕ) where
  pub among-here : eqb n x ≡ true → among n (x ∷ xs) ≡ true
  unfolding among
  among-here e = rw (e, among)

  pub among_there : eqb n x ≡ false → among n (x ∷ xs) ≡ among n xs
  unfolding among
  among_there e = rw (e, among)

  pub among_later : among n xs ≡ true → among n (x ∷ xs) ≡ true
  among_later h = split (eqb n x) among-here (λ e. among_there e ∙ h)

pub among_first : (n : ℕ) (xs : List ℕ) → among n (n ∷ xs) ≡ true
among_first n xs = among-here n n xs (eq-eqb n n refl)

pub among-right : (n : ℕ) (xs ys : List ℕ) → among n ys ≡ true → among n (xs ++ ys) ≡ true
among-right n [] ys h = h
among-right n (x ∷ xs) ys h = among_later n x (xs ++ ys) (among-right n xs ys h)

pub among-neither : (n : ℕ) (xs ys : List ℕ) → among n (xs ++ ys) ≡ false → (among n xs ≡ false) × (among n ys ≡ false)
unfolding among
among-neither n [] ys e = (refl, e)
among-neither n (x ∷ xs) ys e =
    split (eqb n x) (λ t. never (among-here n x (xs ++ ys) t) e)
    (λ f. let r = among-neither n xs ys (sym (among_there n x (xs ++ ys) f) ∙ e) in (among_there n x xs f ∙ r.0, r.1))

-- two names of which one is in a list and the other is not
pub among-differ : (n m : ℕ) (ns : List ℕ) → among n ns ≡ true → among m ns ≡ false → n ≡ m → ⊥
among-differ n m ns h k q = never h (ap (λ (x : ℕ). among x ns) q ∙ k)

-- The names of a script are below 65,536, and new names are not.
abbrev pub AllBelow : List ℕ → Type 0
AllBelow ns = Each (λ n. n < 65536) ns

abbrev pub AllNew : List ℕ → Type 0
AllNew ns = Each (λ n. 65536 ≤ n) ns

pub below-among : (n : ℕ) (ns : List ℕ) → AllBelow ns → among n ns ≡ true → n < 65536
unfolding among
below-among n [] b e = never e refl
below-among n (x ∷ xs) b e =
    split (eqb n x) (λ t. rw (eqb-true n x t) b.0) (λ f. below-among n xs b.1 (sym (among_there n x xs f) ∙ e))

pub new-not-among : (n : ℕ) (ns : List ℕ) → 65536 ≤ n → AllBelow ns → among n ns ≡ false
new-not-among n ns h b = split (among n ns) (λ t. let l = below-among n ns b t in absurd (omega arith)) (λ f. f)

module _ {A : Type 0} where
  pub lookup-nil : {X : Type 0} (n : ℕ) (a : A) → lookup n [] ≡ some a → X
  unfolding lookup
  lookup-nil n a e = none≢some e

  -- the first pair has the name, or the others are asked
  module _ (n : ℕ) (p : ℕ × A) (ps : List (ℕ × A)) where
    pub lookup-here : eqb n p.0 ≡ true → lookup n (p ∷ ps) ≡ some p.1
    unfolding lookup
    lookup-here e = rw (e, lookup)

    pub lookup-there : eqb n p.0 ≡ false → lookup n (p ∷ ps) ≡ lookup n ps
    unfolding lookup
    lookup-there e = rw (e, lookup)

  pub lookup-left : (n : ℕ) (ps qs : List (ℕ × A)) (a : A) → lookup n ps ≡ some a → lookup n (ps ++ qs) ≡ some a
  lookup-left n [] qs a e = lookup-nil n a e
  lookup-left n (p ∷ ps) qs a e =
      split (eqb n p.0) (λ h. lookup-here n p (ps ++ qs) h ∙ sym (lookup-here n p ps h) ∙ e)
      (λ h. lookup-there n p (ps ++ qs) h ∙ lookup-left n ps qs a (sym (lookup-there n p ps h) ∙ e))

  pub lookup-right : (n : ℕ) (ps qs : List (ℕ × A)) → lookup n ps ≡ none → lookup n (ps ++ qs) ≡ lookup n qs
  lookup-right n [] qs e = refl
  lookup-right n (p ∷ ps) qs e =
      split (eqb n p.0) (λ h. none≢some (sym e ∙ lookup-here n p ps h))
      (λ h. lookup-there n p (ps ++ qs) h ∙ lookup-right n ps qs (sym (lookup-there n p ps h) ∙ e))

  -- where the first list has the name or not
  pub either : {X : Type 0} (n : ℕ) (ps qs : List (ℕ × A)) (a : A) → lookup n (ps ++ qs) ≡ some a →
      (lookup n ps ≡ some a → X) → (lookup n ps ≡ none → lookup n qs ≡ some a → X) → X
  either {X} n ps qs a e f g = by (lookup n ps) refl
    where
      by : (o : Option A) → lookup n ps ≡ o → X
      by none h = g h (sym (lookup-right n ps qs h) ∙ e)
      by (some b) h = f (h ∙ sym (lookup-left n ps qs b h) ∙ e)

  -- the names that a list of pairs has
  abbrev pub keys : List (ℕ × A) → List ℕ
  keys ps = map (λ (p : ℕ × A). p.0) ps

  pub lookup_absent : (n : ℕ) (ps : List (ℕ × A)) → lookup n ps ≡ none → among n (keys ps) ≡ false
  unfolding among
  lookup_absent n [] e = refl
  lookup_absent n (p ∷ ps) e =
      split (eqb n p.0) (λ h. none≢some (sym e ∙ lookup-here n p ps h))
      (λ h. among_there n p.0 (keys ps) h ∙ lookup_absent n ps (sym (lookup-there n p ps h) ∙ e))

  pub lookup-present : (n : ℕ) (ps : List (ℕ × A)) (a : A) → lookup n ps ≡ some a → among n (keys ps) ≡ true
  lookup-present n [] a e = lookup-nil n a e
  lookup-present n (p ∷ ps) a e =
      split (eqb n p.0) (λ h. among-here n p.0 (keys ps) h)
      (λ h. among_there n p.0 (keys ps) h ∙ lookup-present n ps a (sym (lookup-there n p ps h) ∙ e))

  -- and the other way round
  pub lookup-among : (n : ℕ) (ps : List (ℕ × A)) → among n (keys ps) ≡ true → (a : A) × (lookup n ps ≡ some a)
  lookup-among n ps h = by (lookup n ps) refl
    where
      by : (o : Option A) → lookup n ps ≡ o → (a : A) × (lookup n ps ≡ some a)
      by none e = never h (lookup_absent n ps e)
      by (some a) e = (a, e)

  pub lookup-not-among : (n : ℕ) (ps : List (ℕ × A)) → among n (keys ps) ≡ false → lookup n ps ≡ none
  lookup-not-among n ps h = by (lookup n ps) refl
    where
      by : (o : Option A) → lookup n ps ≡ o → lookup n ps ≡ none
      by none e = e
      by (some a) e = never (lookup-present n ps a e) h

  pub keys-append : (ps qs : List (ℕ × A)) → keys (ps ++ qs) ≡ keys ps ++ keys qs
  keys-append ps qs = map-append (λ (p : ℕ × A). p.0) ps qs

  pub keys_zip : (ns : List ℕ) (xs : List A) → length ns ≡ length xs → keys (zip ns xs) ≡ ns
  unfolding zip
  keys_zip [] xs e = refl
  keys_zip (n ∷ ns) [] e = absurd (omega arith)
  keys_zip (n ∷ ns) (x ∷ xs) e = ap {B = List ℕ} (λ l. n ∷ l) (keys_zip ns xs (omega arith))

  pub zip-append : (ns : List ℕ) (xs : List A) (ms : List ℕ) (ys : List A) → length ns ≡ length xs → zip ns xs ++ zip ms ys ≡ zip (ns ++ ms) (xs ++ ys)
  unfolding zip
  zip-append [] [] ms ys e = refl
  zip-append [] (x ∷ xs) ms ys e = absurd (omega arith)
  zip-append (n ∷ ns) [] ms ys e = absurd (omega arith)
  zip-append (n ∷ ns) (x ∷ xs) ms ys e = ap {B = List (ℕ × A)} (λ l. (n, x) ∷ l) (zip-append ns xs ms ys (omega arith))

  pub zip-absent : (n : ℕ) (ns : List ℕ) (xs : List A) → among n ns ≡ false → lookup n (zip ns xs) ≡ none
  unfolding zip lookup
  zip-absent n [] xs e = refl
  zip-absent n (m ∷ ns) [] e = refl
  zip-absent n (m ∷ ns) (x ∷ xs) e =
      split (eqb n m) (λ t. never (among-here n m ns t) e)
      (λ f. lookup-there n (m, x) (zip ns xs) f ∙ zip-absent n ns xs (sym (among_there n m ns f) ∙ e))

  -- what a property of all values says of the one found
  pub each-found : (P : A → Type 0) (n : ℕ) (a : A) (ps : List (ℕ × A)) → Each (λ p. P p.1) ps → lookup n ps ≡ some a → P a
  each-found P n a [] h e = lookup-nil n a e
  each-found P n a (p ∷ ps) h e =
      split (eqb n p.0) (λ t. rw (some_inj (sym (lookup-here n p ps t) ∙ e)) at h.0)
      (λ f. each-found P n a ps h.1 (sym (lookup-there n p ps f) ∙ e))

  pub each-zip : (P : A → Type 0) (ns : List ℕ) (xs : List A) → Each P xs → Each (λ p. P p.1) (zip ns xs)
  unfolding zip
  each-zip P [] xs h = tt
  each-zip P (n ∷ ns) [] h = tt
  each-zip P (n ∷ ns) (x ∷ xs) h = (h.0, each-zip P ns xs h.1)

-- Numbers that go on from f

pub length-up_from : (f c : ℕ) → length (up_from f c) ≡ c
unfolding up_from
length-up_from f zero = refl
length-up_from f (suc c) = ap suc (length-up_from (suc f) c)

pub up_from-at : (f c p x : ℕ) → get_elem? (up_from f c) p ≡ some x → (x ≡ f + p) × (p < c)
unfolding up_from
up_from-at f zero p x e = none≢some e
up_from-at f (suc c) zero x e = let q : f ≡ x = some_inj e in omega arith
up_from-at f (suc c) (suc p) x e = let r = up_from-at (suc f) c p x e in omega arith

each-above : (l f c : ℕ) → l ≤ f → Each (λ n. l ≤ n) (up_from f c)
unfolding up_from
each-above l f zero h = tt
each-above l f (suc c) h = (h, each-above l (suc f) c (omega arith))

pub new-up_from : (f c : ℕ) → 65536 ≤ f → AllNew (up_from f c)
new-up_from f c h = each-above 65536 f c h

module _ {A : Type 0} where
  -- a name that has a value is replaced by a number that has it
  pub moved : (n : ℕ) (ns : List ℕ) (ks : List A) (f : ℕ) (k : A) → lookup n (zip ns ks) ≡ some k →
      (m : ℕ) × (lookup n (zip ns (up_from f (length ns))) ≡ some m) × (f ≤ m) × (lookup m (zip (up_from f (length ns)) ks) ≡ some k)
  unfolding zip up_from
  moved n [] ks f k e = lookup-nil n k e
  moved n (x ∷ ns) [] f k e = lookup-nil n k e
  moved n (x ∷ ns) (y ∷ ks) f k e =
      let new : List ℕ = up_from (suc f) (length ns) in
      split (eqb n x)
      (λ t. (f, lookup-here n (x, f) (zip ns new) t, le_refl f, lookup-here f (f, y) (zip new ks) (eq-eqb f f refl) ∙ sym (lookup-here n (x, y) (zip ns ks) t) ∙ e))
      (λ d.
      let r = moved n ns ks (suc f) k (sym (lookup-there n (x, y) (zip ns ks) d) ∙ e) in
      let above : suc f ≤ r.0 = r.2 in
      (r.0, lookup-there n (x, f) (zip ns new) d ∙ r.1, omega arith, lookup-there r.0 (f, y) (zip new ks) (ne_eqb r.0 f (λ q. omega arith)) ∙ r.3))

  pub lookup-up_from : (x f c : ℕ) (ks : List A) (k : A) → lookup x (zip (up_from f c) ks) ≡ some k → (f ≤ x) × (x < f + c)
  unfolding zip up_from
  lookup-up_from x f zero ks k e = lookup-nil x k e
  lookup-up_from x f (suc c) [] k e = lookup-nil x k e
  lookup-up_from x f (suc c) (y ∷ ks) k e =
      split (eqb x f) (λ t. let q : x ≡ f = eqb-true x f t in omega arith)
      (λ d. let r = lookup-up_from x (suc f) c ks k (sym (lookup-there x (f, y) (zip (up_from (suc f) c) ks) d) ∙ e) in omega arith)
