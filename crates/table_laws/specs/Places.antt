-- The list of groups in natural numbers, group and number by turns (`places` below), since groups and numbers in use are at least 1.
-- `Tallies`: it is the list of the groups that have members by f; no two lists are (`one_list`). `one_more` and `one_less` are what one member
-- more and one less make of it.
use Prim.Native.Nat.{ℕ, zero, suc, pred, ◌+◌, ◌≤◌, ◌<◌}
use native.Mathlib.Omega.{arith}
use Rattle.std.specs.Prelude.{Bool, true, false, ◌≡◌, refl, eqb, ltb}
use mathlib.Core.List.{List, [], ◌∷◌}
use Rattle.std.proofs.Math.Path.{sym, ap, subst}
use Rattle.std.proofs.Common.{ap₂, ◌∙◌, eq-eqb, ne_eqb, lt-ltb, le-ltb, eqb-true, ltb-true, ltb-false}
use Rattle.std.proofs.lemmas.Bool.{eqb-false}
use Rattle.laws.specs.Tests.{split}

-- whole places, groups that rise from above lo, none with 0 members
abbrev pub Rises : ℕ → List ℕ → Type 0
Rises lo [] = Unit {0}
Rises lo (a ∷ []) = ⊥
Rises lo (a ∷ n ∷ ps) = (lo < a) × ((1 ≤ n) × Rises a ps)

-- the number of a group, 0 where it has no place
unfoldable pub number_in : ℕ → List ℕ → ℕ
number_in g [] = 0
number_in g (a ∷ []) = 0
number_in g (a ∷ n ∷ ps) = elim (eqb a g) [ true ↦ n | false ↦ number_in g ps ]

unfoldable pub one_more : ℕ → List ℕ → List ℕ
one_more g [] = g ∷ 1 ∷ []
one_more g (a ∷ []) = g ∷ 1 ∷ []
one_more g (a ∷ n ∷ ps) =
    elim (eqb a g) [
      | true ↦ a ∷ suc n ∷ ps
      | false ↦ elim (ltb g a) [ true ↦ g ∷ 1 ∷ a ∷ n ∷ ps | false ↦ a ∷ n ∷ one_more g ps ]
    ]

-- a place whose number was 1 is gone
unfoldable pub one_less : ℕ → List ℕ → List ℕ
one_less g [] = []
one_less g (a ∷ []) = []
one_less g (a ∷ n ∷ ps) =
    elim (eqb a g) [
      | true ↦ elim (eqb n 1) [ true ↦ ps | false ↦ a ∷ pred n ∷ ps ]
      | false ↦ a ∷ n ∷ one_less g ps
    ]

-- the groups above lo that have members by f, each with its number
abbrev pub Tallies : ℕ → (ℕ → ℕ) → List ℕ → Type 0
Tallies lo f [] = (g : ℕ) → lo < g → f g ≡ 0
Tallies lo f (a ∷ []) = ⊥
Tallies lo f (a ∷ n ∷ ps) = (lo < a) × (((g : ℕ) → lo < g → g < a → f g ≡ 0) × ((n ≡ f a) × ((1 ≤ n) × Tallies a f ps)))

-- Where the tests stand, so that nothing below unfolds the definitions

abbrev choose : {A : Type 0} → Bool → A → A → A
choose t x y = elim t [ true ↦ x | false ↦ y ]

number_at : (g a n : ℕ) (ps : List ℕ) → number_in g (a ∷ n ∷ ps) ≡ choose (eqb a g) n (number_in g ps)
unfolding number_in
number_at g a n ps = refl

more-at : (g a n : ℕ) (ps : List ℕ) → one_more g (a ∷ n ∷ ps) ≡ choose (eqb a g) (a ∷ suc n ∷ ps) (choose (ltb g a) (g ∷ 1 ∷ a ∷ n ∷ ps) (a ∷ n ∷ one_more g ps))
unfolding one_more
more-at g a n ps = refl

less-at : (g a n : ℕ) (ps : List ℕ) → one_less g (a ∷ n ∷ ps) ≡ choose (eqb a g) (choose (eqb n 1) ps (a ∷ pred n ∷ ps)) (a ∷ n ∷ one_less g ps)
unfolding one_less
less-at g a n ps = refl

pub number-there : (g a n : ℕ) (ps : List ℕ) → a ≡ g → number_in g (a ∷ n ∷ ps) ≡ n
number-there g a n ps e = number_at g a n ps ∙ rw (eq-eqb a g e)

pub number-elsewhere : (g a n : ℕ) (ps : List ℕ) → (a ≡ g → ⊥) → number_in g (a ∷ n ∷ ps) ≡ number_in g ps
number-elsewhere g a n ps d = number_at g a n ps ∙ rw (ne_eqb a g d)

pub more-there : (g a n : ℕ) (ps : List ℕ) → a ≡ g → one_more g (a ∷ n ∷ ps) ≡ a ∷ suc n ∷ ps
more-there g a n ps e = more-at g a n ps ∙ rw (eq-eqb a g e)

pub more-before : (g a n : ℕ) (ps : List ℕ) → g < a → one_more g (a ∷ n ∷ ps) ≡ g ∷ 1 ∷ a ∷ n ∷ ps
more-before g a n ps h = more-at g a n ps ∙ rw (ne_eqb a g (λ e. omega arith)) (rw (lt-ltb g a h))

pub more-after : (g a n : ℕ) (ps : List ℕ) → a < g → one_more g (a ∷ n ∷ ps) ≡ a ∷ n ∷ one_more g ps
more-after g a n ps h = more-at g a n ps ∙ rw (ne_eqb a g (λ e. omega arith)) (rw (le-ltb g a (omega arith)))

pub less-gone : (g a n : ℕ) (ps : List ℕ) → a ≡ g → n ≡ 1 → one_less g (a ∷ n ∷ ps) ≡ ps
less-gone g a n ps e f = less-at g a n ps ∙ rw (eq-eqb a g e) (rw (eq-eqb n 1 f))

pub less-there : (g a n : ℕ) (ps : List ℕ) → a ≡ g → (n ≡ 1 → ⊥) → one_less g (a ∷ n ∷ ps) ≡ a ∷ pred n ∷ ps
less-there g a n ps e d = less-at g a n ps ∙ rw (eq-eqb a g e) (rw (ne_eqb n 1 d))

pub less-after : (g a n : ℕ) (ps : List ℕ) → (a ≡ g → ⊥) → one_less g (a ∷ n ∷ ps) ≡ a ∷ n ∷ one_less g ps
less-after g a n ps d = less-at g a n ps ∙ rw (ne_eqb a g d)

-- two numbers, one below the other or equal
pub by_order {ℓ} : {X : Type ℓ} (a b : ℕ) → (a < b → X) → (a ≡ b → X) → (b < a → X) → X
by_order a b f g h =
    split (ltb a b) (λ t. f (ltb-true a b t)) (λ t. split (eqb a b) (λ e. g (eqb-true a b e)) (λ e. h (above (ltb-false a b t) (eqb-false a b e))))
  where
    above : b ≤ a → (a ≡ b → ⊥) → b < a
    above k d = split (ltb b a) (λ t. ltb-true b a t) (λ t. absurd (d (omega (arith, ltb-false b a t))))

-- A list of groups

pub tallies-rise : (lo : ℕ) (f : ℕ → ℕ) (ps : List ℕ) → Tallies lo f ps → Rises lo ps
tallies-rise lo f [] h = tt
tallies-rise lo f (a ∷ []) h = absurd h
tallies-rise lo f (a ∷ n ∷ ps) h = (h.0, (h.1.1.1.0, tallies-rise a f ps h.1.1.1.1))

-- a group below all others has no place
pub number-below : (g : ℕ) {b : ℕ} (qs : List ℕ) → Rises b qs → g ≤ b → number_in g qs ≡ 0
unfolding number_in
number-below g [] r k = refl
number-below g (c ∷ []) r k = absurd r
number-below g {b} (c ∷ m ∷ qs) r k = number-elsewhere g c m qs (λ e. omega (arith, r.0)) ∙ number-below g qs r.1.1 (omega (arith, r.0))

-- what the list says of a group is how many members it has
pub tallies-number : (lo : ℕ) (f : ℕ → ℕ) (ps : List ℕ) → Tallies lo f ps → (g : ℕ) → lo < g → number_in g ps ≡ f g
unfolding number_in
tallies-number lo f [] h g l = sym (h g l)
tallies-number lo f (a ∷ []) h g l = absurd h
tallies-number lo f (a ∷ n ∷ ps) h g l =
    by_order a g
    (λ b. number-elsewhere g a n ps (λ e. omega arith) ∙ tallies-number a f ps h.1.1.1.1 g b)
    (λ e. number-there g a n ps e ∙ h.1.1.0 ∙ ap f e)
    (λ b. number-elsewhere g a n ps (λ e. omega arith) ∙ number-below g ps (tallies-rise a f ps h.1.1.1.1) (omega arith) ∙ sym (h.1.0 g l b))

-- no two lists are of the same groups and numbers
pub one_list : (lo : ℕ) (f : ℕ → ℕ) (ps qs : List ℕ) → Tallies lo f ps → Tallies lo f qs → ps ≡ qs
one_list lo f [] [] h k = refl
one_list lo f [] (b ∷ []) h k = absurd k
one_list lo f [] (b ∷ m ∷ qs) h k = absurd (omega (arith, h b k.0, k.1.1.0, k.1.1.1.0))
one_list lo f (a ∷ []) qs h k = absurd h
one_list lo f (a ∷ n ∷ ps) [] h k = absurd (omega (arith, k a h.0, h.1.1.0, h.1.1.1.0))
one_list lo f (a ∷ n ∷ ps) (b ∷ []) h k = absurd k
one_list lo f (a ∷ n ∷ ps) (b ∷ m ∷ qs) h k =
    by_order a b
    (λ l. absurd (omega (arith, k.1.0 a h.0 l, h.1.1.0, h.1.1.1.0)))
    (λ e. alike e (one_list a f ps qs h.1.1.1.1 (subst (λ x. Tallies x f qs) (sym e) k.1.1.1.1)))
    (λ l. absurd (omega (arith, h.1.0 b k.0 l, k.1.1.0, k.1.1.1.0)))
  where
    alike : a ≡ b → ps ≡ qs → a ∷ n ∷ ps ≡ b ∷ m ∷ qs
    alike e rest =
        let same : n ≡ m = h.1.1.0 ∙ ap f e ∙ sym k.1.1.0 in
        λ i. e i ∷ same i ∷ rest i

-- rising places that say of each group above lo how many members it has
pub tallies-by : (lo : ℕ) (f : ℕ → ℕ) (ps : List ℕ) → Rises lo ps → ((g : ℕ) → lo < g → number_in g ps ≡ f g) → Tallies lo f ps
unfolding number_in
tallies-by lo f [] r h = λ g l. sym (h g l)
tallies-by lo f (a ∷ []) r h = absurd r
tallies-by lo f (a ∷ n ∷ ps) r h =
    let n-is : n ≡ f a = sym (number-there a a n ps refl) ∙ h a r.0 in (
      r.0,
      (
        λ g l b. sym (h g l) ∙ number-elsewhere g a n ps (λ e. omega arith) ∙ number-below g ps r.1.1 (omega arith),
        (
          n-is,
          (
            r.1.0,
            tallies-by a f ps r.1.1 (λ g l. sym (number-elsewhere g a n ps (λ e. omega arith)) ∙ h g (omega (arith, r.0))),
          ),
        ),
      ),
    )

-- the same list by numbers that are the same above lo
pub tallies-same : (lo : ℕ) (f f' : ℕ → ℕ) → ((g : ℕ) → lo < g → f' g ≡ f g) → (ps : List ℕ) → Tallies lo f ps → Tallies lo f' ps
tallies-same lo f f' e [] h = λ g l. e g l ∙ h g l
tallies-same lo f f' e (a ∷ []) h = absurd h
tallies-same lo f f' e (a ∷ n ∷ ps) h =
    (h.0, (λ g l b. e g l ∙ h.1.0 g l b, (h.1.1.0 ∙ sym (e a h.0), (h.1.1.1.0, tallies-same a f f' (λ g l. e g (omega (arith, h.0))) ps h.1.1.1.1))))

-- one member more, or one less, of one group
module _ (g : ℕ) (f f' : ℕ → ℕ) (others : (b : ℕ) → (b ≡ g → ⊥) → f' b ≡ f b) where
  pub tallies-more : f' g ≡ suc (f g) → (lo : ℕ) → lo < g → (ps : List ℕ) → Tallies lo f ps → Tallies lo f' (one_more g ps)
  unfolding one_more
  tallies-more here lo l [] h =
      (l, (λ b u v. others b (λ e. omega arith) ∙ h b u, (omega (arith, here, h g l), (omega arith, λ b u. others b (λ e. omega arith) ∙ h b (omega arith)))))
  tallies-more here lo l (a ∷ []) h = absurd h
  tallies-more here lo l (a ∷ n ∷ ps) h =
      by_order a g
      (λ b. subst (Tallies lo f') (sym (more-after g a n ps b))
      (h.0, (λ c u v. others c (λ e. omega arith) ∙ h.1.0 c u v, (h.1.1.0 ∙ sym (others a (λ e. omega arith)), (h.1.1.1.0, tallies-more here a b ps h.1.1.1.1)))))
      (λ e. subst (Tallies lo f') (sym (more-there g a n ps e))
      (h.0, (λ c u v. others c (λ d. omega arith) ∙ h.1.0 c u v, (ap suc (h.1.1.0 ∙ ap f e) ∙ sym here ∙ ap f' (sym e), (omega arith, above e)))))
      (λ b. subst (Tallies lo f') (sym (more-before g a n ps b)) (
        l,
        (
          λ c u v. others c (λ d. omega arith) ∙ h.1.0 c u (omega arith),
          (
            omega (arith, here, h.1.0 g l b),
            (
              omega arith,
              (
                b,
                (
                  λ c u v. others c (λ d. omega arith) ∙ h.1.0 c (omega arith) v,
                  (
                    h.1.1.0 ∙ sym (others a (λ d. omega arith)),
                    (
                      h.1.1.1.0,
                      tallies-same a f f' (λ c u. others c (λ d. omega arith)) ps h.1.1.1.1,
                    ),
                  ),
                ),
              ),
            ),
          ),
        ),
      ))
    where
      above : a ≡ g → Tallies a f' ps
      above e = tallies-same a f f' (λ c u. others c (λ d. omega arith)) ps h.1.1.1.1

  pub tallies-less : f g ≡ suc (f' g) → (lo : ℕ) → lo < g → (ps : List ℕ) → Tallies lo f ps → Tallies lo f' (one_less g ps)
  unfolding one_less
  tallies-less here lo l [] h = absurd (omega (arith, here, h g l))
  tallies-less here lo l (a ∷ []) h = absurd h
  tallies-less here lo l (a ∷ n ∷ ps) h =
      by_order a g
      (λ b. subst (Tallies lo f') (sym (less-after g a n ps (λ e. omega arith)))
      (h.0, (λ c u v. others c (λ e. omega arith) ∙ h.1.0 c u v, (h.1.1.0 ∙ sym (others a (λ e. omega arith)), (h.1.1.1.0, tallies-less here a b ps h.1.1.1.1)))))
      (λ e. split (eqb n 1) (λ t. gone e (eqb-true n 1 t)) (λ t. stays e (eqb-false n 1 t)))
      (λ b. absurd (omega (arith, here, h.1.0 g l b)))
    where
      same_above : a ≡ g → Tallies a f' ps
      same_above e = tallies-same a f f' (λ c u. others c (λ d. omega arith)) ps h.1.1.1.1

      number : a ≡ g → n ≡ suc (f' g)
      number e = h.1.1.0 ∙ ap f e ∙ here

      lower : a ≡ g → n ≡ 1 → (qs : List ℕ) → Tallies a f' qs → Tallies lo f' qs
      lower e o [] k = λ c u. by_order c a (λ v. others c (λ d. omega arith) ∙ h.1.0 c u v) (λ d. zero-at e o d) (λ v. k c v)
        where
          zero-at : a ≡ g → n ≡ 1 → {c : ℕ} → c ≡ a → f' c ≡ 0
          zero-at e o d = ap f' (d ∙ e) ∙ omega (arith, number e)
      lower e o (b ∷ []) k = absurd k
      lower e o (b ∷ m ∷ qs) k =
          (omega (arith, k.0, h.0), (λ c u v. by_order c a (λ w. others c (λ d. omega arith) ∙ h.1.0 c u w) (λ d. ap f' (d ∙ e) ∙ omega (arith, number e)) (λ w. k.1.0 c w v), k.1.1))

      gone : a ≡ g → n ≡ 1 → Tallies lo f' (one_less g (a ∷ n ∷ ps))
      gone e o = subst (Tallies lo f') (sym (less-gone g a n ps e o)) (lower e o ps (same_above e))

      stays : a ≡ g → (n ≡ 1 → ⊥) → Tallies lo f' (one_less g (a ∷ n ∷ ps))
      stays e d =
          let k : 1 ≤ pred n = below n h.1.1.1.0 d in
          subst (Tallies lo f') (sym (less-there g a n ps e d))
          (h.0, (λ c u v. others c (λ q. omega arith) ∙ h.1.0 c u v, (ap pred (number e) ∙ ap f' (sym e), (k, same_above e))))
        where
          below : (n : ℕ) → 1 ≤ n → (n ≡ 1 → ⊥) → 1 ≤ pred n
          below zero u d = absurd (omega arith)
          below (suc zero) u d = absurd (d refl)
          below (suc (suc n)) u d = omega arith
