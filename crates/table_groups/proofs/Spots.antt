-- A group's place in a list whose groups rise: what stands there, what stands before and after it, and one member more or less written there.
use Rattle.std.proofs.Common.{◌≡◌, ℕ, zero, suc, pred, ◌+◌, ◌*◌, ◌/◌, ◌<◌, ◌≤◌, true, false, eqb, ltb, List, [], ◌∷◌, ◌++◌, length, get_or, take, drop, set, sym, refl, ap, ◌∙◌, subst, arith, ltb-false, ltb-true, le-ltb, lt-ltb, eqb-true}
use borrow.Author.Tests.{eqb-false}
use Rattle.laws.specs.Lists.{twice-suc, twice-suc-one}
use Rattle.laws.specs.Tests.{split}
use Rattle.table_laws.specs.Places.{Rises, number_in, one_more, one_less, number-there, number-elsewhere, more-there, more-before, more-after, less-gone, less-there, less-after}
use Rattle.table_groups.specs.Standing.{place_in}

place_at : (g a n : ℕ) (ps : List ℕ) → place_in g (a ∷ n ∷ ps) ≡ elim (ltb a g) as (λ x. ℕ) [ true ↦ suc (place_in g ps) | false ↦ 0 ]
unfolding place_in
place_at g a n ps = refl

place_after : (g a n : ℕ) (ps : List ℕ) → a < g → place_in g (a ∷ n ∷ ps) ≡ suc (place_in g ps)
place_after g a n ps h = place_at g a n ps ∙ rw (lt-ltb a g h)

place_here : (g a n : ℕ) (ps : List ℕ) → g ≤ a → place_in g (a ∷ n ∷ ps) ≡ 0
place_here g a n ps h = place_at g a n ps ∙ rw (le-ltb a g h)

place_none : (g : ℕ) → place_in g [] ≡ 0
unfolding place_in
place_none g = refl

group-suc : (i a n : ℕ) (ps : List ℕ) → get_or (a ∷ n ∷ ps) (2 * suc i) 0 ≡ get_or ps (2 * i) 0
group-suc i a n ps = rw (twice-suc i)

number-suc : (i a n : ℕ) (ps : List ℕ) → get_or (a ∷ n ∷ ps) (2 * suc i + 1) 0 ≡ get_or ps (2 * i + 1) 0
number-suc i a n ps = rw (twice-suc-one i)

pub rises-whole : (lo : ℕ) (ps : List ℕ) → Rises lo ps → 2 * (length ps / 2) ≡ length ps
rises-whole lo [] r = refl
rises-whole lo (a ∷ []) r = absurd r
rises-whole lo (a ∷ n ∷ ps) r = omega (arith, rises-whole a ps r.1.1)

rises-above : (lo : ℕ) (ps : List ℕ) → Rises lo ps → (i : ℕ) → 1 ≤ get_or ps (2 * i) 0 → lo < get_or ps (2 * i) 0
rises-above lo [] r i h = absurd (omega arith)
rises-above lo (a ∷ []) r i h = absurd r
rises-above lo (a ∷ n ∷ ps) r zero h = r.0
rises-above lo (a ∷ n ∷ ps) r (suc i) h = rw (group-suc i a n ps) (let k : a < get_or ps (2 * i) 0 = rises-above a ps r.1.1 i (rw (group-suc i a n ps) at h) in omega (arith, r.0))

-- ---- the search: a place before g's, and one that is not

pub below-place : (g lo : ℕ) (ps : List ℕ) → Rises lo ps → (i : ℕ) → 1 ≤ get_or ps (2 * i) 0 → get_or ps (2 * i) 0 < g → i < place_in g ps
below-place g lo [] r i h k = absurd (omega arith)
below-place g lo (a ∷ []) r i h k = absurd r
below-place g lo (a ∷ n ∷ ps) r zero h k = rw (place_after g a n ps k) (omega arith)
below-place g lo (a ∷ n ∷ ps) r (suc i) h k =
    let h' : 1 ≤ get_or ps (2 * i) 0 = rw (group-suc i a n ps) at h in
    let k' : get_or ps (2 * i) 0 < g = rw (group-suc i a n ps) at k in
    let b : a < get_or ps (2 * i) 0 = rises-above a ps r.1.1 i h' in
    let u : i < place_in g ps = below-place g a ps r.1.1 i h' k' in
    rw (place_after g a n ps (omega arith)) (omega arith)

pub place-within : (g lo : ℕ) (ps : List ℕ) → Rises lo ps → (i : ℕ) → (1 ≤ get_or ps (2 * i) 0 → get_or ps (2 * i) 0 < g → ⊥) → place_in g ps ≤ i
place-within g lo [] r i h = rw (place_none g) (omega arith)
place-within g lo (a ∷ []) r i h = absurd r
place-within g lo (a ∷ n ∷ ps) r i h =
    split (ltb a g) (λ t. after (place-within g a ps r.1.1) i h (ltb-true a g t)) (λ t. rw (place_here g a n ps (ltb-false a g t)) (omega arith))
  where
    after :
        ((i : ℕ) → (1 ≤ get_or ps (2 * i) 0 → get_or ps (2 * i) 0 < g → ⊥) → place_in g ps ≤ i) →
        (i : ℕ) → (1 ≤ get_or (a ∷ n ∷ ps) (2 * i) 0 → get_or (a ∷ n ∷ ps) (2 * i) 0 < g → ⊥) → a < g → place_in g (a ∷ n ∷ ps) ≤ i
    after rest zero h b = absurd (h (omega (arith, r.0)) b)
    after rest (suc i) h b = let u = rest i (rw (group-suc i a n ps) at h) in rw (place_after g a n ps b) (omega arith)

-- no group from g on: the place past all groups
pub place-last : (g lo : ℕ) (ps : List ℕ) → Rises lo ps → (2 * place_in g ps < length ps → get_or ps (2 * place_in g ps) 0 < g) → place_in g ps ≡ length ps / 2
place-last g lo [] r h = place_none g
place-last g lo (a ∷ []) r h = absurd r
place-last g lo (a ∷ n ∷ ps) r h =
    split (ltb a g) (λ t. after (place-last g a ps r.1.1) (place_after g a n ps (ltb-true a g t))) (λ t. here (ltb-false a g t) (place_here g a n ps (ltb-false a g t)))
  where
    after : ((2 * place_in g ps < length ps → get_or ps (2 * place_in g ps) 0 < g) → place_in g ps ≡ length ps / 2) → place_in g (a ∷ n ∷ ps) ≡ suc (place_in g ps) → place_in g (a ∷ n ∷ ps) ≡ suc (suc (length ps)) / 2
    after rest e =
        let q = rest (λ k. rw (group-suc (place_in g ps) a n ps) at (rw e at (h (omega arith)))) in
        omega arith

    here : g ≤ a → place_in g (a ∷ n ∷ ps) ≡ 0 → place_in g (a ∷ n ∷ ps) ≡ suc (suc (length ps)) / 2
    here b e = let k : a < g = rw e at (h (omega arith)) in absurd (omega arith)

-- ---- what stands at g's place p, where m is its number

pub data Spot (g : ℕ) : List ℕ → ℕ → ℕ → Type 0 where
  none : Spot g [] 0 0
  here : {n : ℕ} {ps : List ℕ} → 1 ≤ n → Spot g (g ∷ n ∷ ps) 0 n
  before : {a n : ℕ} {ps : List ℕ} → g < a → Spot g (a ∷ n ∷ ps) 0 0
  after : {a n : ℕ} {ps : List ℕ} {p m : ℕ} → a < g → Spot g ps p m → Spot g (a ∷ n ∷ ps) (suc p) m

number-none : (g lo : ℕ) (ps : List ℕ) → Rises lo ps → g ≤ lo → number_in g ps ≡ 0
unfolding number_in
number-none g lo [] r h = refl
number-none g lo (a ∷ []) r h = absurd r
number-none g lo (a ∷ n ∷ ps) r h = number-elsewhere g a n ps (λ e. omega (arith, r.0)) ∙ number-none g a ps r.1.1 (omega (arith, r.0))

pub spot : (g lo : ℕ) (ps : List ℕ) → Rises lo ps → Spot g ps (place_in g ps) (number_in g ps)
unfolding number_in place_in
spot g lo [] r = none
spot g lo (a ∷ []) r = absurd r
spot g lo (a ∷ n ∷ ps) r =
    split (ltb a g) (λ t. below (spot g a ps r.1.1) (ltb-true a g t)) (λ t. split (ltb g a) (λ u. above (ltb-true g a u)) (λ u. same (omega (arith, ltb-false a g t, ltb-false g a u))))
  where
    at : {p m : ℕ} → place_in g (a ∷ n ∷ ps) ≡ p → number_in g (a ∷ n ∷ ps) ≡ m → Spot g (a ∷ n ∷ ps) p m → Spot g (a ∷ n ∷ ps) (place_in g (a ∷ n ∷ ps)) (number_in g (a ∷ n ∷ ps))
    at e f s = subst (λ (T : Type 0). T) (λ i. Spot g (a ∷ n ∷ ps) (sym e i) (sym f i)) s

    below : Spot g ps (place_in g ps) (number_in g ps) → a < g → Spot g (a ∷ n ∷ ps) (place_in g (a ∷ n ∷ ps)) (number_in g (a ∷ n ∷ ps))
    below s h = at (place_after g a n ps h) (number-elsewhere g a n ps (λ e. omega arith)) (after h s)

    above : g < a → Spot g (a ∷ n ∷ ps) (place_in g (a ∷ n ∷ ps)) (number_in g (a ∷ n ∷ ps))
    above h = at (place_here g a n ps (omega arith)) (number-elsewhere g a n ps (λ e. omega arith) ∙ number-none g a ps r.1.1 (omega arith)) (before h)

    same : a ≡ g → Spot g (a ∷ n ∷ ps) (place_in g (a ∷ n ∷ ps)) (number_in g (a ∷ n ∷ ps))
    same e = at (place_here g a n ps (omega arith)) (number-there g a n ps e) (subst (λ (x : ℕ). Spot g (x ∷ n ∷ ps) 0 n) (sym e) (here r.1.0))

set-suc : (a n i v : ℕ) (ps : List ℕ) → set (a ∷ n ∷ ps) (2 * suc i + 1) v ≡ a ∷ n ∷ set ps (2 * i + 1) v
set-suc a n i v ps = rw (twice-suc-one i)

rises-lower : (lo hi : ℕ) (ps : List ℕ) → lo ≤ hi → Rises hi ps → Rises lo ps
rises-lower lo hi [] l r = tt
rises-lower lo hi (a ∷ []) l r = absurd r
rises-lower lo hi (a ∷ n ∷ ps) l r = (omega (arith, r.0), r.1)

module _ {g : ℕ} where
  pub spot-within : {ps : List ℕ} {p m : ℕ} → Spot g ps p m → 2 * p ≤ length ps
  spot-within none = omega arith
  spot-within (here h) = omega arith
  spot-within (before h) = omega arith
  spot-within (after h s) = omega (arith, spot-within s)

  pub spot-inside : {ps : List ℕ} {p m : ℕ} → Spot g ps p m → 1 ≤ m → 2 * p + 1 < length ps
  spot-inside none k = absurd (omega arith)
  spot-inside (here h) k = omega arith
  spot-inside (before h) k = absurd (omega arith)
  spot-inside (after h s) k = omega (arith, spot-inside s k)

  pub spot-group : {ps : List ℕ} {p m : ℕ} → Spot g ps p m → 1 ≤ m → get_or ps (2 * p) 0 ≡ g
  spot-group none k = absurd (omega arith)
  spot-group (here h) k = refl
  spot-group (before h) k = absurd (omega arith)
  spot-group (after {a} {n} {ps} {p} h s) k = group-suc p a n ps ∙ spot-group s k

  pub spot-number : {ps : List ℕ} {p m : ℕ} → Spot g ps p m → 1 ≤ m → get_or ps (2 * p + 1) 0 ≡ m
  spot-number none k = absurd (omega arith)
  spot-number (here h) k = refl
  spot-number (before h) k = absurd (omega arith)
  spot-number (after {a} {n} {ps} {p} h s) k = number-suc p a n ps ∙ spot-number s k

  pub spot-other : {ps : List ℕ} {p m : ℕ} → Spot g ps p m → 1 ≤ g → m ≡ 0 → get_or ps (2 * p) 0 ≡ g → ⊥
  spot-other none k z e = omega arith
  spot-other (here h) k z e = omega arith
  spot-other (before h) k z e = omega arith
  spot-other (after {a} {n} {ps} {p} h s) k z e = spot-other s k z (sym (group-suc p a n ps) ∙ e)

  -- ---- one member more, or one less, at its place

  pub more-number : {ps : List ℕ} {p m : ℕ} → Spot g ps p m → 1 ≤ m → one_more g ps ≡ set ps (2 * p + 1) (suc m)
  more-number none k = absurd (omega arith)
  more-number (here {n} {ps} h) k = more-there g g n ps refl
  more-number (before h) k = absurd (omega arith)
  more-number (after {a} {n} {ps} {p} {m} h s) k = more-after g a n ps h ∙ ap (λ (l : List ℕ). a ∷ n ∷ l) (more-number s k) ∙ sym (set-suc a n p (suc m) ps)

  pub more-new : {ps : List ℕ} {p m : ℕ} → Spot g ps p m → m ≡ 0 → one_more g ps ≡ take (2 * p) ps ++ (g ∷ 1 ∷ drop (2 * p) ps)
  unfolding one_more
  more-new none z = refl
  more-new (here h) z = absurd (omega arith)
  more-new (before {a} {n} {ps} h) z = more-before g a n ps h
  more-new (after {a} {n} {ps} {p} h s) z = more-after g a n ps h ∙ ap (λ (l : List ℕ). a ∷ n ∷ l) (more-new s z) ∙ sym (rw (twice-suc p) refl)

  pub less-place : {ps : List ℕ} {p m : ℕ} → Spot g ps p m → m ≡ 1 → one_less g ps ≡ take (2 * p) ps ++ drop (2 * p + 2) ps
  less-place none z = absurd (omega arith)
  less-place (here {n} {ps} h) z = less-gone g g n ps refl z
  less-place (before h) z = absurd (omega arith)
  less-place (after {a} {n} {ps} {p} h s) z =
      let e : 2 * suc p + 2 ≡ suc (suc (2 * p + 2)) = omega arith in
      less-after g a n ps (λ q. omega arith) ∙ ap (λ (l : List ℕ). a ∷ n ∷ l) (less-place s z) ∙ sym (rw (e, twice-suc p) refl)

  pub less-number : {ps : List ℕ} {p m : ℕ} → Spot g ps p m → 2 ≤ m → one_less g ps ≡ set ps (2 * p + 1) (pred m)
  less-number none k = absurd (omega arith)
  less-number (here {n} {ps} h) k = less-there g g n ps refl (λ e. omega arith)
  less-number (before h) k = absurd (omega arith)
  less-number (after {a} {n} {ps} {p} {m} h s) k = less-after g a n ps (λ q. omega arith) ∙ ap (λ (l : List ℕ). a ∷ n ∷ l) (less-number s k) ∙ sym (set-suc a n p (pred m) ps)

  -- ---- groups rise still

  pub rises-more : {ps : List ℕ} {p m : ℕ} → Spot g ps p m → (lo : ℕ) → lo < g → Rises lo ps → Rises lo (one_more g ps)
  unfolding one_more
  rises-more none lo l r = (l, (omega arith, tt))
  rises-more (here {n} {ps} h) lo l r = subst (Rises lo) (sym (more-there g g n ps refl)) (l, (omega arith, r.1.1))
  rises-more (before {a} {n} {ps} h) lo l r = subst (Rises lo) (sym (more-before g a n ps h)) (l, (omega arith, (h, r.1)))
  rises-more (after {a} {n} {ps} h s) lo l r = subst (Rises lo) (sym (more-after g a n ps h)) (r.0, (r.1.0, rises-more s a h r.1.1))

  pub rises-less : {ps : List ℕ} {p m : ℕ} → Spot g ps p m → 1 ≤ m → (lo : ℕ) → Rises lo ps → Rises lo (one_less g ps)
  rises-less none k lo r = absurd (omega arith)
  rises-less (here {n} {ps} h) k lo r =
      split (eqb n 1)
      (λ t. subst (Rises lo) (sym (less-gone g g n ps refl (eqb-true n 1 t))) (rises-lower lo g ps (omega (arith, r.0)) r.1.1))
      (λ t. let d = eqb-false n 1 t in subst (Rises lo) (sym (less-there g g n ps refl d)) (r.0, (omega arith, r.1.1)))
  rises-less (before h) k lo r = absurd (omega arith)
  rises-less (after {a} {n} {ps} h s) k lo r = subst (Rises lo) (sym (less-after g a n ps (λ e. omega arith))) (r.0, (r.1.0, rises-less s k a r.1.1))
