-- What `right limit t` says, free of the order in which its tests are made: `right-means` and `right-holds` go to and fro.
use Rattle.std.specs.Prelude.{ℕ, zero, suc, ◌*◌, ◌%◌, ◌≤◌, ◌<◌, ◌⊎◌, ◌≡◌, refl, Bool, true, not, ◌&&◌, List, [], ◌∷◌, eqb, leb, ℤ, length}
use Rattle.std.proofs.Common.{not-suc-le-zero, le_of_suc-le-suc, arith, inl, inr, sym, ap, ◌∙◌, subst, eqb-true, eq-eqb, leb-true, le-leb}
use Rattle.std.proofs.Math.Bool.{and-eq-true_iff}
use Rattle.std.proofs.lemmas.Bool.{not-true}
use Rattle.language.specs.Table.{Table, find, is_some, members, size, at_least_one, numbers_right, none_twice, groups_within, right}
use Rattle.laws.specs.Tests.{both}
use Rattle.laws.specs.Tables.{group_at, member_at, group_at-suc, member_at-suc}
use Rattle.table_laws.specs.Pairs.{At, below_or, absent, find_absent, members-where}

-- Of the pairs in use: both numbers are at least 1, equal pairs are at the same place, and each group has at most limit members.
pub record Right (limit : ℕ) (t : Table) : Type 0 where
  pub even : length t.words % 2 ≡ 0
  pub fits : 2 * t.used ≤ length t.words
  pub numbers : (i : ℕ) → i < t.used → (at_least_one (group_at i t.words) ≡ true) × (at_least_one (member_at i t.words) ≡ true)
  pub once : (i j : ℕ) → i < t.used → j < t.used → At i t.words (group_at j t.words) (member_at j t.words) → i ≡ j
  pub within : (g : ℤ) → size g t ≤ limit

and : (a b : Bool) → a ≡ true → b ≡ true → a && b ≡ true
and a b p q = (and-eq-true_iff a b).1 (p, q)

abbrev pub Numbers : ℕ → List ℤ → Type 0
Numbers k ws = (i : ℕ) → i < k → (at_least_one (group_at i ws) ≡ true) × (at_least_one (member_at i ws) ≡ true)

pub numbers-means : (k : ℕ) (ws : List ℤ) → 2 * k ≤ length ws → numbers_right k ws ≡ true → Numbers k ws
unfolding numbers_right
numbers-means zero ws f e i l = absurd (not-suc-le-zero l)
numbers-means (suc k) [] f e i l = absurd (omega arith)
numbers-means (suc k) (a ∷ []) f e i l = absurd (omega arith)
numbers-means (suc k) (a ∷ b ∷ ws) f e zero l = both (at_least_one a) (at_least_one b) (both (at_least_one a && at_least_one b) (numbers_right k ws) e).0
numbers-means (suc k) (a ∷ b ∷ ws) f e (suc i) l =
    rw (group_at-suc i a b ws, member_at-suc i a b ws) (numbers-means k ws (omega arith) (both (at_least_one a && at_least_one b) (numbers_right k ws) e).1 i (le_of_suc-le-suc l))

numbers-hold : (k : ℕ) (ws : List ℤ) → Numbers k ws → numbers_right k ws ≡ true
unfolding numbers_right
numbers-hold zero ws h = refl
numbers-hold (suc k) [] h = refl
numbers-hold (suc k) (a ∷ []) h = refl
numbers-hold (suc k) (a ∷ b ∷ ws) h =
    and (at_least_one a && at_least_one b) (numbers_right k ws) (and (at_least_one a) (at_least_one b) (h 0 (omega arith)).0 (h 0 (omega arith)).1) (numbers-hold k ws (λ i l. rw (group_at-suc i a b ws, member_at-suc i a b ws) at (h (suc i) (omega arith))))

-- no pair stands again after itself
abbrev Once : ℕ → List ℤ → Type 0
Once k ws = (i j : ℕ) → i < j → j < k → At j ws (group_at i ws) (member_at i ws) → ⊥

once-means : (k : ℕ) (ws : List ℤ) → 2 * k ≤ length ws → none_twice k ws ≡ true → Once k ws
unfolding none_twice
once-means zero ws f e i j l m p = absurd (not-suc-le-zero m)
once-means (suc k) [] f e i j l m p = absurd (omega arith)
once-means (suc k) (a ∷ []) f e i j l m p = absurd (omega arith)
once-means (suc k) (a ∷ b ∷ ws) f e i zero l m p = absurd (omega arith)
once-means (suc k) (a ∷ b ∷ ws) f e zero (suc j) l m p =
    absent a b k ws (omega arith) (not-true (is_some (find a b k ws)) (both (not (is_some (find a b k ws))) (none_twice k ws) e).0) j (omega arith) (sym (group_at-suc j a b ws) ∙ p.0, sym (member_at-suc j a b ws) ∙ p.1)
once-means (suc k) (a ∷ b ∷ ws) f e (suc i) (suc j) l m p =
    once-means k ws (omega arith) (both (not (is_some (find a b k ws))) (none_twice k ws) e).1 i j (omega arith) (omega arith) (sym (group_at-suc j a b ws) ∙ p.0 ∙ group_at-suc i a b ws, sym (member_at-suc j a b ws) ∙ p.1 ∙ member_at-suc i a b ws)

once-hold : (k : ℕ) (ws : List ℤ) → 2 * k ≤ length ws → Once k ws → none_twice k ws ≡ true
unfolding none_twice
once-hold zero ws f h = refl
once-hold (suc k) [] f h = refl
once-hold (suc k) (a ∷ []) f h = refl
once-hold (suc k) (a ∷ b ∷ ws) f h =
    and (not (is_some (find a b k ws))) (none_twice k ws)
    (ap not (find_absent a b k ws (omega arith) (λ j l p. h 0 (suc j) (omega arith) (omega arith) (group_at-suc j a b ws ∙ p.0, member_at-suc j a b ws ∙ p.1))))
    (once-hold k ws (omega arith) (λ i j l m p. h (suc i) (suc j) (omega arith) (omega arith) (group_at-suc j a b ws ∙ p.0 ∙ sym (group_at-suc i a b ws), member_at-suc j a b ws ∙ p.1 ∙ sym (member_at-suc i a b ws))))

abbrev Within : ℕ → Table → ℕ → List ℤ → Type 0
Within limit t k ws = (i : ℕ) → i < k → size (group_at i ws) t ≤ limit

pub within-means : (limit : ℕ) (t : Table) (k : ℕ) (ws : List ℤ) → 2 * k ≤ length ws → groups_within limit t k ws ≡ true → Within limit t k ws
unfolding groups_within
within-means limit t zero ws f e i l = absurd (not-suc-le-zero l)
within-means limit t (suc k) [] f e i l = absurd (omega arith)
within-means limit t (suc k) (a ∷ []) f e i l = absurd (omega arith)
within-means limit t (suc k) (a ∷ b ∷ ws) f e zero l = leb-true (size a t) limit (both (leb (size a t) limit) (groups_within limit t k ws) e).0
within-means limit t (suc k) (a ∷ b ∷ ws) f e (suc i) l =
    rw (group_at-suc i a b ws) (within-means limit t k ws (omega arith) (both (leb (size a t) limit) (groups_within limit t k ws) e).1 i (le_of_suc-le-suc l))

pub within-hold : (limit : ℕ) (t : Table) (k : ℕ) (ws : List ℤ) → ((g : ℤ) → size g t ≤ limit) → groups_within limit t k ws ≡ true
unfolding groups_within
within-hold limit t zero ws h = refl
within-hold limit t (suc k) [] h = refl
within-hold limit t (suc k) (a ∷ []) h = refl
within-hold limit t (suc k) (a ∷ b ∷ ws) h = and (leb (size a t) limit) (groups_within limit t k ws) (le-leb (size a t) limit (h a)) (within-hold limit t k ws h)

-- a group without a place in use has no members
pub within_all : (limit : ℕ) (t : Table) → 2 * t.used ≤ length t.words → Within limit t t.used t.words → (g : ℤ) → size g t ≤ limit
unfolding size
within_all limit t f h g = go (members-where g t.used t.words f)
  where
    go : (members g t.used t.words ≡ 0) ⊎ ((i : ℕ) × (i < t.used) × (group_at i t.words ≡ g)) → members g t.used t.words ≤ limit
    go (inl e) = omega arith
    go (inr p) = subst (λ x. members x t.used t.words ≤ limit) p.2 (h p.0 p.1)

once-same : (k : ℕ) (ws : List ℤ) → Once k ws → (i j : ℕ) → i < k → j < k → At i ws (group_at j ws) (member_at j ws) → i ≡ j
once-same k ws h i j l m p = go (below_or i j)
  where
    go : (i ≡ j) ⊎ ((i < j) ⊎ (j < i)) → i ≡ j
    go (inl e) = e
    go (inr (inl b)) = absurd (h i j b m (sym p.0, sym p.1))
    go (inr (inr b)) = absurd (h j i b l p)

pub right-means : (limit : ℕ) (t : Table) → right limit t ≡ true → Right limit t
unfolding right
right-means limit t e =
    let k = t.used in
    let ws = t.words in
    let p4 = both (eqb (length ws % 2) 0 && leb (2 * k) (length ws) && numbers_right k ws && none_twice k ws) (groups_within limit t k ws) e in
    let p3 = both (eqb (length ws % 2) 0 && leb (2 * k) (length ws) && numbers_right k ws) (none_twice k ws) p4.0 in
    let p2 = both (eqb (length ws % 2) 0 && leb (2 * k) (length ws)) (numbers_right k ws) p3.0 in
    let p1 = both (eqb (length ws % 2) 0) (leb (2 * k) (length ws)) p2.0 in
    let f = leb-true (2 * k) (length ws) p1.1 in
    record { even = eqb-true (length ws % 2) 0 p1.0; fits = f; numbers = numbers-means k ws f p2.1; once = once-same k ws (once-means k ws f p3.1); within = within_all limit t f (within-means limit t k ws f p4.1) }

pub right-holds : (limit : ℕ) (t : Table) → Right limit t → right limit t ≡ true
unfolding right
right-holds limit t r =
    let k = t.used in
    let ws = t.words in
    and (eqb (length ws % 2) 0 && leb (2 * k) (length ws) && numbers_right k ws && none_twice k ws) (groups_within limit t k ws)
    (and (eqb (length ws % 2) 0 && leb (2 * k) (length ws) && numbers_right k ws) (none_twice k ws)
    (and (eqb (length ws % 2) 0 && leb (2 * k) (length ws)) (numbers_right k ws)
    (and (eqb (length ws % 2) 0) (leb (2 * k) (length ws)) (eq-eqb (length ws % 2) 0 r.even) (le-leb (2 * k) (length ws) r.fits)) (numbers-hold k ws r.numbers))
    (once-hold k ws r.fits (λ i j l m p. let e : j ≡ i = r.once j i m (omega arith) p in omega arith)))
    (within-hold limit t k ws r.within)

-- the numbers' test by itself
pub right-numbers : (limit : ℕ) (t : Table) → right limit t ≡ true → numbers_right t.used t.words ≡ true
right-numbers limit t e = numbers-hold t.used t.words (right-means limit t e).numbers
