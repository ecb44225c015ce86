-- The list that `group_list` computes, in natural numbers: `tallied-places`. Of a table whose numbers are at least 1 it has the groups that a full
-- count finds, each with its number.
use Rattle.std.specs.Prelude.{ℕ, zero, suc, ◌+◌, ◌*◌, ◌≤◌, ◌<◌, Bool, true, false, ◌&&◌, cond, List, [], ◌∷◌, ◌++◌, map, ◌≡◌, refl, eqb, ltb, ℤ, pos, negsuc, length}
use Rattle.std.proofs.Common.{add-one, arith, sym, ap, ap₂, ◌∙◌, subst, eq-eqb, ne_eqb}
use Rattle.std.proofs.lemmas.List.{length-map}
use Rattle.language.specs.Basics.{eq_z}
use Rattle.language.specs.Table.{Table, members, size, at_least_one, numbers_right}
use Rattle.language.specs.Groups.{raise, tallied}
use Rattle.laws.specs.Tests.{split, both, eq_z-true, ne-eq_z, eq_z-refl}
use Rattle.laws.specs.Tables.{members-zero, members-front}
use Rattle.table_laws.specs.Places.{Tallies, one_more, tallies-more}

-- a number of at least 1
pub natural : (z : ℤ) → at_least_one z ≡ true → (n : ℕ) × ((z ≡ pos (suc n)))
unfolding at_least_one
natural (pos zero) e = let q : ◌≡◌ {A = Bool} false true = e in let f : ◌≡◌ {A = ℕ} 0 1 = cc in absurd (omega arith)
natural (pos (suc n)) e = (n, refl)
natural (negsuc n) e = let q : ◌≡◌ {A = Bool} false true = e in let f : ◌≡◌ {A = ℕ} 0 1 = cc in absurd (omega arith)

-- one member more, in words
pub raise-places : (g : ℕ) (ps : List ℕ) → raise (pos g) (map pos ps) ≡ map pos (one_more g ps)
unfolding raise one_more eq_z
raise-places g [] = refl
raise-places g (a ∷ []) = refl
raise-places g (a ∷ n ∷ ps) = go (eqb a g) (ltb g a) (raise (pos g) (map pos ps)) (one_more g ps) (raise-places g ps)
  where
    go : (s t : Bool) (ws : List ℤ) (qs : List ℕ) → ws ≡ map pos qs
        → elim s as (λ x. List ℤ) [ true ↦ pos a ∷ pos (n + 1) ∷ map pos ps | false ↦ elim t [ true ↦ pos g ∷ pos 1 ∷ pos a ∷ pos n ∷ map pos ps | false ↦ pos a ∷ pos n ∷ ws ] ]
        ≡ map pos (elim s as (λ x. List ℕ) [ true ↦ a ∷ suc n ∷ ps | false ↦ elim t [ true ↦ g ∷ 1 ∷ a ∷ n ∷ ps | false ↦ a ∷ n ∷ qs ] ])
    go true t ws qs e = ap (λ (k : ℕ). pos a ∷ pos k ∷ map pos ps) (add-one n)
    go false true ws qs e = refl
    go false false ws qs e = ap (λ (l : List ℤ). pos a ∷ pos n ∷ l) e

more-length : (g : ℕ) (ps : List ℕ) → length (one_more g ps) ≤ length ps + 2
unfolding one_more
more-length g [] = omega arith
more-length g (a ∷ []) = omega arith
more-length g (a ∷ n ∷ ps) = go (eqb a g) (ltb g a) (one_more g ps) (more-length g ps)
  where
    go : (s t : Bool) (qs : List ℕ) → length qs ≤ length ps + 2
        → length {A = ℕ} (elim s as (λ x. List ℕ) [ true ↦ a ∷ suc n ∷ ps | false ↦ elim t [ true ↦ g ∷ 1 ∷ a ∷ n ∷ ps | false ↦ a ∷ n ∷ qs ] ]) ≤ suc (suc (length ps)) + 2
    go true t qs h = omega arith
    go false true qs h = omega arith
    go false false qs h = omega arith

-- how many of the first k pairs are of a group, by its natural number
abbrev pub counting : ℕ → List ℤ → ℕ → ℕ
counting k ws g = members (pos g) k ws

-- places, each with the number that is counted
pub record Placed (k : ℕ) (ws : List ℤ) : Type 0 where
  pub places : List ℕ
  pub tallies : Tallies 0 (counting k ws) places
  pub few : length places ≤ 2 * k
  pub are : tallied k ws ≡ map pos places

next-counts : (k : ℕ) (a : ℕ) (b : ℤ) (ws : List ℤ) (g : ℕ) (t : Bool) → eqb a g ≡ t → counting (suc k) (pos a ∷ b ∷ ws) g ≡ counting k ws g + cond t 1 0
unfolding eq_z
next-counts k a b ws g t e = members-front (pos g) k (pos a) b ws ∙ ap (λ (x : Bool). counting k ws g + cond x 1 0) e

pub tallied-places : (k : ℕ) (ws : List ℤ) → 2 * k ≤ length ws → numbers_right k ws ≡ true → Placed k ws
unfolding tallied numbers_right
tallied-places zero ws f e = record { places = []; tallies = λ g l. members-zero (pos g) ws; few = omega arith; are = refl }
tallied-places (suc k) [] f e = absurd (omega arith)
tallied-places (suc k) (a ∷ []) f e = absurd (omega arith)
tallied-places (suc k) (a ∷ b ∷ ws) f e =
    let ones = both (at_least_one a && at_least_one b) (numbers_right k ws) e in
    let n = natural a (both (at_least_one a) (at_least_one b) ones.0).0 in
    further n.0 n.1 (tallied-places k ws (omega arith) ones.1)
  where
    further : (n : ℕ) → a ≡ pos (suc n) → Placed k ws → Placed (suc k) (a ∷ b ∷ ws)
    further n q p =
        subst (λ (z : ℤ). Placed (suc k) (z ∷ b ∷ ws)) (sym q)
        (record {
          places = one_more (suc n) p.places;
          tallies = tallies-more (suc n) (counting k ws) (counting (suc k) (pos (suc n) ∷ b ∷ ws)) (λ g d. others g d) here 0 (omega arith) p.places p.tallies;
          few = omega (arith, more-length (suc n) p.places, p.few);
          are = ap (raise (pos (suc n))) p.are ∙ raise-places (suc n) p.places;
        })
      where
        others : (g : ℕ) → (g ≡ suc n → ⊥) → counting (suc k) (pos (suc n) ∷ b ∷ ws) g ≡ counting k ws g
        others g d = next-counts k (suc n) b ws g false (ne_eqb (suc n) g (λ q. d (sym q))) ∙ omega arith

        here : counting (suc k) (pos (suc n) ∷ b ∷ ws) (suc n) ≡ suc (counting k ws (suc n))
        here = next-counts k (suc n) b ws (suc n) true (eq-eqb (suc n) (suc n) refl) ∙ omega arith
