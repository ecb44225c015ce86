-- Pairs whose groups have places in a list. Where the numbers of all places together are as many as the pairs, and no group has more pairs
-- than its place says, each number is a full count and each pair's group has a place.
use Rattle.std.specs.Prelude.{ℕ, zero, suc, ◌+◌, ◌*◌, ◌≤◌, ◌<◌, ◌≡◌, refl, Bool, true, false, cond, List, leb, ltb, ℤ, nat_abs, length}
use Rattle.std.proofs.Common.{sym, ◌∙◌, ap, arith, ltb-true, ltb-false, leb-true, leb-false}
use Rattle.language.specs.Basics.{eq_z}
use Rattle.language.specs.Table.{members}
use Rattle.laws.specs.Tests.{eq_z-true, eq_z-refl, ne-eq_z}
use Rattle.laws.specs.Tables.{group_at, counts, members-zero, members-next}
use Rattle.table_places.specs.Places.{group_in, number_in, Rising}
use Rattle.table_totals.specs.Totals.{total, total-alike, total-both, total-equal, total-zero, total-one, total-some}

-- one of the first n places has the group
pub record HasPlace (l : List ℤ) (n : ℕ) (g : ℤ) : Type 0 where
  pub place : ℕ
  pub within : place < n
  pub group : group_at place l ≡ g

-- how many of the first i pairs are of the group of place p
abbrev pub members_of : List ℤ → ℕ → List ℤ → ℕ → ℕ
members_of ws i l p = members (group_at p l) i ws

-- the groups of the first i pairs have places
abbrev pub Placed : List ℤ → ℕ → List ℤ → ℕ → Type 0
Placed ws i l n = (j : ℕ) → j < i → HasPlace l n (group_at j ws)

-- each number is a full count
abbrev pub Tallied : List ℤ → ℕ → List ℤ → ℕ → Type 0
Tallied ws count l n = (p : ℕ) → p < n → number_in l p ≡ members_of ws count l p

-- ---- counts of a group

-- more pairs have no fewer members
pub members-rise : (g : ℤ) (ws : List ℤ) (i n : ℕ) → i ≤ n → 2 * n ≤ length ws → members g i ws ≤ members g n ws
members-rise g ws i zero l h = let z : i ≡ 0 = omega arith in rw z (omega arith)
members-rise g ws i (suc n) l h = go (leb i n) refl (λ b. members-rise g ws i n b (omega arith))
  where
    go : (t : Bool) → leb i n ≡ t → (i ≤ n → members g i ws ≤ members g n ws) → members g i ws ≤ members g (suc n) ws
    go true q before = omega (arith, before (leb-true i n q), members-next g n ws h)
    go false q before = let z : i ≡ suc n = omega (arith, leb-false i n q) in rw z (omega arith)

-- a pair is a member of its group
pub member-itself : (ws : List ℤ) (i n : ℕ) → i < n → 2 * n ≤ length ws → 1 ≤ members (group_at i ws) n ws
member-itself ws i n b h =
    let g = group_at i ws in
    let c : counts g i ws ≡ 1 = rw (eq_z-refl g) in
    omega (arith, c, members-next g i ws (omega arith), members-rise g ws (suc i) n b h)

-- ---- one pair more

module _ {n : ℕ} {l : List ℤ} (rising : Rising n l) where
  -- two places have two groups
  pub apart_in : (p q : ℕ) → p < n → q < n → group_in l p ≡ group_in l q → p ≡ q
  apart_in p q a b same = go (ltb p q) refl (ltb q p) refl
    where
      go : (x : Bool) → ltb p q ≡ x → (y : Bool) → ltb q p ≡ y → p ≡ q
      go true c y d = absurd (omega (arith, rising.rises p q (ltb-true p q c) b))
      go false c true d = absurd (omega (arith, rising.rises q p (ltb-true q p d) a))
      go false c false d = omega (arith, ltb-false p q c, ltb-false q p d)

  pub apart : (p q : ℕ) → p < n → q < n → group_at p l ≡ group_at q l → p ≡ q
  apart p q a b e = apart_in p q a b (ap nat_abs e)

  module _ (ws : List ℤ) where
    -- what the pair at i adds, place by place
    abbrev adds : ℕ → ℕ → ℕ
    adds i p = counts (group_at p l) i ws

    one : (i p : ℕ) → group_at p l ≡ group_at i ws → adds i p ≡ 1
    one i p e = rw (e, eq_z-refl (group_at i ws))

    none : (i p : ℕ) → (group_at i ws ≡ group_at p l → ⊥) → adds i p ≡ 0
    none i p h = rw (ne-eq_z (group_at i ws) (group_at p l) h)

    some : (i p : ℕ) → 1 ≤ adds i p → group_at p l ≡ group_at i ws
    some i p h = go (eq_z (group_at i ws) (group_at p l)) refl h
      where
        go : (t : Bool) → eq_z (group_at i ws) (group_at p l) ≡ t → 1 ≤ cond t 1 0 → group_at p l ≡ group_at i ws
        go true e k = sym (eq_z-true (group_at i ws) (group_at p l) e)
        go false e k = absurd (omega arith)

    -- the group has a place
    adds_one : (i : ℕ) → HasPlace l n (group_at i ws) → total (adds i) n ≡ 1
    adds_one i h =
        total-one (adds i) n h.place h.within (λ q b d. none i q (λ e. d (apart q h.place b h.within (sym e ∙ sym h.group)))) ∙ one i h.place h.group

    adds-some : (i : ℕ) → 1 ≤ total (adds i) n → HasPlace l n (group_at i ws)
    adds-some i h =
        let s = total-some (adds i) n h in
        record { place = s.place; within = s.within; group = some i s.place s.some }

    adds-most : (i : ℕ) → total (adds i) n ≤ 1
    adds-most i = go (ltb 0 (total (adds i) n)) refl
      where
        go : (b : Bool) → ltb 0 (total (adds i) n) ≡ b → total (adds i) n ≤ 1
        go true e = omega (arith, adds_one i (adds-some i (ltb-true 0 (total (adds i) n) e)))
        go false e = omega (arith, ltb-false 0 (total (adds i) n) e)

    pub members-more : (i : ℕ) → 2 * suc i ≤ length ws → total (members_of ws (suc i) l) n ≡ total (members_of ws i l) n + total (adds i) n
    members-more i h =
        total-alike (members_of ws (suc i) l) (λ p. members_of ws i l p + adds i p) n (λ p b. members-next (group_at p l) i ws h) ∙
        total-both (members_of ws i l) (adds i) n

    pub members-placed : (i : ℕ) → 2 * suc i ≤ length ws → HasPlace l n (group_at i ws) → total (members_of ws (suc i) l) n ≡ suc (total (members_of ws i l) n)
    members-placed i h p = omega (arith, members-more i h, adds_one i p)

    pub members-other :
        (i : ℕ) → 2 * suc i ≤ length ws → ((p : ℕ) → p < n → group_at p l ≡ group_at i ws → ⊥) → total (members_of ws (suc i) l) n ≡ total (members_of ws i l) n
    members-other i h d = omega (arith, members-more i h, total-zero (adds i) n (λ p b. none i p (λ e. d p b (sym e))))

    -- ---- all pairs

    pub members-none : total (members_of ws 0 l) n ≡ 0
    members-none = total-zero (members_of ws 0 l) n (λ p b. members-zero (group_at p l) ws)

    pub placed_total : (i : ℕ) → 2 * i ≤ length ws → Placed ws i l n → total (members_of ws i l) n ≡ i
    placed_total zero h placed = members-none
    placed_total (suc i) h placed =
        members-placed i h (placed i (omega arith)) ∙ ap suc (placed_total i (omega arith) (λ j b. placed j (omega arith)))

    total-most : (i : ℕ) → 2 * i ≤ length ws → total (members_of ws i l) n ≤ i
    total-most zero h = omega (arith, members-none)
    total-most (suc i) h = omega (arith, members-more i h, adds-most i, total-most i (omega arith))

    pub total-placed : (i : ℕ) → 2 * i ≤ length ws → total (members_of ws i l) n ≡ i → Placed ws i l n
    total-placed zero h e j b = absurd (omega arith)
    total-placed (suc i) h e j b =
        let most = total-most i (omega arith) in
        let one = adds-most i in
        let next = members-more i h in
        go (ltb j i) refl (λ b. total-placed i (omega arith) (omega (arith, most, one, next)) j b) (omega (arith, most, one, next))
      where
        go : (t : Bool) → ltb j i ≡ t → (j < i → HasPlace l n (group_at j ws)) → 1 ≤ total (adds i) n → HasPlace l n (group_at j ws)
        go true q before more = before (ltb-true j i q)
        go false q before more =
            let z : j ≡ i = omega (arith, ltb-false j i q) in
            rw z (adds-some i more)

    -- ---- the numbers

    pub tallied-placed : (count : ℕ) → 2 * count ≤ length ws → total (number_in l) n ≡ count → Tallied ws count l n → Placed ws count l n
    tallied-placed count h sum tallied = total-placed count h (sym (total-alike (number_in l) (members_of ws count l) n tallied) ∙ sum)

    pub few-tallied : (count : ℕ) → total (number_in l) n ≡ count → total (members_of ws count l) n ≡ count → ((p : ℕ) → p < n → members_of ws count l p ≤ number_in l p) →
        Tallied ws count l n
    few-tallied count sum all few p b = sym (total-equal (members_of ws count l) (number_in l) n few (all ∙ sym sum) p b)
