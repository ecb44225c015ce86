-- The rules of a right table, said of each place: the numbers, the pairs and the groups.
use Prim.Native.Nat.{ℕ, zero, suc, ◌+◌, ◌*◌, ◌<◌, ◌≤◌}
use mathlib.Core.Path.{◌≡◌, refl, sym, ◌∙◌, ap, ap₂}
use mathlib.Core.Bool.{Bool, true, false, not, ◌&&◌, ◌||◌, cond, and-true, and-false, and_assoc, or-true, or-false}
use mathlib.Core.List.{List, ◌∷◌}
use mathlib.Core.Option.{Option, none, some}
use native.Mathlib.Omega.{arith}
use borrow.Author.Tests.{le-leb, lt-leb, leb-true, lt-ltb}
use lib.Dec.{leb, ltb}
use lib.IntN.{ℤ}
use lib.ListN.{length}
use Rattle.language.specs.Basics.{eq_z}
use Rattle.language.specs.Table.{Table, find, is_some, members, size, at_least_one, numbers_right, none_twice, groups_within}
use Rattle.laws.specs.Tests.{eq_z-true, eq_z-refl}
use Rattle.laws.specs.Tables.{group_at, member_at, group_at-suc, member_at-suc, pair_is, front, or_else, find-front, find-zero, find-next, members-zero, members-next}
use Rattle.table_pairs.specs.Outcomes.{table_of}
use Rattle.table_search.proofs.Pairs.{Room, here, next, room, room_fits}
use Rattle.table_keys.specs.Keys.{each, same, more, alike, rank_at, within}
use Rattle.table_keys.proofs.Each.{each-true, each_at, each-is, each_same}
use Rattle.table_keys.proofs.Keys.{alike-within, rank-next, rank_rises, bounded}

both_ways : (a b : Bool) → (a ≡ true → b ≡ true) → (b ≡ true → a ≡ true) → a ≡ b
both_ways true b h k = sym (h refl)
both_ways false true h k = k refl
both_ways false false h k = refl

at_place : (ws : List ℤ) (n i : ℕ) → 2 * n ≤ length ws → i < n → Room i ws
at_place ws n i f h = room i ws (omega arith)

-- ---- every number is at least 1

abbrev pub numbers_at : List ℤ → ℕ → Bool
numbers_at ws i = at_least_one (group_at i ws) && at_least_one (member_at i ws)

numbers_more : {i : ℕ} {ws : List ℤ} → Room i ws → numbers_right (suc i) ws ≡ (numbers_right i ws && numbers_at ws i)
unfolding numbers_right
numbers_more (here {a} {b} {ws}) = and-true (at_least_one a && at_least_one b)
numbers_more (next {i} {a} {b} {ws} r) =
    ap (λ (t : Bool). at_least_one a && at_least_one b && t) (numbers_more r) ∙ rw (group_at-suc, member_at-suc) (sym (and_assoc (at_least_one a && at_least_one b) (numbers_right i ws) (numbers_at ws i)))

pub numbers-each : (ws : List ℤ) (n : ℕ) → 2 * n ≤ length ws → numbers_right n ws ≡ each (numbers_at ws) n
unfolding numbers_right
numbers-each ws n f = each-is (numbers_at ws) (λ i. numbers_right i ws) n refl (λ i h. numbers_more (at_place ws n i f h))

-- ---- no pair stands twice

abbrev new_at : List ℤ → ℕ → Bool
new_at ws i = not (is_some (find (group_at i ws) (member_at i ws) i ws))

eq_z-sym : (a b : ℤ) → eq_z a b ≡ eq_z b a
eq_z-sym a b =
    both_ways (eq_z a b) (eq_z b a) (λ e. rw (eq_z-true a b e) (eq_z-refl b)) (λ e. rw (eq_z-true b a e) (eq_z-refl a))

some-or_else : (r : Option ℕ) (t : Bool) (i : ℕ) → is_some (or_else r t i) ≡ (is_some r || t)
unfolding is_some
some-or_else none true i = refl
some-or_else none false i = refl
some-or_else (some j) t i = refl

some-front : (t : Bool) (r : Option ℕ) → is_some (front t r) ≡ (t || is_some r)
unfolding is_some
some-front true r = refl
some-front false none = refl
some-front false (some i) = refl

turned : (p q x y : Bool) → (not (p || q) && (x && not y)) ≡ ((not p && x) && not (q || y))
turned true q x y = refl
turned false true x y = sym (and-false x)
turned false false x y = refl

twice-more : {i : ℕ} {ws : List ℤ} → Room i ws → none_twice (suc i) ws ≡ (none_twice i ws && new_at ws i)
unfolding none_twice is_some
twice-more (here {a} {b} {ws}) = rw (find-zero a b ws, find-zero a b (a ∷ b ∷ ws))
twice-more (next {i} {a} {b} {ws} r) =
    let g = group_at i ws in
    let m = member_at i ws in
    let e = ap is_some (find-next a b i ws (room_fits r)) ∙ some-or_else (find a b i ws) (pair_is a b i ws) i in
    let f =
    ap is_some (find-front g m i a b ws) ∙ some-front (eq_z a g && eq_z b m) (find g m i ws) ∙
    ap (λ (t : Bool). t || is_some (find g m i ws)) (ap₂ ◌&&◌ (eq_z-sym a g) (eq_z-sym b m))
    in
    ap₂ (λ (s t : Bool). not s && t) e (twice-more r) ∙ turned (is_some (find a b i ws)) (pair_is a b i ws) (none_twice i ws) (is_some (find g m i ws)) ∙
    rw (group_at-suc, member_at-suc) (sym (ap (λ (s : Bool). (not (is_some (find a b i ws)) && none_twice i ws) && not s) f))

none_twice-each : (ws : List ℤ) (n : ℕ) → 2 * n ≤ length ws → none_twice n ws ≡ each (new_at ws) n
unfolding none_twice
none_twice-each ws n f = each-is (new_at ws) (λ i. none_twice i ws) n refl (λ i h. twice-more (at_place ws n i f h))

some_alike : (g m : ℤ) (ws : List ℤ) (n : ℕ) → 2 * n ≤ length ws → is_some (find g m n ws) ≡ ltb 0 (alike true g m n ws)
unfolding is_some alike same more
some_alike g m ws zero f = rw (find-zero g m ws)
some_alike g m ws (suc n) f =
    ap is_some (find-next g m n ws f) ∙ some-or_else (find g m n ws) (pair_is g m n ws) n ∙ go (pair_is g m n ws) (some_alike g m ws n (omega arith))
  where
    go : (t : Bool) → is_some (find g m n ws) ≡ ltb 0 (alike true g m n ws) → (is_some (find g m n ws) || t) ≡ ltb 0 (more t (alike true g m n ws))
    go true e = or-true (is_some (find g m n ws)) ∙ sym (lt-ltb 0 (suc (alike true g m n ws)) (omega arith))
    go false e = or-false (is_some (find g m n ws)) ∙ e

new-rank : (ws : List ℤ) (i : ℕ) → 2 * i ≤ length ws → new_at ws i ≡ leb (rank_at true i ws) 1
new-rank ws i f =
    ap not (some_alike (group_at i ws) (member_at i ws) ws i f) ∙ go (alike true (group_at i ws) (member_at i ws) i ws) ∙ ap (λ (n : ℕ). leb n 1) (sym (rank-next true i ws))
  where
    go : (x : ℕ) → not (ltb 0 x) ≡ leb (suc x) 1
    go zero = refl
    go (suc x) = rw (lt-ltb 0 (suc x) (omega arith), lt-leb (suc (suc x)) 1 (omega arith))

pub twice-within : (ws : List ℤ) (n : ℕ) → 2 * n ≤ length ws → none_twice n ws ≡ within true 1 n ws
unfolding within
twice-within ws n f = none_twice-each ws n f ∙ each_same (new_at ws) (λ i. leb (rank_at true i ws) 1) n (λ i h. new-rank ws i (omega arith))

-- ---- no group is too large

members_alike : (g m : ℤ) (ws : List ℤ) (n : ℕ) → 2 * n ≤ length ws → members g n ws ≡ alike false g m n ws
unfolding alike same more
members_alike g m ws zero f = members-zero g ws
members_alike g m ws (suc n) f = members-next g n ws f ∙ go (eq_z (group_at n ws) g) ∙ ap (more (eq_z (group_at n ws) g)) (members_alike g m ws n (omega arith))
  where
    go : (t : Bool) → members g n ws + cond t 1 0 ≡ more t (members g n ws)
    go true = omega arith
    go false = omega arith

groups-more : (limit : ℕ) (t : Table) {i : ℕ} {ws : List ℤ} → Room i ws → groups_within limit t (suc i) ws ≡ (groups_within limit t i ws && leb (size (group_at i ws) t) limit)
unfolding groups_within
groups-more limit t (here {a} {b} {ws}) = and-true (leb (size a t) limit)
groups-more limit t (next {i} {a} {b} {ws} r) =
    ap (λ (s : Bool). leb (size a t) limit && s) (groups-more limit t r) ∙ rw group_at-suc (sym (and_assoc (leb (size a t) limit) (groups_within limit t i ws) (leb (size (group_at i ws) t) limit)))

abbrev size_at : ℕ → Table → List ℤ → ℕ → Bool
size_at limit t ws i = leb (size (group_at i ws) t) limit

groups-each : (limit : ℕ) (t : Table) (ws : List ℤ) (n : ℕ) → 2 * n ≤ length ws → groups_within limit t n ws ≡ each (size_at limit t ws) n
unfolding groups_within
groups-each limit t ws n f = each-is (size_at limit t ws) (λ i. groups_within limit t i ws) n refl (λ i h. groups-more limit t (at_place ws n i f h))

pub groups-within : (limit : ℕ) (ws : List ℤ) (n : ℕ) → 2 * n ≤ length ws → groups_within limit (table_of ws n) n ws ≡ within false limit n ws
unfolding within size
groups-within limit ws n f =
    groups-each limit (table_of ws n) ws n f ∙ both_ways (each sizes n) (each ranks n)
    (λ e. each-true ranks n (λ i h. le-leb (rank_at false i ws) limit (omega (arith, rises i h, sized i, leb-true (size (group_at i ws) (table_of ws n)) limit (each_at sizes n i e h)))))
    (λ e. each-true sizes n (λ i h. le-leb (size (group_at i ws) (table_of ws n)) limit
    (omega (arith, sized i, bounded false limit ws n (λ j l. leb-true (rank_at false j ws) limit (each_at ranks n j e l)) (group_at i ws) (member_at i ws) n (omega arith)))))
  where
    sizes : ℕ → Bool
    sizes = size_at limit (table_of ws n) ws

    ranks : ℕ → Bool
    ranks i = leb (rank_at false i ws) limit

    sized : (i : ℕ) → size (group_at i ws) (table_of ws n) ≡ alike false (group_at i ws) (member_at i ws) n ws
    sized i = members_alike (group_at i ws) (member_at i ws) ws n f

    rises : (i : ℕ) → i < n → rank_at false i ws ≤ alike false (group_at i ws) (member_at i ws) n ws
    rises i h = rank_rises false i n ws h

-- no group is larger than the table
pub small-within : (whole : Bool) (limit : ℕ) (ws : List ℤ) (n : ℕ) → n ≤ limit → within whole limit n ws ≡ true
unfolding within rank_at
small-within whole limit ws n l =
    each-true (λ i. leb (rank_at whole i ws) limit) n
    (λ i h. le-leb (rank_at whole i ws) limit (omega (arith, alike-within whole (group_at i ws) (member_at i ws) (suc i) ws)))
