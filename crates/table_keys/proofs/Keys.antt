-- Pairs with one key: how many there are among the first, and up to a place.
use Prim.Native.Nat.{ℕ, zero, suc, ◌≤◌, ◌<◌}
use mathlib.Core.Path.{◌≡◌, refl, sym}
use mathlib.Core.Bool.{Bool, true, false}
use mathlib.Core.List.{List}
use native.Mathlib.Omega.{arith}
use borrow.Author.Tests.{leb-true, leb-false}
use lib.Dec.{leb}
use lib.IntN.{ℤ}
use Rattle.language.specs.Basics.{eq_z}
use Rattle.laws.specs.Tests.{both, eq_z-true, eq_z-refl}
use Rattle.laws.specs.Tables.{group_at, member_at}
use Rattle.table_keys.specs.Keys.{same, more, alike, rank_at}

pub same_self : (whole : Bool) (g m : ℤ) → same whole g m g m ≡ true
unfolding same
same_self true g m = rw (eq_z-refl g, eq_z-refl m)
same_self false g m = eq_z-refl g

-- another group is another key
pub differ : (whole : Bool) (g m a b : ℤ) → eq_z a g ≡ false → false ≡ same whole g m a b
unfolding same
differ true g m a b e = rw e
differ false g m a b e = sym e

-- pairs with one key have it with the same pairs
pub same_key : (whole : Bool) (g m a b : ℤ) → same whole g m a b ≡ true → (x y : ℤ) → same whole g m x y ≡ same whole a b x y
unfolding same
same_key true g m a b e x y =
    let h = both (eq_z a g) (eq_z b m) e in
    rw (eq_z-true a g h.0, eq_z-true b m h.1)
same_key false g m a b e x y = rw (eq_z-true a g e)

pub alike-key : (whole : Bool) (g m a b : ℤ) → same whole g m a b ≡ true → (k : ℕ) (ws : List ℤ) → alike whole g m k ws ≡ alike whole a b k ws
unfolding alike
alike-key whole g m a b e zero ws = refl
alike-key whole g m a b e (suc k) ws = rw (same_key whole g m a b e (group_at k ws) (member_at k ws), alike-key whole g m a b e k ws)

pub alike-hit : (whole : Bool) (g m : ℤ) (k : ℕ) (ws : List ℤ) → same whole g m (group_at k ws) (member_at k ws) ≡ true → alike whole g m (suc k) ws ≡ suc (alike whole g m k ws)
unfolding alike more
alike-hit whole g m k ws e = rw e

pub alike-miss : (whole : Bool) (g m : ℤ) (k : ℕ) (ws : List ℤ) → same whole g m (group_at k ws) (member_at k ws) ≡ false → alike whole g m (suc k) ws ≡ alike whole g m k ws
unfolding alike more
alike-miss whole g m k ws e = rw e

pub alike-none : (whole : Bool) (g m : ℤ) (ws : List ℤ) → alike whole g m 0 ws ≡ 0
unfolding alike
alike-none whole g m ws = refl

more-rises : (t : Bool) (n : ℕ) → n ≤ more t n
unfolding more
more-rises true n = omega arith
more-rises false n = omega arith

more-by-one : (t : Bool) {n k : ℕ} → n ≤ k → more t n ≤ suc k
unfolding more
more-by-one true h = omega arith
more-by-one false h = omega arith

pub alike-rises : (whole : Bool) (g m : ℤ) (ws : List ℤ) (i n : ℕ) → i ≤ n → alike whole g m i ws ≤ alike whole g m n ws
unfolding alike
alike-rises whole g m ws i zero h = let z : i ≡ 0 = omega arith in rw z (omega arith)
alike-rises whole g m ws i (suc n) h = go (leb i n) refl (alike-rises whole g m ws i n)
  where
    go : (t : Bool) → leb i n ≡ t → (i ≤ n → alike whole g m i ws ≤ alike whole g m n ws) → alike whole g m i ws ≤ alike whole g m (suc n) ws
    go true q ih = omega (arith, ih (leb-true i n q), more-rises (same whole g m (group_at n ws) (member_at n ws)) (alike whole g m n ws))
    go false q ih = let z : i ≡ suc n = omega (arith, leb-false i n q) in rw z (omega arith)

pub alike-within : (whole : Bool) (g m : ℤ) (k : ℕ) (ws : List ℤ) → alike whole g m k ws ≤ k
unfolding alike
alike-within whole g m zero ws = omega arith
alike-within whole g m (suc k) ws = more-by-one (same whole g m (group_at k ws) (member_at k ws)) (alike-within whole g m k ws)

abbrev pub rank_fits : Bool → ℕ → List ℤ → ℕ → Bool
rank_fits whole limit ws i = leb (rank_at whole i ws) limit

pub rank-next : (whole : Bool) (i : ℕ) (ws : List ℤ) → rank_at whole i ws ≡ suc (alike whole (group_at i ws) (member_at i ws) i ws)
unfolding rank_at alike more
rank-next whole i ws = rw (same_self whole (group_at i ws) (member_at i ws))

pub rank_rises : (whole : Bool) (i n : ℕ) (ws : List ℤ) → i < n → rank_at whole i ws ≤ alike whole (group_at i ws) (member_at i ws) n ws
unfolding rank_at
rank_rises whole i n ws h = alike-rises whole (group_at i ws) (member_at i ws) ws (suc i) n h

-- The last pair with a key has the largest rank.
pub bounded :
    (whole : Bool) (limit : ℕ) (ws : List ℤ) (n : ℕ) → ((i : ℕ) → i < n → rank_at whole i ws ≤ limit) → (g m : ℤ) (k : ℕ) → k ≤ n → alike whole g m k ws ≤ limit
unfolding alike rank_at more
bounded whole limit ws n h g m zero l = omega arith
bounded whole limit ws n h g m (suc k) l = go (same whole g m (group_at k ws) (member_at k ws)) refl (bounded whole limit ws n h g m k (omega arith))
  where
    go : (t : Bool) → same whole g m (group_at k ws) (member_at k ws) ≡ t → alike whole g m k ws ≤ limit → alike whole g m (suc k) ws ≤ limit
    go true e ih = rw (alike-key whole g m (group_at k ws) (member_at k ws) e (suc k) ws) (h k l)
    go false e ih = rw e ih
