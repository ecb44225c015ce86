-- Reading a list, one place more.
use Rattle.std.specs.Prelude.{Some, None}
use Prim.Native.Nat.{ℕ, suc, ◌+◌, ◌*◌, ◌-◌, ◌≤◌, ◌<◌}
use mathlib.Core.Path.{◌≡◌, refl, ◌∙◌, ap, ap₂}
use mathlib.Core.Bool.{Bool, true, false, not, ◌&&◌, and-false}
use mathlib.Core.List.{List, [], ◌∷◌}
use native.Mathlib.Omega.{arith}
use borrow.Author.Tests.{ltb-true, ltb-false, lt-ltb, le-ltb, leb-true, le-leb, eqb-true, eq-eqb, ne_eqb, not-true, not-false}
use lib.Dec.{eqb, leb, ltb}
use lib.IntN.{ℤ, pos, nat_abs}
use lib.ListN.{length, drop, length-drop}
use lib.Seq.{drop-cons}
use lib.Signed.{mag}
use mir.Val.{of_z, to_z}
use mir.Syntax.{w32}
use Rattle.laws.specs.Lists.{twice-suc}
use Rattle.laws.specs.Tests.{both}
use Rattle.laws.specs.Tables.{group_at, member_at}
use Rattle.language.specs.Basics.{eq_z}
use Rattle.language.specs.Table.{at_least_one}
use Rattle.table_search.proofs.Signed.{back}
use Rattle.table_places.specs.Places.{Natural, all_zero, stands_at, place_fits, ended, read_places}
use Rattle.table_places.proofs.Naturals.{from_one, natural-one}
use Rattle.table_places.specs.Places.{Places}

-- the two words of place k, and those after it
pub drop-place : (k : ℕ) (ws : List ℤ) → 2 * k + 1 < length ws → drop (2 * k) ws ≡ group_at k ws ∷ member_at k ws ∷ drop (2 * suc k) ws
drop-place k ws h =
    let e : 2 * k + 1 ≡ suc (2 * k) = omega arith in
    drop-cons ws (2 * k) (pos 0) (omega arith) ∙ ap (group_at k ws ∷◌) (drop-cons ws (suc (2 * k)) (pos 0) (omega arith) ∙ rw (e, twice-suc k))

pub stands-true : (k : ℕ) (ws : List ℤ) → stands_at k ws ≡ true → (2 * k + 1 < length ws) × (eq_z (group_at k ws) (pos 0) ≡ false)
unfolding stands_at
stands-true k ws e =
    let b = both (ltb (2 * k + 1) (length ws)) (not (eq_z (group_at k ws) (pos 0))) e in
    (ltb-true (2 * k + 1) (length ws) b.0, not-true (eq_z (group_at k ws) (pos 0)) b.1)

pub stands-here : (k : ℕ) (ws : List ℤ) → 2 * k + 1 < length ws → eq_z (group_at k ws) (pos 0) ≡ false → stands_at k ws ≡ true
unfolding stands_at
stands-here k ws h e = rw (lt-ltb (2 * k + 1) (length ws) h, e)

pub stands-not : (k : ℕ) (ws : List ℤ) → eq_z (group_at k ws) (pos 0) ≡ true → stands_at k ws ≡ false
unfolding stands_at
stands-not k ws e = rw (e, and-false (ltb (2 * k + 1) (length ws)))

pub stands-past : (k : ℕ) (ws : List ℤ) → length ws ≤ 2 * k + 1 → stands_at k ws ≡ false
unfolding stands_at
stands-past k ws h = rw (le-ltb (2 * k + 1) (length ws) h)

-- ---- one step

abbrev chosen : Bool → Bool → Places → Places → Places
chosen none fits here on = elim none [ true ↦ here | false ↦ elim fits [ true ↦ on | false ↦ None ] ]

module _ (limit last left k : ℕ) where
  at_next :
      (a n : ℤ) (ws : List ℤ) →
      read_places limit last left k (a ∷ n ∷ ws) ≡
      chosen (eq_z a (pos 0)) (place_fits limit last left a n) (ended left k (a ∷ n ∷ ws)) (read_places limit (nat_abs a) (left - nat_abs n) (suc k) ws)
  unfolding read_places
  at_next a n ws = refl

  pub at_zero : (a n : ℤ) (ws : List ℤ) → eq_z a (pos 0) ≡ true → read_places limit last left k (a ∷ n ∷ ws) ≡ ended left k (a ∷ n ∷ ws)
  at_zero a n ws e = at_next a n ws ∙ rw e

  pub at-wrong : (a n : ℤ) (ws : List ℤ) → eq_z a (pos 0) ≡ false → place_fits limit last left a n ≡ false → read_places limit last left k (a ∷ n ∷ ws) ≡ None
  at-wrong a n ws e f = at_next a n ws ∙ rw (e, f)

  pub at_place :
      (a n : ℤ) (ws : List ℤ) → eq_z a (pos 0) ≡ false → place_fits limit last left a n ≡ true →
      read_places limit last left k (a ∷ n ∷ ws) ≡ read_places limit (nat_abs a) (left - nat_abs n) (suc k) ws
  at_place a n ws e f = at_next a n ws ∙ rw (e, f)

  pub at-short : (ws : List ℤ) → length ws ≤ 1 → read_places limit last left k ws ≡ ended left k ws
  unfolding read_places
  at-short [] h = refl
  at-short (a ∷ []) h = refl
  at-short (a ∷ b ∷ ws) h = absurd (omega arith)

  module _ (ws : List ℤ) where
    pub read-end : stands_at k ws ≡ false → read_places limit last left k (drop (2 * k) ws) ≡ ended left k (drop (2 * k) ws)
    unfolding stands_at
    read-end e = go (ltb (2 * k + 1) (length ws)) refl
      where
        go : (t : Bool) → ltb (2 * k + 1) (length ws) ≡ t → read_places limit last left k (drop (2 * k) ws) ≡ ended left k (drop (2 * k) ws)
        go true q =
            let z : (ltb (2 * k + 1) (length ws) && not (eq_z (group_at k ws) (pos 0))) ≡ false = e in
            rw (drop-place k ws (ltb-true (2 * k + 1) (length ws) q))
            (at_zero (group_at k ws) (member_at k ws) (drop (2 * suc k) ws) (not-false (eq_z (group_at k ws) (pos 0)) (rw q at z)))
        go false q = at-short (drop (2 * k) ws) (rw (length-drop (2 * k) ws) (omega (arith, ltb-false (2 * k + 1) (length ws) q)))

    module _ (there : stands_at k ws ≡ true) where
      pub read-wrong : place_fits limit last left (group_at k ws) (member_at k ws) ≡ false → read_places limit last left k (drop (2 * k) ws) ≡ None
      read-wrong f =
          let (l, n) = stands-true k ws there in
          rw (drop-place k ws l) (at-wrong (group_at k ws) (member_at k ws) (drop (2 * suc k) ws) n f)

      pub read_next :
          place_fits limit last left (group_at k ws) (member_at k ws) ≡ true →
          read_places limit last left k (drop (2 * k) ws) ≡ read_places limit (nat_abs (group_at k ws)) (left - nat_abs (member_at k ws)) (suc k) (drop (2 * suc k) ws)
      read_next f =
          let (l, n) = stands-true k ws there in
          rw (drop-place k ws l) (at_place (group_at k ws) (member_at k ws) (drop (2 * suc k) ws) n f)

-- a place that the code has read
module _ (limit last left : ℕ) {r : Bool} {x y a b : ℤ} (is : r ≡ place_fits limit last left (to_z w32 (of_z w32 x)) (to_z w32 (of_z w32 y))) (group : mag x < 2147483648)
    (number : mag y < 2147483648) (p : x ≡ a) (q : y ≡ b) where
  pub fits-word : r ≡ place_fits limit last left a b
  fits-word = is ∙ ap₂ (place_fits limit last left) (back x group ∙ p) (back y number ∙ q)

-- ---- a place that fits

pub record Fitting (limit last left : ℕ) (a n : ℤ) : Type 0 where
  pub group-natural : Natural a
  pub number-natural : Natural n
  pub group-is : a ≡ pos (nat_abs a)
  pub number_is : n ≡ pos (nat_abs n)
  pub some : 1 ≤ nat_abs n
  pub rises : last < nat_abs a
  pub limited : nat_abs n ≤ limit
  pub within : nat_abs n ≤ left

pub fitting : (limit last left : ℕ) (a n : ℤ) → place_fits limit last left a n ≡ true → Fitting limit last left a n
unfolding place_fits
fitting limit last left a n e =
    let (ones, rest) = both (at_least_one a && at_least_one n) (ltb last (nat_abs a) && (leb (nat_abs n) limit && leb (nat_abs n) left)) e in
    let (one-a, one-n) = both (at_least_one a) (at_least_one n) ones in
    let (up, most) = both (ltb last (nat_abs a)) (leb (nat_abs n) limit && leb (nat_abs n) left) rest in
    let (few, fewer) = both (leb (nat_abs n) limit) (leb (nat_abs n) left) most in
    let (group-natural, group-one, group-is) = from_one a one-a in
    let (number-natural, number-one, number_is) = from_one n one-n in
    record {
      group-natural = group-natural;
      number-natural = number-natural;
      group-is = group-is;
      number_is = number_is;
      some = number-one;
      rises = ltb-true last (nat_abs a) up;
      limited = leb-true (nat_abs n) limit few;
      within = leb-true (nat_abs n) left fewer;
    }

pub fits-place : (limit last left : ℕ) (a n : ℤ) → Fitting limit last left a n → place_fits limit last left a n ≡ true
unfolding place_fits
fits-place limit last left a n f =
    rw (
      natural-one a f.group-natural (omega (arith, f.rises)),
      natural-one n f.number-natural f.some,
      lt-ltb last (nat_abs a) f.rises,
      le-leb (nat_abs n) limit f.limited,
      le-leb (nat_abs n) left f.within,
    )

-- ---- the end

pub ended-short : (left k : ℕ) (ws : List ℤ) → (left ≡ 0 → ⊥) → ended left k ws ≡ None
unfolding ended
ended-short left k ws h = rw (ne_eqb left 0 h, ended)

pub ended-other : (left k : ℕ) (ws : List ℤ) → all_zero ws ≡ false → ended left k ws ≡ None
unfolding ended
ended-other left k ws e = rw (e, and-false (eqb left 0), ended)

pub ended-right : (left k : ℕ) (ws : List ℤ) → left ≡ 0 → all_zero ws ≡ true → ended left k ws ≡ Some k
unfolding ended
ended-right left k ws z e = rw (eq-eqb left 0 z, e, ended)

pub ended-used : (left k m : ℕ) (ws : List ℤ) → ended left k ws ≡ Some m → ((left ≡ 0) × (all_zero ws ≡ true)) × (m ≡ k)
unfolding ended
ended-used left k m ws e = go (eqb left 0 && all_zero ws) refl e
  where
    go : (t : Bool) → (eqb left 0 && all_zero ws) ≡ t → elim t as (λ x. Places) [ true ↦ Some k | false ↦ None ] ≡ Some m → ((left ≡ 0) × (all_zero ws ≡ true)) × (m ≡ k)
    go true q r = let b = both (eqb left 0) (all_zero ws) q in ((eqb-true left 0 b.0, b.1), cc)
    go false q r = let z : ◌≡◌ {A = ℕ} 0 1 = cc in absurd (omega arith)
