-- What is left of the numbers, after one pair more.
use Prim.Native.Nat.{ℕ, suc, ◌+◌, ◌-◌, ◌*◌, ◌≤◌, ◌<◌}
use mathlib.Core.Path.{◌≡◌, refl, sym, ◌∙◌, ap}
use mathlib.Core.Bool.{Bool, true, false, cond}
use mathlib.Core.List.{List}
use Rattle.std.proofs.Common.{get_or-set_same, get_or-set_other}
use native.Mathlib.Omega.{arith}
use borrow.Author.Tests.{ltb-true, ltb-false, eqb-true, eqb-false, eq-eqb, ne_eqb}
use lib.Dec.{eqb, ltb}
use lib.IntN.{ℤ, pos, nat_abs}
use lib.ListN.{length, get_or, set}
use Rattle.language.specs.Basics.{eq_z}
use Rattle.laws.specs.Tests.{eq_z-refl, ne-eq_z}
use Rattle.laws.specs.Tables.{group_at, counts, members-zero, members-next}
use Rattle.table_places.specs.Places.{Natural, group_in, number_in, places_in, Rising}
use Rattle.table_places.proofs.Naturals.{natural-is}
use Rattle.table_totals.specs.Placed.{members_of, Tallied, members-rise}
use Rattle.table_lefts.specs.Lefts.{once, Lowered, Exhausted, LeftsAre, SomeLeft}

pub once-same : {g x : ℕ} → x ≡ g → once g x ≡ 1
once-same {g} {x} e = rw (eq-eqb x g e)

pub once-other : {g x : ℕ} → (x ≡ g → ⊥) → once g x ≡ 0
once-other {g} {x} h = rw (ne_eqb x g h)

-- ---- one place

same-place : {l : List ℤ} {n : ℕ} → Rising n l → (p q : ℕ) → p < n → q < n → group_in l p ≡ group_in l q → p ≡ q
same-place {l} {n} rising p q bp bq e = go (ltb p q) (ltb q p) refl refl
  where
    go : (s t : Bool) → ltb p q ≡ s → ltb q p ≡ t → p ≡ q
    go true t u v = absurd (omega (arith, rising.rises p q (ltb-true p q u) bq))
    go false true u v = absurd (omega (arith, rising.rises q p (ltb-true q p v) bp))
    go false false u v = omega (arith, ltb-false p q u, ltb-false q p v)

-- one is taken at the place of the group
pub lowered-there :
    (l : List ℤ) → Rising (places_in l) l → (place group : ℕ) (lefts : List ℕ) → place < length lefts → place < places_in l → group_in l place ≡ group →
    (get_or lefts place 0 ≡ 0 → ⊥) → Lowered l group lefts (set lefts place (get_or lefts place 0 - 1))
lowered-there l rising place group lefts long within here some p b = go (eqb p place) refl
  where
    v : ℕ
    v = get_or lefts place 0 - 1

    go : (t : Bool) → eqb p place ≡ t → get_or (set lefts place v) p 0 + once (group_in l p) group ≡ get_or lefts p 0
    go true t =
        let z = eqb-true p place t in
        rw z (omega (arith, get_or-set_same lefts place v 0 long, some, once-same {g = group_in l place} {x = group} (sym here)))
    go false t =
        let n = eqb-false p place t in
        let other = once-other {g = group_in l p} {x = group} (λ e. n (same-place rising p place b within (sym e ∙ sym here))) in
        omega (arith, get_or-set_other lefts place p v 0 n, other)

-- ---- all places

pub lefts-none : (ws l : List ℤ) (lefts : List ℕ) → ((p : ℕ) → p < places_in l → get_or lefts p 0 ≡ number_in l p) → LeftsAre ws 0 l lefts
lefts-none ws l lefts h p b = omega (arith, h p b, members-zero (group_at p l) ws)

-- what a pair adds to the count of a group
pub count-one : (ws : List ℤ) (i : ℕ) (g : ℤ) → Natural (group_at i ws) → Natural g → counts g i ws ≡ once (nat_abs g) (nat_abs (group_at i ws))
count-one ws i g na ng = go (eqb (nat_abs (group_at i ws)) (nat_abs g)) refl
  where
    go : (t : Bool) → eqb (nat_abs (group_at i ws)) (nat_abs g) ≡ t → cond (eq_z (group_at i ws) g) 1 0 ≡ once (nat_abs g) (nat_abs (group_at i ws))
    go true e =
        let z : group_at i ws ≡ g = natural-is (group_at i ws) na ∙ ap pos (eqb-true (nat_abs (group_at i ws)) (nat_abs g) e) ∙ sym (natural-is g ng) in
        rw (e, z, eq_z-refl g)
    go false e = rw (e, ne-eq_z (group_at i ws) g (λ z. eqb-false (nat_abs (group_at i ws)) (nat_abs g) e (ap nat_abs z)))

module _ (ws l : List ℤ) (rising : Rising (places_in l) l) (i : ℕ) (fits : 2 * suc i ≤ length ws) (natural : Natural (group_at i ws)) where
  member-more : (p : ℕ) → p < places_in l → members_of ws (suc i) l p ≡ members_of ws i l p + once (group_in l p) (nat_abs (group_at i ws))
  member-more p b = members-next (group_at p l) i ws fits ∙ ap (members_of ws i l p +◌) (count-one ws i (group_at p l) natural (rising.groups p b))

  pub lefts-next : (lefts after : List ℕ) → Lowered l (nat_abs (group_at i ws)) lefts after → LeftsAre ws i l lefts → LeftsAre ws (suc i) l after
  lefts-next lefts after lowered are p b = omega (arith, lowered p b, are p b, member-more p b)

  -- a pair that finds nothing left is one more than its place says
  pub exhausted-wrong :
      (lefts : List ℕ) (count : ℕ) → i < count → 2 * count ≤ length ws → Exhausted l (nat_abs (group_at i ws)) lefts → LeftsAre ws i l lefts →
      Tallied ws count l (places_in l) → ⊥
  exhausted-wrong lefts count b h none are tallied =
      let p = none.place in
      let k = none.within in
      omega (
        arith,
        none.none,
        are p k,
        tallied p k,
        member-more p k,
        once-same {g = group_in l p} {x = nat_abs (group_at i ws)} (sym none.here),
        members-rise (group_at p l) ws (suc i) count (omega arith) h,
      )

-- ---- the end

module _ (ws l : List ℤ) (count : ℕ) (lefts : List ℕ) (are : LeftsAre ws count l lefts) where
  pub lefts-tallied : ((p : ℕ) → p < places_in l → get_or lefts p 0 ≡ 0) → Tallied ws count l (places_in l)
  lefts-tallied none p b = omega (arith, none p b, are p b)

  pub lefts-wrong : SomeLeft lefts (places_in l) → Tallied ws count l (places_in l) → ⊥
  lefts-wrong left tallied =
      let p = left.place in
      left.some (omega (arith, are p left.within, tallied p left.within))
