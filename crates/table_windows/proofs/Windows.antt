-- Some of a list's n places, from one on.
use Prim.Native.Nat.{ℕ, ◌+◌, ◌*◌, ◌-◌, ◌≤◌, ◌<◌}
use mathlib.Core.Path.{◌≡◌, refl, sym, ◌∙◌, ap, subst}
use mathlib.Core.Bool.{Bool, true, false}
use mathlib.Core.List.{List}
use native.Mathlib.Omega.{arith}
use borrow.Author.Tests.{ltb-true, ltb-false}
use lib.Dec.{ltb}
use lib.IntN.{ℤ, pos, nat_abs}
use lib.ListN.{length, take, drop, get_or, length-drop}
use lib.Seq.{get_or-take, get_or-drop, length-take-le}
use Rattle.language.specs.Table.{members}
use Rattle.laws.specs.Tables.{group_at, member_at}
use Rattle.table_places.specs.Places.{Natural, number_in, places_in, Rising}
use Rattle.table_totals.specs.Placed.{members_of, Tallied}

pub record PartOf (n : ℕ) (l : List ℤ) (from : ℕ) (part : List ℤ) : Type 0 where
  pub within : from + places_in part ≤ n
  pub group : (p : ℕ) → p < places_in part → group_at p part ≡ group_at (from + p) l
  pub number : (p : ℕ) → p < places_in part → member_at p part ≡ member_at (from + p) l

module _ (l : List ℤ) (m : ℕ) (fits : 2 * m ≤ length l) where
  pub front-places : places_in (take (2 * m) l) ≡ m
  front-places = omega (arith, length-take-le (2 * m) l fits)

  -- the words from place m on, as the code lends them
  abbrev pub rest : List ℤ
  rest = take (length l - 2 * m) (drop (2 * m) l)

  pub back-places : places_in rest ≡ places_in l - m
  back-places = omega (arith, length-take-le (length l - 2 * m) (drop (2 * m) l) (simp length-drop (omega arith)))

  pub front : PartOf (places_in l) l 0 (take (2 * m) l)
  front =
      record {
        within = omega (arith, front-places);
        group = λ p b. let e : 0 + p ≡ p = omega arith in rw e (get_or-take (2 * m) l (2 * p) (pos 0) (omega (arith, front-places)));
        number = λ p b. let e : 0 + p ≡ p = omega arith in rw e (get_or-take (2 * m) l (2 * p + 1) (pos 0) (omega (arith, front-places)));
      }

  word : (i j : ℕ) → i < length l → 2 * m + j ≡ i → get_or rest j (pos 0) ≡ get_or l i (pos 0)
  word i j b e = get_or-take (length l - 2 * m) (drop (2 * m) l) j (pos 0) (omega arith) ∙ get_or-drop (2 * m) l j (pos 0) ∙ ap (λ (k : ℕ). get_or l k (pos 0)) e

  pub back : PartOf (places_in l) l m rest
  back =
      record {
        within = omega (arith, back-places);
        group = λ p b. word (2 * (m + p)) (2 * p) (omega (arith, back-places)) (omega arith);
        number = λ p b. word (2 * (m + p) + 1) (2 * p + 1) (omega (arith, back-places)) (omega arith);
      }

module _ {n : ℕ} {l : List ℤ} {from : ℕ} {part : List ℤ} (is : PartOf n l from part) where
  pub part-rising : Rising n l → Rising (places_in part) part
  part-rising rising =
      record {
        words = omega arith;
        groups = λ p b. subst Natural (sym (is.group p b)) (rising.groups (from + p) (omega (arith, is.within)));
        numbers = λ p b. subst Natural (sym (is.number p b)) (rising.numbers (from + p) (omega (arith, is.within)));
        rises = λ p q c b. rw (is.group p (omega arith), is.group q b) (rising.rises (from + p) (from + q) (omega arith) (omega (arith, is.within)));
      }

  module _ (ws : List ℤ) (count : ℕ) where
    pub part-tallied : Tallied ws count l n → Tallied ws count part (places_in part)
    part-tallied all p b =
        ap nat_abs (is.number p b) ∙ all (from + p) (omega (arith, is.within)) ∙ ap (λ (g : ℤ). members g count ws) (sym (is.group p b))

    -- what is so of the part is so of the list there
    pub part-there : Tallied ws count part (places_in part) → (p : ℕ) → from ≤ p → p < from + places_in part → number_in l p ≡ members_of ws count l p
    part-there here p low high =
        let k : p - from < places_in part = omega arith in
        let z : from + (p - from) ≡ p = omega arith in
        subst (λ (q : ℕ). number_in l q ≡ members_of ws count l q) z
        (sym (ap nat_abs (is.number (p - from) k)) ∙ here (p - from) k ∙ ap (λ (g : ℤ). members g count ws) (is.group (p - from) k))

-- both parts
pub parts-tallied :
    (ws : List ℤ) (count : ℕ) (l : List ℤ) (m : ℕ) (fits : 2 * m ≤ length l) → Tallied ws count (take (2 * m) l) (places_in (take (2 * m) l)) →
    Tallied ws count (rest l m fits) (places_in (rest l m fits)) → Tallied ws count l (places_in l)
parts-tallied ws count l m fits first last p b = go (ltb p m) refl
  where
    go : (t : Bool) → ltb p m ≡ t → number_in l p ≡ members_of ws count l p
    go true e = part-there (front l m fits) ws count first p (omega arith) (omega (arith, ltb-true p m e, front-places l m fits))
    go false e = part-there (back l m fits) ws count last p (ltb-false p m e) (omega (arith, back-places l m fits))
