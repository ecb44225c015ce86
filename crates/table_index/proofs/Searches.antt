-- What a search for a group finds among the slots of some places.
use Rattle.std.specs.Prelude.{Some, None}
use Prim.Native.Nat.{ℕ, suc, ◌+◌, ◌-◌, ◌≤◌, ◌<◌}
use mathlib.Core.Path.{◌≡◌, refl, sym, ◌∙◌, ap}
use mathlib.Core.Bool.{Bool, true, false}
use mathlib.Core.List.{List}
use native.Mathlib.Omega.{arith}
use lib.IntN.{ℤ}
use lib.Dec.{ltb}
use lib.ListN.{length, get_or, set, replicate, length-set, length-replicate}
use borrow.Author.Tests.{ltb-true, ltb-false}
use Rattle.laws.specs.Lists.{zeros}
use Rattle.table_places.specs.Places.{group_in, number_in}
use Rattle.table_probes.specs.Room.{room, room-none, room-put, some-empty}
use Rattle.table_probes.specs.Probes.{Reached, Passed, Has, absent, by-set, kept-none, kept_put, has_new, has-still}
use Rattle.table_index.specs.Index.{home_of, key_in, Indexed, Sought}

pub free : {ws : List ℤ} {n : ℕ} {slots : List ℕ} → Indexed ws n slots → 0 < room slots
free index = omega (arith, index.rest, index.more)

pub some-slots : (slots : List ℕ) → 0 < room slots → 0 < length slots
some-slots slots h = omega (arith, (some-empty slots h).within)

module _ {ws : List ℤ} {n : ℕ} {slots : List ℕ} (index : Indexed ws n slots) (group : ℕ) {q : ℕ} (p : Passed (key_in ws) group (home_of (length slots) group) slots q) where
  pub sought-none : get_or slots q 0 ≡ 0 → Sought ws n group None
  sought-none e =
      record {
        there = λ k some. let z : ◌≡◌ {A = ℕ} 0 1 = cc in absurd (omega arith);
        none = λ z k l same.
            let h = index.has k l in
            absent index.kept p e h.slot h.used (rw h.there (same_key k same));
      }
    where
      same_key : (k : ℕ) → group_in ws k ≡ group → group_in ws (suc k - 1) ≡ group
      same_key k e = let z : suc k - 1 ≡ k = omega arith in rw z e

  pub sought-there : {x : ℕ} → get_or slots q 0 ≡ x → (x ≡ 0 → ⊥) → group_in ws (x - 1) ≡ group → Sought ws n group (Some (x - 1))
  sought-there {x} e u same =
      record {
        there = λ k some. let z : x - 1 ≡ k = cc in (omega (arith, rw e at (index.low q)), rw z at same);
        none = λ none. let z : ◌≡◌ {A = ℕ} 0 1 = cc in absurd (omega arith);
      }

-- ---- one place more

pub indexed-none : (ws : List ℤ) (size : ℕ) → 0 < size → Indexed ws 0 (replicate size 0)
indexed-none ws size some =
    let same = length-replicate {A = ℕ} size 0 in
    record {
      kept = kept-none size;
      rest = rw (same, room-none size) (omega arith);
      more = rw same some;
      low = λ q. rw (zeros size q) (omega arith);
      has = λ p l. absurd (omega arith);
    }

-- the place at k, whose group a search has not found, is put into the empty slot where that search ends
pub indexed-more :
    {ws : List ℤ} {k : ℕ} {slots : List ℕ} (index : Indexed ws k slots) {q : ℕ} → Reached (home_of (length slots) (group_in ws k)) slots q → get_or slots q 0 ≡ 0 → suc k < length slots →
    Indexed ws (suc k) (set slots q (suc k))
indexed-more {ws} {k} {slots} index {q} r e more =
    let same = length-set slots q (suc k) in
    record {
      kept = rw same (kept_put index.kept (rw key r) (λ z. omega arith));
      rest = rw same (omega (arith, room-put slots q (suc k) r.within e (λ z. omega arith), index.rest));
      more = rw same more;
      low = low;
      has = has;
    }
  where
    key : key_in ws (suc k) ≡ group_in ws k
    key = let z : suc k - 1 ≡ k = omega arith in ap (group_in ws) z

    low : (x : ℕ) → get_or (set slots q (suc k)) x 0 ≤ suc k
    low x = by-set slots q (suc k) x r.within (λ i z. omega arith) (λ i z. omega (arith, index.low x))

    has : (p : ℕ) → p < suc k → Has (set slots q (suc k)) (suc p)
    has p l = go (ltb p k) refl
      where
        go : (b : Bool) → ltb p k ≡ b → Has (set slots q (suc k)) (suc p)
        go true b = has-still slots q (suc k) r.within (λ z. omega arith) e (index.has p (ltb-true p k b))
        go false b =
            let z : p ≡ k = omega (arith, ltb-false p k b) in
            rw z (has_new slots q (suc k) r.within (λ z. omega arith))

-- the number of the place at k is written
pub numbers_more :
    (ws : List ℤ) (lefts : List ℕ) (k v : ℕ) → k < length lefts → v ≡ number_in ws k → ((p : ℕ) → p < k → get_or lefts p 0 ≡ number_in ws p) →
    (p : ℕ) → p < k + 1 → get_or (set lefts k v) p 0 ≡ number_in ws p
numbers_more ws lefts k v l e h p b = by-set lefts k v p l (λ i z. z ∙ e ∙ ap (number_in ws) (sym i)) (λ i z. z ∙ h p (omega arith))
