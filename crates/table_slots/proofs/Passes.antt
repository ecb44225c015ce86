-- The slots of a pass over a table: the laws of counting by key at the keys of pairs.
use Prim.Native.Nat.{ℕ, zero, suc, ◌+◌, ◌/◌, ◌%◌, ◌≤◌, ◌<◌}
use mathlib.Core.Path.{◌≡◌, refl, sym, ◌∙◌, ap, ap₂}
use mathlib.Core.Bool.{Bool, true, false, ◌&&◌}
use mathlib.Core.List.{List, [], ◌∷◌, map}
use native.Mathlib.Numerals.{add-one}
use native.Mathlib.Omega.{arith}
use lib.IntN.{ℤ}
use lib.Dec.{eqb, ltb}
use lib.ListN.{length, get_or, set, replicate, length-set, length-map, length-replicate, get_or-map}
use lib.Seq.{get_or-set_same, get_or-set_other, set_out, map-set_same}
use borrow.Author.Tests.{ltb-true, ltb-false, eqb-true, eqb-false, eq-eqb, ne_eqb}
use Rattle.laws.specs.Lists.{zeros}
use Rattle.table_keys.specs.Keys.{same_at}
use Rattle.table_hash.specs.Hashes.{hash_at, class_of, class_at, bucket}
use Rattle.table_filter.specs.Filter.{suspected}
use Rattle.table_slots.specs.Slots.{place_in, number_in, firsts, numbers, slot_at, Passed, EndsEmpty, EndsHeld, Good, wanted, Keyed}
use Rattle.table_keys.proofs.Ranks.{self, key, counted, counted-key, counted-hit, counted-miss, none_of}
use Rattle.table_hash.proofs.Hashing.{hash-key, class-key, bucket-below}
use Rattle.table_filter.proofs.Filters.{suspected-key}
use Rattle.table_slots.proofs.SlotLaws as laws

-- ---- lists

-- what is written keeps to the bound of what stands there
pub set-low : (l : List ℕ) (v m q x : ℕ) → v ≤ m → ((y : ℕ) → get_or l y 0 ≤ m) → get_or (set l q v) x 0 ≤ m
set-low l v m q x k h = go (ltb q (length l)) refl (eqb x q) refl
  where
    go : (b : Bool) → ltb q (length l) ≡ b → (d : Bool) → eqb x q ≡ d → get_or (set l q v) x 0 ≤ m
    go true e true d = rw (eqb-true x q d, get_or-set_same l q v 0 (ltb-true q (length l) e)) k
    go false e d f = rw (set_out l q v (ltb-false q (length l) e)) (h x)
    go true e false d = rw (get_or-set_other l q x v 0 (eqb-false x q d)) (h x)

map-set : (f : ℕ → ℕ) (l : List ℕ) (q v : ℕ) → map f (set l q v) ≡ set (map f l) q (f v)
map-set f [] q v = refl
map-set f (x ∷ l) zero v = refl
map-set f (x ∷ l) (suc q) v = ap (λ (m : List ℕ). f x ∷ m) (map-set f l q v)

-- ---- what a slot holds

pub first-in : (slots : List ℕ) (q : ℕ) → get_or (firsts slots) q 0 ≡ place_in (get_or slots q 0)
first-in slots q = get_or-map place_in slots q 0

number-of : (slots : List ℕ) (q : ℕ) → get_or (numbers slots) q 0 ≡ number_in (get_or slots q 0)
number-of slots q = get_or-map number_in slots q 0

module _ (slots : List ℕ) (q : ℕ) where
  -- a slot is taken for the pair at i
  firsts-new : (i : ℕ) → i < 4294967295 → firsts (set slots q (i + 1 + 4294967296)) ≡ set (firsts slots) q (suc i)
  firsts-new i l =
      let e : (i + 1 + 4294967296) % 4294967296 ≡ suc i = omega arith in
      map-set place_in slots q (i + 1 + 4294967296) ∙ ap (set (firsts slots) q) e

  numbers-new : (i : ℕ) → i < 4294967295 → numbers (set slots q (i + 1 + 4294967296)) ≡ set (numbers slots) q 1
  numbers-new i l =
      let e : (i + 1 + 4294967296) / 4294967296 ≡ 1 = omega arith in
      map-set number_in slots q (i + 1 + 4294967296) ∙ ap (set (numbers slots) q) e

  -- one pair more is counted there
  firsts_more : firsts (set slots q (get_or slots q 0 + 4294967296)) ≡ firsts slots
  firsts_more = map-set_same place_in slots q (get_or slots q 0 + 4294967296) 0 (omega arith)

  numbers_more : numbers (set slots q (get_or slots q 0 + 4294967296)) ≡ set (numbers slots) q (suc (get_or (numbers slots) q 0))
  numbers_more =
      let e : (get_or slots q 0 + 4294967296) / 4294967296 ≡ suc (get_or slots q 0 / 4294967296) = omega arith in
      map-set number_in slots q (get_or slots q 0 + 4294967296) ∙ ap (set (numbers slots) q) (e ∙ ap suc (sym (number-of slots q)))

-- ---- a pass

slot-below : (whole : Bool) (ws : List ℤ) (i : ℕ) → slot_at whole ws i < 27904
slot-below whole ws i = bucket-below 27904 (hash_at whole ws i) (omega arith)

-- a search ends within the slots
empty-below : (whole : Bool) (ws : List ℤ) (i : ℕ) (first : List ℕ) {q : ℕ} → EndsEmpty (same_at whole ws i) (slot_at whole ws i) first q → q < 28160
empty-below whole ws i first r = omega (arith, r.there, r.within, slot-below whole ws i)

held_below : (whole : Bool) (ws : List ℤ) (i : ℕ) (first : List ℕ) {q : ℕ} → EndsHeld (same_at whole ws i) (slot_at whole ws i) first q → q < 28160
held_below whole ws i first r = omega (arith, r.there, r.within, slot-below whole ws i)

pub wanted-key : (whole : Bool) (ws : List ℤ) (classes class : ℕ) (marks : List ℕ) → Keyed whole ws (wanted whole ws classes class marks)
unfolding wanted
wanted-key whole ws classes class marks j k e =
    ap₂ (λ (s : Bool) (c : ℕ). s && eqb c class) (suspected-key whole ws marks j k e) (class-key whole ws classes j k e)

pub wanted-of :
    (whole : Bool) (ws : List ℤ) (classes class : ℕ) (marks : List ℕ) (j : ℕ) → suspected whole ws marks j ≡ true → class_at whole ws classes j ≡ class →
    wanted whole ws classes class marks j ≡ true
unfolding wanted
wanted-of whole ws classes class marks j s c = ap₂ (λ (a b : Bool). a && b) s (eq-eqb (class_at whole ws classes j) class c)

pub not-suspected : (whole : Bool) (ws : List ℤ) (classes class : ℕ) (marks : List ℕ) (j : ℕ) → suspected whole ws marks j ≡ false → wanted whole ws classes class marks j ≡ false
unfolding wanted
not-suspected whole ws classes class marks j e = rw e

-- of a pair that is suspected, by the class that the code has
module _ (whole : Bool) (ws : List ℤ) (classes class : ℕ) (marks : List ℕ) (j : ℕ) {h c : ℕ} (s : suspected whole ws marks j ≡ true) (hashed : h ≡ hash_at whole ws j)
    (classed : c ≡ class_of classes h) where
  own : c ≡ class_at whole ws classes j
  unfolding class_at
  own = classed ∙ ap (class_of classes) hashed

  pub other-class : (c ≡ class → ⊥) → wanted whole ws classes class marks j ≡ false
  unfolding wanted
  other-class n = ap₂ (λ (a b : Bool). a && b) s (ne_eqb (class_at whole ws classes j) class (λ z. n (own ∙ z)))

  pub same-class : c ≡ class → wanted whole ws classes class marks j ≡ true
  same-class e = wanted-of whole ws classes class marks j s (sym own ∙ e)

module _ {whole : Bool} {ws : List ℤ} {mine : ℕ → Bool} {i : ℕ} {slots : List ℕ} (keyed : Keyed whole ws mine) (good : Good whole ws mine i slots) where
  abbrev Mine : ℕ → Type 0
  Mine j = mine j ≡ true

  keys : laws.Keys (same_at whole ws) (slot_at whole ws) Mine (counted whole ws)
  keys =
      record {
        self = self whole ws;
        key = key whole ws;
        slot-key = λ j k e. ap (bucket 27904) (hash-key whole ws j k e);
        mine-key = λ j k e m. sym (keyed j k e) ∙ m;
        counted-key = counted-key whole ws;
        counted-hit = counted-hit whole ws;
        counted-miss = counted-miss whole ws;
        counted_none = λ j. none_of whole ws j j;
      }

  higher : (q : ℕ) → get_or (firsts slots) q 0 ≤ suc i
  higher q = omega (arith, good.low q)

  -- the slots stay
  good-same : laws.All keys (suc i) (firsts slots) (numbers slots) → Good whole ws mine (i + 1) slots
  good-same all = record { slot-words = good.slot-words; low = λ q. omega (arith, good.low q); kept = rw (add-one i) all }

  pub good-skip : (Mine i → ⊥) → Good whole ws mine (i + 1) slots
  good-skip h = good-same (laws.skipped keys i (firsts slots) (numbers slots) good.kept h)

  pub good-full : Passed (same_at whole ws i) (slot_at whole ws i) (firsts slots) 256 → Good whole ws mine (i + 1) slots
  good-full p = good-same (laws.filled keys i (firsts slots) (numbers slots) good.kept p)

  pub held-count : {q : ℕ} → Mine i → EndsHeld (same_at whole ws i) (slot_at whole ws i) (firsts slots) q → number_in (get_or slots q 0) ≡ counted whole ws i i
  held-count {q} m r = sym (number-of slots q) ∙ laws.known keys i (firsts slots) (numbers slots) good.kept m good.low r

  pub good-held :
      {q : ℕ} → Mine i → EndsHeld (same_at whole ws i) (slot_at whole ws i) (firsts slots) q → Good whole ws mine (i + 1) (set slots q (get_or slots q 0 + 4294967296))
  good-held {q} m r =
      record {
        slot-words = length-set slots q (get_or slots q 0 + 4294967296) ∙ good.slot-words;
        low = rw (firsts_more slots q, add-one i) higher;
        kept = rw (firsts_more slots q, numbers_more slots q, add-one i)
            (laws.counted-on keys i (firsts slots) (numbers slots) good.kept r (omega (arith, held_below whole ws i (firsts slots) r, good.slot-words, length-map slots number_in)) (get_or (numbers slots) q 0) (number-of slots q ∙ held-count m r));
      }

  pub empty-count : {q : ℕ} → Mine i → EndsEmpty (same_at whole ws i) (slot_at whole ws i) (firsts slots) q → counted whole ws i i ≡ 0
  empty-count m r = none_of whole ws i i (laws.new keys i (firsts slots) (numbers slots) good.kept m r)

  pub good_new :
      {q : ℕ} → i < 4294967295 → Mine i → EndsEmpty (same_at whole ws i) (slot_at whole ws i) (firsts slots) q → Good whole ws mine (i + 1) (set slots q (i + 1 + 4294967296))
  good_new {q} l m r =
      record {
        slot-words = length-set slots q (i + 1 + 4294967296) ∙ good.slot-words;
        low = rw (firsts-new slots q i l, add-one i) (λ x. set-low (firsts slots) (suc i) (suc i) q x (omega arith) higher);
        kept = rw (firsts-new slots q i l, numbers-new slots q i l, add-one i)
            (laws.opened keys i (firsts slots) (numbers slots) good.kept m r (omega (arith, empty-below whole ws i (firsts slots) r, good.slot-words, length-map slots place_in)) (omega (arith, empty-below whole ws i (firsts slots) r, good.slot-words, length-map slots number_in)));
      }

firsts-none : (n q : ℕ) → get_or (firsts (replicate n 0)) q 0 ≡ 0
firsts-none n q = first-in (replicate n 0) q ∙ ap place_in (zeros n q)

pub good_start : (whole : Bool) (ws : List ℤ) (mine : ℕ → Bool) → Good whole ws mine 0 (replicate 28160 0)
good_start whole ws mine =
    record {
      slot-words = length-replicate {A = ℕ} 28160 0;
      low = λ q. rw (firsts-none 28160 q) (omega arith);
      kept = λ j l. absurd (omega arith);
    }
