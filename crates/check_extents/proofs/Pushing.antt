-- Entries put one after the other: those put so far, and the records still to come.
-- Assumes nothing.
use mathlib.Core.Path.{◌≡◌, refl, sym, ◌∙◌, ap, subst}
use mathlib.Core.List.{List, [], ◌∷◌, ◌++◌, append-nil, append_assoc}
use Prim.Native.Nat.{ℕ, ◌+◌, ◌*◌, ◌-◌, ◌<◌, ◌≤◌, max}
use native.Mathlib.Numerals.{add-one}
use native.Mathlib.Omega.{arith}
use lib.ListN.{length, take, drop, set}
use lib.Seq.{take-suc-set, take-length}
use Rattle.std.proofs.lemmas.Slice.{between-put_mid, drop-put_mid, take-put_mid_below}
use borrow.Rule.Slice.PartMut.{put_mid}
use Rattle.laws.specs.Fields.{field_at, FieldsStand, fields-first, fields-after}
use Rattle.check_extents.specs.Items.{Item, item_fields, items_fields, entries_of}
use Rattle.check_extents.specs.Passing.{Skipped, Ends, Placed}

-- the entries put so far with those still to come are those of the records
pub record Rest (bs es : List ℕ) (at here i count : ℕ) (xs : List Item) : Type 0 where
  pub left : List Item
  pub stand : FieldsStand bs here (items_fields left)
  pub number : length left + i ≡ count
  pub joined : take i es ++ entries_of bs left here ≡ entries_of bs xs at

pub rest-start : (bs es : List ℕ) (at count : ℕ) (xs : List Item) → length xs ≡ count → FieldsStand bs at (items_fields xs) → Rest bs es at at 0 count xs
rest-start bs es at count xs n h = record { left = xs; stand = h; number = omega arith; joined = refl }

pub rest-end : (bs es : List ℕ) (at here i count : ℕ) (xs : List Item) → count ≤ i → Rest bs es at here i count xs → take i es ≡ entries_of bs xs at
unfolding entries_of
rest-end bs es at here i count xs e r = none r.left r.number r.joined
  where
    none : (l : List Item) → length l + i ≡ count → take i es ++ entries_of bs l here ≡ entries_of bs xs at → take i es ≡ entries_of bs xs at
    none [] n j = sym (append-nil (take i es)) ∙ j
    none (y ∷ ys) n j = absurd (omega arith)

module _ (bs es : List ℕ) (at here i count v : ℕ) (xs : List Item) (fits : i < length es) (more : i < count) (is : v ≡ field_at bs (here + 2) + 65536 * here) (end : ℕ) (s : Skipped bs here end) where
  put_next : (rest : List ℕ) → take (i + 1) (set es i v) ++ rest ≡ take i es ++ (v ∷ rest)
  put_next rest =
      ap (λ (l : List ℕ). l ++ rest) (rw (add-one i) (take-suc-set es i v fits)) ∙ append_assoc (take i es) (v ∷ []) rest

  step : (l : List Item) → FieldsStand bs here (items_fields l) → length l + i ≡ count → take i es ++ entries_of bs l here ≡ entries_of bs xs at → Rest bs (set es i v) at end (i + 1) count xs
  unfolding entries_of items_fields
  step [] h n j = absurd (omega arith)
  step (y ∷ ys) h n j =
      let e : end ≡ here + 2 * length (item_fields y) = s.ends y (fields-first bs here (item_fields y) (items_fields ys) h) in
      record {
        left = ys;
        stand = subst (λ (o : ℕ). FieldsStand bs o (items_fields ys)) (sym e) (fields-after bs here (item_fields y) (items_fields ys) h);
        number = omega arith;
        joined = put_next (entries_of bs ys end) ∙ ap (λ (x : ℕ). take i es ++ (x ∷ entries_of bs ys end)) is ∙ rw e j;
      }

  pub rest_step : Rest bs es at here i count xs → Rest bs (set es i v) at end (i + 1) count xs
  rest_step r = step r.left r.stand r.number r.joined

-- as the code has it
pub record Pushing (bs es ends : List ℕ) (at here i count : ℕ) : Type 0 where
  pub near : here ≤ max at (length bs + 131076)
  pub noted : Ends bs ends
  pub rest : (xs : List Item) → length xs ≡ count → FieldsStand bs at (items_fields xs) → Rest bs es at here i count xs

pub pushing-start : (bs es ends : List ℕ) (at count : ℕ) → Ends bs ends → Pushing bs es ends at at 0 count
pushing-start bs es ends at count n =
    record { near = omega arith; noted = n; rest = λ xs m h. rest-start bs es at count xs m h }

module _ {bs es ends : List ℕ} {at here i count : ℕ} (p : Pushing bs es ends at here i count) where
  pub pushing_step :
      (ends' : List ℕ) (n v end : ℕ) → i < length es → i < count → n ≡ field_at bs (here + 2) → v ≡ n + 65536 * here → Skipped bs here end →
      Ends bs ends' → Pushing bs (set es i v) ends' at end (i + 1) count
  pushing_step ends' n v end fits more e is s ok =
      record {
        near = omega (arith, s.close, p.near);
        noted = ok;
        rest = λ xs m h. rest_step bs es at here i count v xs fits more (is ∙ ap (λ (x : ℕ). x + 65536 * here) e) end s (p.rest xs m h);
      }

  -- they lie in the array from `base` on
  pub pushing-end : (es₀ : List ℕ) (base k : ℕ) → k ≡ count → base + count ≤ length es₀ → length es ≡ count → i ≡ count → Placed bs es₀ (put_mid base k es₀ es) ends at count base
  pushing-end es₀ base k same room long done =
      record {
        pushed = λ xs m h. ap (λ (n : ℕ). take n (drop base (put_mid base k es₀ es))) e ∙ between-put_mid base k es₀ es (base + count) (omega arith) (omega arith) ∙ sym (ap (λ (n : ℕ). take n es) all ∙ take-length es) ∙ rest-end bs es at here i count xs (omega arith) (p.rest xs m h);
        above = drop-put_mid base k es₀ es (base + count) (omega arith) (omega arith) (omega arith);
        below = take-put_mid_below base k es₀ es base (omega arith) (omega arith);
        noted = p.noted;
      }
    where
      e : count ≡ base + count - base
      e = omega arith

      all : i ≡ length es
      all = omega arith
