-- The offsets of records, put one after the other.
-- Assumes nothing.
use mathlib.Core.Path.{◌≡◌, refl, sym, ◌∙◌, ap, subst}
use mathlib.Core.Bool.{Bool, false}
use mathlib.Core.List.{List, [], ◌∷◌, ◌++◌}
use Prim.Native.Nat.{ℕ, ◌+◌, ◌*◌, ◌<◌, ◌≤◌}
use native.Mathlib.Omega.{arith}
use lib.ListN.{length, take, drop, set, length-append, length-set}
use lib.Seq.{take-set-le}
use Rattle.laws.specs.Fields.{FieldsStand, fields-first, fields-after}
use Rattle.check_extents.specs.Items.{Item, item_fields, items_fields}
use Rattle.check_extents.specs.Passing.{Skipped, Ends}
use Rattle.resolve_names.specs.Declared.{starts_of, Started, Noted, Unlabelled, IfLabelled}
use Rattle.check_extents.proofs.Putting.{joined-next, joined-all}

-- the records still to pass
pub record Passing (bs st : List ℕ) (base at here i count : ℕ) (xs : List Item) : Type 0 where
  pub left : List Item
  pub stand : FieldsStand bs here (items_fields left)
  pub number : length left + i ≡ count
  pub joined : take i (drop base st) ++ starts_of left here ≡ starts_of xs at
  pub reach : here + 2 * length (items_fields left) ≡ at + 2 * length (items_fields xs)

passing-start : (bs st : List ℕ) (base at count : ℕ) (xs : List Item) → length xs ≡ count → FieldsStand bs at (items_fields xs) → Passing bs st base at at 0 count xs
passing-start bs st base at count xs n h = record { left = xs; stand = h; number = omega arith; joined = refl; reach = refl }

passing-end :
    (bs st : List ℕ) (base at here i count : ℕ) (xs : List Item) → i ≡ count → Passing bs st base at here i count xs →
    (take count (drop base st) ≡ starts_of xs at) × (here ≡ at + 2 * length (items_fields xs))
unfolding starts_of items_fields
passing-end bs st base at here i count xs e r = none r.left r.number r.joined r.reach
  where
    none : (l : List Item) → length l + i ≡ count → take i (drop base st) ++ starts_of l here ≡ starts_of xs at → here + 2 * length (items_fields l) ≡ at + 2 * length (items_fields xs) → (take count (drop base st) ≡ starts_of xs at) × (here ≡ at + 2 * length (items_fields xs))
    none [] n j q = (joined-all st base i count (starts_of xs at) e j, omega arith)
    none (y ∷ ys) n j q = absurd (omega arith)

module _ (bs st : List ℕ) (base at here i count : ℕ) (xs : List Item) (fits : base + i < length st) (more : i < count) (end : ℕ) (s : Skipped bs here end) where
  step :
      (l : List Item) → FieldsStand bs here (items_fields l) → length l + i ≡ count → take i (drop base st) ++ starts_of l here ≡ starts_of xs at →
      here + 2 * length (items_fields l) ≡ at + 2 * length (items_fields xs) → Passing bs (set st (base + i) here) base at end (i + 1) count xs
  unfolding starts_of items_fields
  step [] h n j q = absurd (omega arith)
  step (y ∷ ys) h n j q =
      let e : end ≡ here + 2 * length (item_fields y) = s.ends y (fields-first bs here (item_fields y) (items_fields ys) h) in
      record {
        left = ys;
        stand = subst (λ (o : ℕ). FieldsStand bs o (items_fields ys)) (sym e) (fields-after bs here (item_fields y) (items_fields ys) h);
        number = omega arith;
        joined =
            ap (λ (o : ℕ). take (i + 1) (drop base (set st (base + i) here)) ++ starts_of ys o) e
            ∙ joined-next st base i here fits here (starts_of ys (here + 2 * length (item_fields y))) (starts_of xs at) refl j;
        reach = omega (arith, length-append (item_fields y) (items_fields ys));
      }

  passing_step : Passing bs st base at here i count xs → Passing bs (set st (base + i) here) base at end (i + 1) count xs
  passing_step r = step r.left r.stand r.number r.joined r.reach

-- as the code has it
pub record Starting (bs st₀ st ends : List ℕ) (at here i count base : ℕ) : Type 0 where
  pub within : i ≤ count
  pub from : at ≤ here
  pub near : here ≤ 1000000
  pub long : length st ≡ length st₀
  pub below : take base st ≡ take base st₀
  pub noted : Ends bs ends
  pub rest : (xs : List Item) → length xs ≡ count → FieldsStand bs at (items_fields xs) → Passing bs st base at here i count xs

pub starting-start : (bs st ends : List ℕ) (at count base : ℕ) → at ≤ 1000000 → Ends bs ends → Starting bs st st ends at at 0 count base
starting-start bs st ends at count base l n =
    record {
      within = omega arith;
      from = omega arith;
      near = l;
      long = refl;
      below = refl;
      noted = n;
      rest = λ xs m h. passing-start bs st base at count xs m h;
    }

module _ {bs st₀ st ends : List ℕ} {at here i count base : ℕ} (p : Starting bs st₀ st ends at here i count base) where
  pub starting-step :
      (ends' : List ℕ) (end : ℕ) → i < count → length bs ≤ 8192 → base + i < length st → Skipped bs here end → Ends bs ends' →
      Starting bs st₀ (set st (base + i) here) ends' at end (i + 1) count base
  starting-step ends' end more short fits s ok =
      record {
        within = omega arith;
        from = omega (arith, s.after, p.from);
        near = omega (arith, s.close, p.near);
        long = length-set st (base + i) here ∙ p.long;
        below = take-set-le base st (base + i) here (omega arith) ∙ p.below;
        noted = ok;
        rest = λ xs m h. passing_step bs st base at here i count xs fits more end s (p.rest xs m h);
      }

  noted-by : Started bs at count base st here → Noted bs st₀ st ends at count base here
  noted-by s = record { started = s; below = p.below; from = p.from; near = p.near; noted = p.noted }

  pub starting-out : i < count → length st ≤ base + i → Noted bs st₀ st ends at count base here
  starting-out more out = noted-by (λ xs m h fits. absurd (omega arith))

  pub starting-end : count ≤ i → Noted bs st₀ st ends at count base here
  starting-end l = noted-by (λ xs m h fits. passing-end bs st base at here i count xs (omega (arith, p.within)) (p.rest xs m h))

-- the statements' offsets, where a label needs them
pub labelled-noted : (bs st st' ends : List ℕ) (at count d end : ℕ) → Noted bs st st' ends at count d end → IfLabelled bs st st' ends at count d
labelled-noted bs st st' ends at count d end n = record { started = λ k l m. (end, n.started); below = n.below; noted = n.noted }

pub unlabelled-noted :
    (bs st ends : List ℕ) (at count d : ℕ) (t : Bool) → (t ≡ false → Unlabelled bs st d) → t ≡ false → Ends bs ends → IfLabelled bs st st ends at count d
unlabelled-noted bs st ends at count d t u e n = record { started = λ k l m. absurd (u e k l m); below = refl; noted = n }
