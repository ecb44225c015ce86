-- Values put into an array one after the other, from `base` on: for `resolve_names`, which stores them by their index.
-- Assumes nothing.
use mathlib.Core.Path.{◌≡◌, refl, sym, ◌∙◌, ap}
use mathlib.Core.List.{List, [], ◌∷◌, ◌++◌, append-nil, append_assoc}
use Prim.Native.Nat.{ℕ, ◌+◌, ◌<◌}
use native.Mathlib.Numerals.{add-one}
use native.Mathlib.Omega.{arith}
use lib.ListN.{length, take, drop, set, length-drop, length-set}
use lib.Seq.{drop-set-add, take-suc-set, drop-set-lt, take-set-le, drop-drop}

-- the array is as it was below `base` and past the values put so far
pub record Filling (es₀ es : List ℕ) (base i : ℕ) : Type 0 where
  pub long : length es ≡ length es₀
  pub above : drop (base + i) es ≡ drop (base + i) es₀
  pub below : take base es ≡ take base es₀

pub filling-start : (es : List ℕ) (base : ℕ) → Filling es es base 0
filling-start es base = record { long = refl; above = refl; below = refl }

pub filling_step : (es₀ es : List ℕ) (base i v : ℕ) → Filling es₀ es base i → Filling es₀ (set es (base + i) v) base (i + 1)
filling_step es₀ es base i v f =
    record {
      long = length-set es (base + i) v ∙ f.long;
      above = drop-set-lt (base + (i + 1)) es (base + i) v (omega arith) ∙ one_more es ∙ ap (drop 1) f.above ∙ sym (one_more es₀);
      below = take-set-le base es (base + i) v (omega arith) ∙ f.below;
    }
  where
    next : base + i + 1 ≡ base + (i + 1)
    next = omega arith

    one_more : (l : List ℕ) → drop (base + (i + 1)) l ≡ drop 1 (drop (base + i) l)
    one_more l = sym (drop-drop 1 (base + i) l ∙ ap (λ (k : ℕ). drop k l) next)

-- those put so far with those still to come
module _ (es : List ℕ) (base i v : ℕ) (fits : base + i < length es) where
  put_next : take (i + 1) (drop base (set es (base + i) v)) ≡ take i (drop base es) ++ (v ∷ [])
  put_next = rw (add-one i, drop-set-add base es i v) (take-suc-set (drop base es) i v (omega (arith, length-drop base es)))

  pub joined-next : (w : ℕ) (rest whole : List ℕ) → v ≡ w → take i (drop base es) ++ (w ∷ rest) ≡ whole → take (i + 1) (drop base (set es (base + i) v)) ++ rest ≡ whole
  joined-next w rest whole e j =
      ap (λ (l : List ℕ). l ++ rest) put_next ∙ append_assoc (take i (drop base es)) (v ∷ []) rest
      ∙ ap (λ (x : ℕ). take i (drop base es) ++ (x ∷ rest)) e ∙ j

pub joined-all : (es : List ℕ) (base i count : ℕ) (whole : List ℕ) → i ≡ count → take i (drop base es) ++ [] ≡ whole → take count (drop base es) ≡ whole
joined-all es base i count whole e j = ap (λ (k : ℕ). take k (drop base es)) (sym e) ∙ sym (append-nil (take i (drop base es))) ∙ j
