-- A reversed list, seen from its other end.
use Rattle.std.specs.Prelude.{ℕ, zero, suc, ◌-◌, ◌≤◌, ◌<◌, ◌≡◌, refl, Bool, true, false, ltb, length, take, drop}
use Rattle.std.proofs.Common.{arith, sym, ap, ◌∙◌, ltb-true, ltb-false, take_all}
use mathlib.Core.List.{List, [], ◌∷◌, ◌++◌, reverse, reverse-cons}
use Rattle.std.proofs.Math.ListN.{get_elem?}
use Rattle.std.proofs.lemmas.List.{length-reverse, take-append-le}
use Rattle.laws.specs.Lists.{get_elem-append, get_elem-seam}

module _ {A : Type 0} where
  pub reverse-drop : (xs : List A) (n : ℕ) → n ≤ length xs → reverse (drop n xs) ≡ take (length xs - n) (reverse xs)
  reverse-drop [] zero h = refl
  reverse-drop [] (suc n) h = absurd (omega arith)
  reverse-drop (x ∷ xs) zero h = sym (take_all (length (x ∷ xs) - 0) (reverse (x ∷ xs)) (omega (arith, length-reverse (x ∷ xs))))
  reverse-drop (x ∷ xs) (suc n) h =
      let e : suc (length xs) - suc n ≡ length xs - n = omega arith in
      rw (reverse-cons, e, take-append-le (length xs - n) (reverse xs) (x ∷ []) (omega (arith, length-reverse xs))) (reverse-drop xs n (omega arith))

  reverse-at-by : (x : A) (xs : List A) (i : ℕ) → i ≤ length xs → (i < length xs → get_elem? (reverse xs) i ≡ get_elem? xs (length xs - suc i))
      → (b : Bool) → ltb i (length xs) ≡ b → get_elem? (reverse xs ++ (x ∷ [])) i ≡ get_elem? (x ∷ xs) (length xs - i)
  reverse-at-by x xs i h r true q =
      let l : i < length xs = ltb-true i (length xs) q in
      let e : length xs - i ≡ suc (length xs - suc i) = omega arith in
      get_elem-append (reverse xs) (x ∷ []) i (omega (arith, length-reverse xs)) ∙ r l ∙ ap (get_elem? (x ∷ xs)) (sym e)
  reverse-at-by x xs i h r false q =
      let e : i ≡ length (reverse xs) = omega (arith, ltb-false i (length xs) q, length-reverse xs) in
      let z : length xs - i ≡ 0 = omega (arith, ltb-false i (length xs) q) in
      ap (get_elem? (reverse xs ++ (x ∷ []))) e ∙ get_elem-seam (reverse xs) x [] ∙ ap (get_elem? (x ∷ xs)) (sym z)

  pub reverse-at : (xs : List A) (i : ℕ) → i < length xs → get_elem? (reverse xs) i ≡ get_elem? xs (length xs - suc i)
  reverse-at [] i h = absurd (omega arith)
  reverse-at (x ∷ xs) i h =
      let e : suc (length xs) - suc i ≡ length xs - i = omega arith in
      rw (reverse-cons, e) (reverse-at-by x xs i (omega arith) (reverse-at xs i) (ltb i (length xs)) refl)
