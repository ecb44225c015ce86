-- The passers once a call's arguments are handed on: `handed-on`, what the steering of an entry asks.
use Prim.Native.Nat.{ℕ, zero, suc, ◌+◌, ◌≤◌, ◌<◌}
use native.Mathlib.Omega.{arith}
use Rattle.std.specs.Prelude.{List, ◌≡◌, eqb, length}
use Rattle.std.proofs.Math.Path.{refl, ap, subst}
use Rattle.std.proofs.Common.{sym, ◌∙◌, length-set, get_or-set_same, get_or-set_other}
use borrow.Author.Tests.{eq-eqb}
use Rattle.std.proofs.Math.ListN.{get_or}
use Rattle.laws.specs.Tests.{split}
use Rattle.resolved.specs.Resolved.{kind_in, direct}
use Rattle.search_calls.specs.Passing.{field_own, passer_at, passed, all_passed}

module _ (code numbers blocks froms : List ℕ) (live : ℕ) where
  abbrev own : ℕ → ℕ
  own place = field_own code numbers blocks froms live place

  abbrev kind : ℕ → ℕ
  kind place = kind_in (get_or code place 0)

  -- one argument

  passed_length : (passers : List ℕ) (place to : ℕ) → length (passed code numbers blocks froms live passers place to) ≡ length passers
  unfolding passed
  passed_length passers place to =
      split (eqb (kind place) 2) (λ t. rw (passed, t) (length-set passers to (passer_at code numbers blocks froms live passers place))) (λ t. rw (passed, t) refl)

  passed-other : (passers : List ℕ) (place to c : ℕ) → (c ≡ to → ⊥) → get_or (passed code numbers blocks froms live passers place to) c 0 ≡ get_or passers c 0
  unfolding passed
  passed-other passers place to c d =
      split (eqb (kind place) 2) (λ t. rw (passed, t) (get_or-set_other passers to c (passer_at code numbers blocks froms live passers place) 0 d)) (λ t. rw (passed, t) refl)

  passed-own : (passers : List ℕ) (place to : ℕ) → kind place ≡ 2 → to < length passers
      → get_or (passed code numbers blocks froms live passers place to) to 0 ≡ passer_at code numbers blocks froms live passers place
  unfolding passed
  passed-own passers place to k h =
      rw (passed, eq-eqb (kind place) 2 k) (get_or-set_same passers to (passer_at code numbers blocks froms live passers place) 0 h)

  -- what is read of a formal lies below what is written
  passer-kept : (passers : List ℕ) (place to p : ℕ) → own p < to → passer_at code numbers blocks froms live (passed code numbers blocks froms live passers place to) p ≡ passer_at code numbers blocks froms live passers p
  unfolding passer_at
  passer-kept passers place to p h =
      split (direct (get_or code p 0)) (λ t. rw (passer_at, t) refl) (λ t. rw (passer_at, t) (passed-other passers place to (own p) (λ e. omega arith)))

  -- all of them

  pub all-length : (n : ℕ) (passers : List ℕ) (place to : ℕ) → length (all_passed code numbers blocks froms live passers place to n) ≡ length passers
  unfolding all_passed
  all-length zero passers place to = refl
  all-length (suc n) passers place to = all-length n (passed code numbers blocks froms live passers place to) (place + 1) (to + 1) ∙ passed_length passers place to

  pub all-below : (n : ℕ) (passers : List ℕ) (place to c : ℕ) → c < to → get_or (all_passed code numbers blocks froms live passers place to n) c 0 ≡ get_or passers c 0
  unfolding all_passed
  all-below zero passers place to c h = refl
  all-below (suc n) passers place to c h =
      all-below n (passed code numbers blocks froms live passers place to) (place + 1) (to + 1) c (omega arith) ∙ passed-other passers place to c (λ e. omega arith)

  pub all-at : (n : ℕ) (passers : List ℕ) (place to : ℕ) → to + n ≤ length passers → ((i : ℕ) → i < n → own (place + i) < to)
      → (i : ℕ) → i < n → kind (place + i) ≡ 2 → get_or (all_passed code numbers blocks froms live passers place to n) (to + i) 0 ≡ passer_at code numbers blocks froms live passers (place + i)
  unfolding all_passed
  all-at zero passers place to room below i h k = absurd (omega arith)
  all-at (suc n) passers place to room below zero h k =
      let z : to + 0 ≡ to = omega arith in
      let q : place + 0 ≡ place = omega arith in
      ap (λ c. get_or (all_passed code numbers blocks froms live (passed code numbers blocks froms live passers place to) (place + 1) (to + 1) n) c 0) z
      ∙ all-below n (passed code numbers blocks froms live passers place to) (place + 1) (to + 1) to (omega arith)
      ∙ passed-own passers place to (ap kind (sym q) ∙ k) (omega arith) ∙ ap (passer_at code numbers blocks froms live passers) (sym q)
  all-at (suc n) passers place to room below (suc i) h k =
      let z : to + suc i ≡ to + 1 + i = omega arith in
      let q : place + suc i ≡ place + 1 + i = omega arith in
      let later : (j : ℕ) → j < n → own (place + 1 + j) < to + 1 =
      λ j l. let s : place + suc j ≡ place + 1 + j = omega arith in let b = subst (λ p. own p < to) s (below (suc j) (omega arith)) in omega arith in
      ap (λ c. get_or (all_passed code numbers blocks froms live (passed code numbers blocks froms live passers place to) (place + 1) (to + 1) n) c 0) z
      ∙ all-at n (passed code numbers blocks froms live passers place to) (place + 1) (to + 1) (omega (arith, passed_length passers place to)) later i (omega arith) (ap kind (sym q) ∙ k)
      ∙ passer-kept passers place to (place + 1 + i) (subst (λ p. own p < to) q (below (suc i) h)) ∙ ap (passer_at code numbers blocks froms live passers) (sym q)
