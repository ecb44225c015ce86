-- The loop of the search: what is sought from the activation that is asked next is what was sought at first.
use Prim.Native.Nat.{ℕ, ◌*◌, ◌/◌, ◌≤◌, ◌<◌}
use native.Mathlib.Omega.{arith}
use mathlib.Core.List.{List}
use mathlib.Core.Path.{◌≡◌, sym, ap, ◌∙◌}
use borrow.Author.Tests.{eqb-true, eqb-false}
use lib.Dec.{eqb}
use lib.ListN.{get_or}
use Rattle.laws.specs.Tests.{split}
use Rattle.search_names.specs.Seeking.{sought, first_at, Falls, sought-last, sought-here, sought-on}

pub record Asking (blocks froms : List ℕ) (from x k : ℕ) : Type 0 where
  pub within : k ≤ from
  pub same : sought blocks froms k x ≡ sought blocks froms from x

module _ (blocks froms : List ℕ) (from x k : ℕ) (a : Asking blocks froms from x k) where
  pub found : 0 < k → get_or blocks k 0 ≡ x / 32 → (k ≡ sought blocks froms from x) × (k ≤ from)
  found low e = (sym (sought-here blocks froms k x (omega arith) e) ∙ a.same, a.within)

  pub onward : Falls froms from → 0 < k → {b n : ℕ} → b ≡ get_or blocks k 0 → (b ≡ x / 32 → ⊥) → n ≡ get_or froms k 0 → Asking blocks froms from x n
  onward falls low {b} {n} e h q =
      let l = falls.falls k (omega arith) a.within in
      record { within = omega (arith, a.within); same = ap (λ j. sought blocks froms j x) q ∙ sym (sought-on blocks froms from falls x k (omega arith) a.within (λ z. h (e ∙ z))) ∙ a.same }

  pub at_last : k ≤ 0 → (0 ≡ sought blocks froms from x) × (0 ≤ from)
  at_last h = let z : k ≡ 0 = omega arith in (sym (sym a.same ∙ ap (λ j. sought blocks froms j x) z ∙ sought-last blocks froms x), omega arith)

-- the first cell, from the activation
pub first_found : (numbers blocks froms : List ℕ) (live place k x r : ℕ) → x ≡ get_or numbers place 0 → k ≡ sought blocks froms live x → k ≤ live → r ≡ 32 * k
    → (r ≡ first_at numbers blocks froms live place) × (r ≤ 32 * live)
unfolding first_at
first_found numbers blocks froms live place k x r e q h f = (f ∙ ap (λ j. 32 * j) (q ∙ ap (sought blocks froms live) e), omega arith)

-- the innermost activation asked before the loop
module _ (blocks froms : List ℕ) (live x : ℕ) where
  pub own-found : get_or blocks live 0 ≡ x / 32 → live ≡ sought blocks froms live x
  own-found e =
      split (eqb live 0) (λ t. let z : live ≡ 0 = eqb-true live 0 t in z ∙ sym (ap (λ j. sought blocks froms j x) z ∙ sought-last blocks froms x))
      (λ t. let n = eqb-false live 0 t in sym (sought-here blocks froms live x (omega (arith, n)) e))

  from-within : Falls froms live → {n k : ℕ} → n ≡ get_or froms live 0 → k ≤ n → k ≤ live
  from-within falls {n} {k} q h =
      split (eqb live 0) (λ t. let z : live ≡ 0 = eqb-true live 0 t in omega (arith, q ∙ ap (λ j. get_or froms j 0) z, falls.first))
      (λ t. let d = eqb-false live 0 t in omega (arith, falls.falls live (omega (arith, d)) (omega arith)))

  further-found : Falls froms live → {b n k : ℕ} → b ≡ get_or blocks live 0 → (b ≡ x / 32 → ⊥) → n ≡ get_or froms live 0 → k ≡ sought blocks froms n x → k ≡ sought blocks froms live x
  further-found falls {b} {n} {k} e h q f =
      f ∙ ap (λ j. sought blocks froms j x) q
      ∙ split (eqb live 0) (λ t. let z : live ≡ 0 = eqb-true live 0 t in ap (λ j. sought blocks froms j x) (ap (λ j. get_or froms j 0) z ∙ falls.first ∙ sym z))
      (λ t. let n = eqb-false live 0 t in sym (sought-on blocks froms live falls x live (omega (arith, n)) (omega arith) (λ u. h (e ∙ u))))

pub further-first : (numbers blocks froms : List ℕ) (live place x : ℕ) {b n k r : ℕ} → Falls froms live → x ≡ get_or numbers place 0 → b ≡ get_or blocks live 0 → (b ≡ x / 32 → ⊥) → n ≡ get_or froms live 0
    → (k ≡ sought blocks froms n x) × (k ≤ n) → r ≡ 32 * k → (r ≡ first_at numbers blocks froms live place) × (r ≤ 32 * live)
further-first numbers blocks froms live place x {b} {n} {k} {r} falls e a h q f g =
    first_found numbers blocks froms live place k x r e (further-found blocks froms live x falls a h q f.0) (from-within blocks froms live x falls q f.1) g
