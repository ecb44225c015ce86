-- The search in arrays. Activations are counted from 0; `blocks` has the place of each one's BK, `froms` where the search goes on after it, and `numbers` the
-- number of the name whose word stands at a place of the resolved script. A number's block is a part of it, so that one comparison tells whether a block
-- introduces a number that some block does. The program's activation is not asked: what no other introduces is there. What ends a search is any test of an
-- activation (`stop_from`); that of a name is its number's block.
use Prim.Native.Nat.{ℕ, zero, suc, ◌*◌, ◌/◌, ◌≤◌, ◌<◌}
use Rattle.std.proofs.Common.{arith, sym, ap, ◌∙◌}
use Rattle.std.specs.Prelude.{Bool, true, false, List, ◌≡◌, eqb, get_or}
use Rattle.std.proofs.Math.Path.{refl}
use borrow.Author.Tests.{eqb-true, eqb-false, eq-eqb, ne_eqb}
use Rattle.laws.specs.Tests.{split}

-- the place of the BK of the block that introduces a number
abbrev pub block_in : ℕ → ℕ
block_in x = x / 32

-- from activation k on the first that ends the search, m activations at most being asked
unfoldable pub stop_within : (ℕ → Bool) → ℕ → List ℕ → ℕ → ℕ
stop_within ends zero froms k = 0
stop_within ends (suc m) froms k =
    elim (eqb k 0) [ true ↦ 0 | false ↦ elim (ends k) [ true ↦ k | false ↦ stop_within ends m froms (get_or froms k 0) ] ]

unfoldable pub stop_from : (ℕ → Bool) → List ℕ → ℕ → ℕ
stop_from ends froms k = stop_within ends k froms k

-- the activation that introduces a number, sought from activation k
unfoldable pub sought : List ℕ → List ℕ → ℕ → ℕ → ℕ
sought blocks froms k x = stop_from (λ j. eqb (get_or blocks j 0) (block_in x)) froms k

-- the first cell of the activation that declares the name whose word stands at a place
unfoldable pub first_at : List ℕ → List ℕ → List ℕ → ℕ → ℕ → ℕ
first_at numbers blocks froms live place = 32 * sought blocks froms live (get_or numbers place 0)

-- the search goes on further out, and ends at the program's activation
pub record Falls (froms : List ℕ) (live : ℕ) : Type 0 where
  pub few : live < 256
  pub first : get_or froms 0 0 ≡ 0
  pub falls : (k : ℕ) → 1 ≤ k → k ≤ live → get_or froms k 0 < k

-- One activation asked, whatever ends the search

module _ (ends : ℕ → Bool) (froms : List ℕ) where
  at-start : (m : ℕ) → stop_within ends m froms 0 ≡ 0
  unfolding stop_within
  at-start zero = refl
  at-start (suc m) = refl

  there : (m k : ℕ) → (k ≡ 0 → ⊥) → ends k ≡ true → stop_within ends (suc m) froms k ≡ k
  unfolding stop_within
  there m k n e = rw (stop_within, ne_eqb k 0 n, e)

  further : (m k : ℕ) → (k ≡ 0 → ⊥) → ends k ≡ false → stop_within ends (suc m) froms k ≡ stop_within ends m froms (get_or froms k 0)
  unfolding stop_within
  further m k n e = rw (stop_within, ne_eqb k 0 n, e)

  pub stop-last : stop_from ends froms 0 ≡ 0
  unfolding stop_from
  stop-last = at-start 0

  pub stop-here : (k : ℕ) → 1 ≤ k → ends k ≡ true → stop_from ends froms k ≡ k
  unfolding stop_from
  stop-here zero low e = absurd (omega arith)
  stop-here (suc k) low e = there k (suc k) (λ z. omega arith) e

  module _ (live : ℕ) (falls : (k : ℕ) → 1 ≤ k → k ≤ live → get_or froms k 0 < k) where
    -- more activations than there are make no difference
    enough : (m m' k : ℕ) → k ≤ m → k ≤ m' → k ≤ live → stop_within ends m froms k ≡ stop_within ends m' froms k
    enough zero m' k p q h = let z : k ≡ 0 = omega arith in ap (stop_within ends zero froms) z ∙ at-start zero ∙ sym (ap (stop_within ends m' froms) z ∙ at-start m')
    enough (suc m) zero k p q h = let z : k ≡ 0 = omega arith in ap (stop_within ends (suc m) froms) z ∙ at-start (suc m) ∙ sym (ap (stop_within ends zero froms) z ∙ at-start zero)
    enough (suc m) (suc m') k p q h = go (λ j a b c. enough m m' j a b c)
      where
        go : ((j : ℕ) → j ≤ m → j ≤ m' → j ≤ live → stop_within ends m froms j ≡ stop_within ends m' froms j) → stop_within ends (suc m) froms k ≡ stop_within ends (suc m') froms k
        go r =
            split (eqb k 0)
            (λ t. let z : k ≡ 0 = eqb-true k 0 t in ap (stop_within ends (suc m) froms) z ∙ at-start (suc m) ∙ sym (ap (stop_within ends (suc m') froms) z ∙ at-start (suc m')))
            (λ t. let n = eqb-false k 0 t in
            split (ends k) (λ e. there m k n e ∙ sym (there m' k n e))
            (λ e. let l = falls k (omega (arith, n)) h in
            further m k n e ∙ r (get_or froms k 0) (omega arith) (omega arith) (omega arith) ∙ sym (further m' k n e)))

    pub stop-on : (k : ℕ) → 1 ≤ k → k ≤ live → ends k ≡ false → stop_from ends froms k ≡ stop_from ends froms (get_or froms k 0)
    unfolding stop_from
    stop-on zero low h e = absurd (omega arith)
    stop-on (suc k) low h e =
        let l = falls (suc k) low h in
        further k (suc k) (λ z. omega arith) e ∙ enough k (get_or froms (suc k) 0) (get_or froms (suc k) 0) (omega arith) (omega arith) (omega arith)

-- A number sought

pub sought-last : (blocks froms : List ℕ) (x : ℕ) → sought blocks froms 0 x ≡ 0
unfolding sought
sought-last blocks froms x = stop-last (λ j. eqb (get_or blocks j 0) (block_in x)) froms

pub sought-here : (blocks froms : List ℕ) (k x : ℕ) → 1 ≤ k → get_or blocks k 0 ≡ block_in x → sought blocks froms k x ≡ k
unfolding sought
sought-here blocks froms k x low e = stop-here (λ j. eqb (get_or blocks j 0) (block_in x)) froms k low (eq-eqb (get_or blocks k 0) (block_in x) e)

pub sought-on : (blocks froms : List ℕ) (live : ℕ) → Falls froms live → (x k : ℕ) → 1 ≤ k → k ≤ live → (get_or blocks k 0 ≡ block_in x → ⊥) → sought blocks froms k x ≡ sought blocks froms (get_or froms k 0) x
unfolding sought
sought-on blocks froms live falls x k low h d = stop-on (λ j. eqb (get_or blocks j 0) (block_in x)) froms live falls.falls k low h (ne_eqb (get_or blocks k 0) (block_in x) d)
