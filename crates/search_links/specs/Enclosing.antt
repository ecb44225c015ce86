-- Enclosers in arrays, from what the search engine keeps of each activation, counted from 0: the place of its block's BK (`blocks`), at which the resolved
-- script has the block's level, and where the search goes on after it (`froms`).
use Rattle.std.specs.Prelude.{ℕ, ◌≤◌, ◌<◌, List, ◌≡◌, get_or}
use Rattle.std.proofs.Common.{arith, lt-ltb, le-ltb}
use Rattle.std.proofs.Math.Dec.{ltb}
use Rattle.resolved.specs.Resolved.{level_in}
use Rattle.search_names.specs.Seeking.{stop_from, stop-last, stop-here, stop-on}

-- the level of activation k's block
abbrev pub level_at : List ℕ → List ℕ → ℕ → ℕ
level_at code blocks k = level_in (get_or code (get_or blocks k 0) 0)

-- from activation k on the first whose level is below v; the program's where none else is
unfoldable pub shallower_from : List ℕ → List ℕ → List ℕ → ℕ → ℕ → ℕ
shallower_from code blocks froms v k = stop_from (λ j. ltb (level_at code blocks j) v) froms k

-- the link of activation k: its encloser, counted from 0 too
abbrev pub link_at : List ℕ → List ℕ → List ℕ → ℕ → ℕ
link_at code blocks froms k = shallower_from code blocks froms (level_at code blocks k) (get_or froms k 0)

-- the search from activation k goes further out, along blocks of the script
pub record Askable (blocks froms : List ℕ) (k : ℕ) : Type 0 where
  pub few : k < 256
  pub falls : (j : ℕ) → 1 ≤ j → j ≤ k → get_or froms j 0 < j
  pub heads : (j : ℕ) → j ≤ k → get_or blocks j 0 < 4096

abbrev pub AllAskable : List ℕ → List ℕ → ℕ → Type 0
AllAskable blocks froms live = (k : ℕ) → k < live → Askable blocks froms k

-- `links` becomes `links'`: the enclosers of the live activations but the program's, and all else as it was
pub record LinksFound (code blocks froms : List ℕ) (live : ℕ) (links links' : List ℕ) : Type 0 where
  pub links-are : (k : ℕ) → 1 ≤ k → k < live → get_or links' k 0 ≡ link_at code blocks froms k
  pub program : get_or links' 0 0 ≡ get_or links 0 0
  pub others : (k : ℕ) → live ≤ k → get_or links' k 0 ≡ get_or links k 0

-- One activation asked

module _ (code blocks froms : List ℕ) (v : ℕ) where
  pub shallower-last : shallower_from code blocks froms v 0 ≡ 0
  unfolding shallower_from
  shallower-last = stop-last (λ j. ltb (level_at code blocks j) v) froms

  pub shallower-here : (k : ℕ) → 1 ≤ k → level_at code blocks k < v → shallower_from code blocks froms v k ≡ k
  unfolding shallower_from
  shallower-here k low h = stop-here (λ j. ltb (level_at code blocks j) v) froms k low (lt-ltb (level_at code blocks k) v h)

  pub shallower-on : (from : ℕ) → Askable blocks froms from → (k : ℕ) → 1 ≤ k → k ≤ from → v ≤ level_at code blocks k → shallower_from code blocks froms v k ≡ shallower_from code blocks froms v (get_or froms k 0)
  unfolding shallower_from
  shallower-on from a k low high h = stop-on (λ j. ltb (level_at code blocks j) v) froms from a.falls k low high (le-ltb (level_at code blocks k) v h)

pub ask-below : {blocks froms : List ℕ} {k : ℕ} → Askable blocks froms k → {j : ℕ} → j ≤ k → Askable blocks froms j
ask-below a {j} h = record { few = omega (arith, a.few); falls = λ i low high. a.falls i low (omega arith); heads = λ i high. a.heads i (omega arith) }
