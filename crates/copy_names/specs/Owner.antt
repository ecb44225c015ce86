-- The activation that declares a new name, from the name alone: each activation's first new name is noted, and these rise. `NewNames`: what is
-- noted is right for the copy-rule machine's activations.
use Rattle.std.specs.Prelude.{ℕ, zero, suc, ◌+◌, ◌-◌, ◌≤◌, ◌<◌, true, false, List, ◌≡◌, leb, length, get_or}
use Rattle.std.proofs.Math.Option.{some}
use Rattle.std.proofs.Math.ListN.{get_elem?}
use Rattle.language.specs.Basics.{up_from}
use Rattle.language.specs.Text.{block_decls, declared_names}
use Rattle.language.specs.Machine.{Activation}
use Rattle.resolved.specs.Layout.{cell_from}

-- the innermost activation, up to `live`, whose first new name is not above x
unfoldable pub owner_in : List ℕ → ℕ → ℕ → ℕ
owner_in firsts zero x = zero
owner_in firsts (suc k) x = elim (leb (get_or firsts (suc k) 0) x) [ true ↦ suc k | false ↦ owner_in firsts k x ]

-- the cell of the declared name: `starts` has the cell of each activation's first declared name
unfoldable pub cell_in : List ℕ → List ℕ → ℕ → ℕ → ℕ
cell_in firsts starts live x = get_or starts (owner_in firsts live x) 0 + (x - get_or firsts (owner_in firsts live x) 0)

-- first names do not fall, up to the innermost activation's
abbrev pub Sorted : List ℕ → ℕ → Type 0
Sorted firsts live = (j k : ℕ) → j ≤ k → k ≤ live → get_or firsts j 0 ≤ get_or firsts k 0

-- a name whose cell can be found, up to the innermost activation
pub record Findable (firsts starts : List ℕ) (live name : ℕ) : Type 0 where
  pub few : live ≤ 255
  pub sorted : Sorted firsts live
  pub new : get_or firsts 0 0 ≤ name
  pub has : cell_in firsts starts live name < 8192

-- the innermost activation's first new name, and that name's cell
pub record Innermost (firsts starts : List ℕ) (live first start : ℕ) : Type 0 where
  pub first-is : first ≡ get_or firsts live 0
  pub start_is : start ≡ get_or starts live 0

pub record NewNames (as' : List Activation) (fresh : ℕ) (firsts starts : List ℕ) : Type 0 where
  pub names-are : (k : ℕ) (a : Activation) → get_elem? as' k ≡ some a → declared_names a.text ≡ up_from (get_or firsts k 0) (length (block_decls a.text))
  pub rise : (j k : ℕ) (a : Activation) → j < k → k < length as' → get_elem? as' j ≡ some a → get_or firsts j 0 + length (block_decls a.text) ≤ get_or firsts k 0
  pub given_out : (k : ℕ) (a : Activation) → get_elem? as' k ≡ some a → get_or firsts k 0 + length (block_decls a.text) ≤ fresh
  pub starts-are : (k : ℕ) (a : Activation) → get_elem? as' k ≡ some a → get_or starts k 0 ≡ cell_from k (length a.arguments)
