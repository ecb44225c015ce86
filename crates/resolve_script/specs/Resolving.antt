-- The walk that writes the resolved script: what it is given, and what it writes.
use Rattle.std.specs.Prelude.{ℕ, suc, ◌+◌, ◌*◌, ◌-◌, ◌/◌, ◌≤◌, List, [], ◌∷◌, ◌++◌, ◌≡◌, length, drop, replicate}
use Rattle.std.proofs.Common.{sym, subst}
use Rattle.language.specs.Text.{Formal, Block}
use Rattle.language.specs.Encoding.{formals_fields, block_fields}
use Rattle.language.specs.Check.{accepted, check}
use Rattle.coordinates.specs.Enclosure.{Enclosure, enclosed}
use Rattle.resolved.specs.Resolved.{stmt_place, head_word, name_word, resolved_formals, resolved_block, resolved_decl, resolved_stmt, resolved_of, Covers}
use Rattle.resolved.proofs.Lengths.{covers-front}
use Rattle.laws.specs.Fields.{FieldsStand}
use Rattle.check_symbols.specs.Chains.{Chained}
use Rattle.check_extents.specs.Passing.{Ends}
use Rattle.check_extents.specs.Items.{Item, formal, body, declared, stated, item_fields, items_fields}
use Rattle.check_scope.specs.Walking.{BlockHere, ItemsHere, ItemHere}
use Rattle.resolve_words.specs.Growth.{Grown}
use Rattle.resolve_words.specs.Visible.{Shown}

-- declarations and statements
unfoldable pub resolved_item : ℕ → Item → Enclosure → List ℕ
resolved_item name (formal f) encl = []
resolved_item name (body b) encl = []
resolved_item name (declared d) encl = resolved_decl name d encl
resolved_item name (stated s) encl = resolved_stmt name s encl

unfoldable pub resolved_items : ℕ → List Item → Enclosure → List ℕ
resolved_items name [] encl = []
resolved_items name (x ∷ xs) encl = resolved_item name x encl ++ resolved_items name xs encl

-- formals at an offset and their block after them, in the enclosure around it, whose names are in the array
pub record BlockIs (bs es : List ℕ) (at count top level : ℕ) (b : Block) (fs : List Formal) (encl : Enclosure) : Type 0 where
  pub here : BlockHere bs at count top b fs level
  pub depth : suc (length encl) ≡ level
  pub shown : Shown encl (drop top es)
  pub within : at + 6 * count + 2 * length (block_fields b) ≤ 8192

-- records of a block with s statements, whose names are in the array
pub record ItemsIs (bs es : List ℕ) (at count top level : ℕ) (xs : List Item) (encl : Enclosure) (s : ℕ) : Type 0 where
  pub here : ItemsHere bs at count top xs level s
  pub depth : length encl ≡ level
  pub shown : Shown encl (drop top es)
  pub within : at + 2 * length (items_fields xs) ≤ 8192

pub record ItemIs (bs es : List ℕ) (at top level : ℕ) (x : Item) (encl : Enclosure) (s : ℕ) : Type 0 where
  pub here : ItemHere bs at top x level s
  pub depth : length encl ≡ level
  pub shown : Shown encl (drop top es)
  pub within : at + 2 * length (item_fields x) ≤ 8192

-- words written, and where the walk goes on
pub record Written (code code' : List ℕ) (at end r : ℕ) (ws : List ℕ) : Type 0 where
  pub ends : r ≡ end
  pub grows : Grown code code' at ws

abbrev pub FormalsWritten : List ℕ → ℕ → ℕ → List ℕ → List ℕ → Type 0
FormalsWritten bs at count code code' =
    (fs : List Formal) → length fs ≡ count → FieldsStand bs at (formals_fields fs) → Grown code code' at (resolved_formals fs)

-- a block's names are in the array, and its formals and its BK's words are written but for the second
abbrev pub Entered : List ℕ → List ℕ → List ℕ → ℕ → ℕ → ℕ → ℕ → ℕ → ℕ → List ℕ → List ℕ → Type 0
Entered bs es es' name at count top base level code code' =
    (b : Block) (fs : List Formal) (encl : Enclosure) → BlockIs bs es at count top level b fs encl →
    Shown (enclosed fs b ∷ encl) (drop base es')
    × Grown code code' at (resolved_formals fs ++ (head_word (enclosed fs b) level ∷ 0 ∷ name_word (enclosed fs b ∷ encl) name ∷ []))

-- a block's first statement stands at an offset
abbrev pub Leads : List ℕ → List ℕ → ℕ → ℕ → ℕ → ℕ → ℕ → Type 0
Leads bs es at count top level first =
    (b : Block) (fs : List Formal) (encl : Enclosure) → BlockIs bs es at count top level b fs encl → (first ≤ 8192) × (first / 2 ≡ stmt_place b 1)

-- a block is entered, and the entries around it are as they were
pub record Enters (bs es es' ends code code' : List ℕ) (name at count d base level first : ℕ) : Type 0 where
  pub entered : Entered bs es es' name at count (base + (count + d)) base level code code'
  pub leads : Leads bs es at count (base + (count + d)) level first
  pub same : drop (base + (count + d)) es' ≡ drop (base + (count + d)) es
  pub chained : Chained es' base
  pub near : first ≤ 1000000
  pub noted : Ends bs ends

abbrev pub BlockWritten : List ℕ → List ℕ → ℕ → ℕ → ℕ → ℕ → ℕ → List ℕ → List ℕ → ℕ → Type 0
BlockWritten bs es name at count top level code code' r =
    (b : Block) (fs : List Formal) (encl : Enclosure) → BlockIs bs es at count top level b fs encl →
    Written code code' at (at + 6 * count + 2 * length (block_fields b)) r (resolved_formals fs ++ resolved_block name b fs encl)

abbrev pub ItemsWritten : List ℕ → List ℕ → ℕ → ℕ → ℕ → ℕ → ℕ → List ℕ → List ℕ → ℕ → Type 0
ItemsWritten bs es name at count top level code code' r =
    (xs : List Item) (encl : Enclosure) (s : ℕ) → ItemsIs bs es at count top level xs encl s →
    Written code code' at (at + 2 * length (items_fields xs)) r (resolved_items name xs encl)

abbrev pub ItemWritten : List ℕ → List ℕ → ℕ → ℕ → ℕ → ℕ → List ℕ → List ℕ → ℕ → Type 0
ItemWritten bs es name at top level code code' r =
    (x : Item) (encl : Enclosure) (s : ℕ) → ItemIs bs es at top level x encl s →
    Written code code' at (at + 2 * length (item_fields x)) r (resolved_item name x encl)

-- the walk does not go back, nor far past the n bytes
abbrev pub Onward : ℕ → ℕ → ℕ → Type 0
Onward at n r = (at ≤ r) × (r ≤ n + 400000)

-- the words of an accepted script, and zeros after them
abbrev pub Resolved : List ℕ → ℕ → List ℕ → Type 0
Resolved bs name code =
    (t : Block) → check bs ≡ accepted t → code ≡ resolved_of name t ++ replicate (4096 - length (resolved_of name t)) 0

pub resolved-covers : (bs : List ℕ) (name : ℕ) (code : List ℕ) → Resolved bs name code → (t : Block) → check bs ≡ accepted t → Covers code 0 (resolved_of name t)
resolved-covers bs name code r t q = subst (λ (l : List ℕ). Covers l 0 (resolved_of name t)) (sym (r t q)) (covers-front (resolved_of name t) _)
