-- The array of the blocks around a record: at each level the place of that block's BK. With it the number of a name goes by the name's word.
use Rattle.std.specs.Prelude.{ℕ, suc, ◌+◌, ◌*◌, ◌≤◌, List, [], ◌∷◌, ◌≡◌, length, get_or}
use Rattle.language.specs.Text.{Formal, block_at}
use Rattle.grammar.specs.Rules.{FormedBlock, FormedDecl, FormedStmt}
use Rattle.coordinates.specs.Enclosure.{Enclosure}
use Rattle.resolved.specs.Resolved.{place_of, level_in, position_in}
use Rattle.resolved.proofs.NameWords.{Narrow}
use Rattle.check_extents.specs.Items.{Item, formal, body, declared, stated, item_fields}
use Rattle.resolve_fields.specs.Parts.{Part}

-- the number of the name whose word stands at a place
unfoldable pub number_at : List ℕ → List ℕ → ℕ → ℕ
number_at code around p = let w = get_or code p 0 in 32 * get_or around (level_in w) 0 + position_in w

-- the array has the blocks of an enclosure, and 0 for a name that is not visible
abbrev pub Around : List ℕ → Enclosure → Type 0
Around around [] = get_or around 0 0 ≡ 0
Around around (e ∷ es) = (get_or around (suc (length es)) 0 ≡ place_of (block_at e.text)) × Around around es

-- a record keeps the rules at its offset, inside so many blocks
abbrev pub FormedItem : Item → List Formal → ℕ → ℕ → Type 0
FormedItem (formal f) fs level at = Unit {0}
FormedItem (body b) fs level at = FormedBlock b (suc level) fs at
FormedItem (declared d) fs level at = (s : ℕ) × FormedDecl d level s at
FormedItem (stated x) fs level at = FormedStmt x level at

pub record Due (around : List ℕ) (depth at : ℕ) (p : Part) : Type 0 where
  pub formed : FormedItem p.item p.formals (length p.around) at
  pub narrow : Narrow p.around
  pub noted : Around around p.around
  pub shallow : length p.around ≤ depth

-- the records still to come, from an offset on: none lies deeper than the one before it, so that a block noted now is of none that comes later
abbrev pub Ahead : List ℕ → ℕ → ℕ → List Part → Type 0
Ahead around depth at [] = Unit {0}
Ahead around depth at (p ∷ ps) = Due around depth at p × Ahead around (length p.around) (at + 2 * length (item_fields p.item)) ps
