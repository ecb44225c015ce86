-- Coordinates of a name, from the text alone. The enclosure of a place in a script is the list of the blocks around it, each with its
-- formals, innermost first; its level is its length, so the program's is 1. `coordinate_of` finds a name in it: the level of the block
-- that declares it, and the name's position there. `Encloses t` says which lists are enclosures in the script t.
use Rattle.std.specs.Prelude.{ℕ, suc, ◌-◌, List, [], ◌∷◌, ◌++◌, reverse, ◌≡◌, length}
use Rattle.std.proofs.Math.Option.{Option, none, some}
use Rattle.std.proofs.Math.ListN.{get_elem?}
use Rattle.language.specs.Text.{Formal, Block, PR, BK, block_decls, block_stmts, formal_names, declared_names}
use Rattle.frames.specs.Frame.{numbered, position_from}

-- A block with the formals of the procedure whose body it is (none for any other block).
pub record Enclosing : Type 0 where
  pub formals : List Formal
  pub text : Block

abbrev pub enclosed : List Formal → Block → Enclosing
enclosed fs b = record { formals = fs; text = b }

abbrev pub Enclosure : Type 0
Enclosure = List Enclosing

unfoldable pub names_of : Enclosing → List ℕ
names_of e = formal_names e.formals ++ declared_names e.text

-- the level of the declaring block, and the position of the name there: both from 1, formals before declarations
pub record Coordinate : Type 0 where
  pub level : ℕ
  pub position : ℕ

unfoldable pub coordinate_of : Enclosure → ℕ → Option Coordinate
coordinate_of [] n = none
coordinate_of (e ∷ es) n =
    elim (position_from n 1 (names_of e)) [ some p ↦ some (record { level = suc (length es); position = p }) | none ↦ coordinate_of es n ]

-- the block of a level
unfoldable pub at_level : Enclosure → ℕ → Option Enclosing
at_level es j = numbered (reverse es) j

-- how many blocks further out a coordinate's block stands
unfoldable pub outward : Enclosure → Coordinate → ℕ
outward es c = length es - c.level

-- A block stands in another as a statement of it, or as the body of a procedure that it declares.
pub data StandsIn (e : Enclosing) (t : Block) : Type 0 where
  as-block : (i : ℕ) → get_elem? (block_stmts t) i ≡ some (BK e.text) → e.formals ≡ [] → StandsIn e t
  as-body : (i at n : ℕ) → get_elem? (block_decls t) i ≡ some (PR at n e.formals e.text) → StandsIn e t

unfoldable pub whole : Block → Enclosing
whole t = enclosed [] t

abbrev pub Encloses : Block → Enclosure → Type 0
Encloses t [] = ⊥
Encloses t (e ∷ []) = e ≡ whole t
Encloses t (e ∷ o ∷ es) = StandsIn e o.text × Encloses t (o ∷ es)
