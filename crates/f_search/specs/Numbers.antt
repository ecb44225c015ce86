-- Numbers of names (source 001, section 5: the prepass, axiom 5-1). Every declaration and every formal of a script has a number of its own: 32 for
-- each word of the script before its block's BK, and its position in the block. So a block's own numbers are consecutive, and whether it introduces
-- one is two comparisons.
use Rattle.std.specs.Prelude.{ℕ, pred, ◌+◌, ◌*◌, Bool, ◌&&◌, List, [], ◌∷◌, ◌++◌, leb, ltb, length}
use Rattle.std.proofs.Math.Option.{none, some}
use Rattle.language.specs.Basics.{up_from}
use Rattle.language.specs.Text.{Block, block_at}
use Rattle.frames.specs.Frame.{position_from}
use Rattle.coordinates.specs.Enclosure.{Enclosing, Enclosure, names_of}
use Rattle.coordinates.proofs.Index.{is_block, is-action, Entry, index_of}
use Rattle.resolved.specs.Resolved.{place_of}

-- the number of a block's first name
unfoldable pub first_number : Enclosing → ℕ
first_number e = 32 * place_of (block_at e.text)

unfoldable pub introduces : Enclosing → ℕ → Bool
introduces e x = leb (first_number e) x && ltb x (first_number e + length (names_of e))

-- the number of a name by the blocks around its use: that of the nearest declaration. Where it is not visible 0, which the program's first name has too:
-- who looks up any name asks first whether it is visible
unfoldable pub number_of : Enclosure → ℕ → ℕ
number_of [] n = 0
number_of (e ∷ es) n = elim (position_from n 1 (names_of e)) [ some p ↦ first_number e + pred p | none ↦ number_of es n ]

-- the numbers that an entry of a script's index introduces
unfoldable pub entry_numbers : Entry → List ℕ
entry_numbers (at, is_block []) = []
entry_numbers (at, is_block (e ∷ es)) = up_from (first_number e) (length (names_of e))
entry_numbers (at, is-action es a) = []

unfoldable pub index_numbers : List Entry → List ℕ
index_numbers [] = []
index_numbers (x ∷ xs) = entry_numbers x ++ index_numbers xs

-- the numbers of all declarations and formals of a script, block by block in file order
unfoldable pub numbers_of : Block → List ℕ
numbers_of t = index_numbers (index_of t)
