-- What the statement at a place asks of the copy, by its mark: its fields are there, and the names in them have cells.
use Rattle.std.specs.Prelude.{ℕ, ◌+◌, ◌≤◌, ◌<◌, true, ◌≡◌, eqb, length, get_or}
use Rattle.run_moves.specs.Acting.{Scene}
use Rattle.resolved.specs.Layout.{operation_in}
use Rattle.run_statements.specs.Pieces.{FormalsBefore}
use Rattle.copy_names.specs.Owner.{Sorted}
use Rattle.copy_statements.specs.Doing.{Copy, text, cell, target, Mark, arithmetic, branch, constant, call, goto, block, pair, unpair, query, mark_of}

module _ (c : Copy) (s : Scene) where
  -- so many fields stand in the area and in the script
  pub record Fields (n : ℕ) : Type 0 where
    pub within : s.at + n ≤ 4096
    pub there : c.base + s.at + n ≤ length c.area

  -- the name in a field is a new one and has a cell
  pub record Named (i : ℕ) : Type 0 where
    pub new : get_or c.firsts 0 0 ≤ text c s i
    pub has : cell c s i < 8192

  pub record Called : Type 0 where
    pub few : text c s 2 ≤ 32
    pub fields : Fields (3 + text c s 2)
    pub procedure : Named 1
    pub arguments : (i : ℕ) → i < text c s 2 → Named (3 + i)
    pub activations : s.activations ≤ 256
    -- where the called name is a formal as written, its body stands after its formals
    pub body : eqb (operation_in (get_or s.code s.at 0)) 15 ≡ true → FormalsBefore s.code (target c s 1)

  abbrev pub By : Mark → Type 0
  By arithmetic = Fields 5 × Named 1 × Named 3 × Named 4
  By branch = Fields 3 × Named 1 × Named 2
  By constant = Fields 4 × Named 1 × (text c s 2 < 65536) × (text c s 3 < 65536)
  By call = Called
  By goto = Fields 2 × Named 1
  By block = Fields 2
  By pair = Fields 3 × Named 1 × Named 2
  By unpair = Fields 3 × Named 1 × Named 2
  By query = Fields 4 × Named 1 × Named 2 × Named 3

  pub record Ready : Type 0 where
    pub few : s.live ≤ 255
    pub sorted : Sorted c.firsts s.live
    pub mark : Fields 1
    pub by : By (mark_of (text c s 0))
