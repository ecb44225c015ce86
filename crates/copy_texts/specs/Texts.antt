-- The texts of the live activations in the copying area: each activation has room for all the script's words, and its block's text stands at the
-- same places there as in the script. `names` has the word of the name in each field, 0 where there is none (crate `copy_fields`), and `fields` the
-- script's own fields.
use Rattle.std.specs.Prelude.{ℕ, zero, suc, ◌+◌, ◌*◌, ◌≤◌, ◌<◌, true, false, ◌&&◌, List, ◌≡◌, eqb, leb, ltb, length, get_or, set}
use Rattle.std.proofs.Math.Option.{some}
use Rattle.std.proofs.Math.ListN.{get_elem?}
use Rattle.language.specs.Text.{Decl, block_at, block_decls}
use Rattle.language.specs.Copy.{Replacement, renamed}
use Rattle.language.specs.Machine.{Activation}
use Rattle.frames.specs.Frame.{Frame}
use Rattle.frames.specs.Related.{joined}
use Rattle.coordinates.specs.Chain.{enclosure_of}
use Rattle.resolved.specs.Resolved.{place_of, end_place, level_in, position_in, target_in, direct, decl_target, name_word}
use Rattle.resolved.specs.Layout.{cell_from}

-- What a field of a copy is: a name that the copy's block, or one around it, declares reads as that activation has it; all else is as written.
unfoldable pub reading : List Replacement → ℕ → ℕ → ℕ
reading σs w n = elim (ltb 0 (level_in w) && leb (level_in w) (length σs)) [ true ↦ renamed (joined σs) n | false ↦ n ]

pub record Texts (area : List ℕ) (width : ℕ) (names fields : List ℕ) (as' : List Activation) (fs : List Frame) : Type 0 where
  pub each : (k : ℕ) (a : Activation) (f : Frame) → get_elem? as' k ≡ some a → get_elem? fs k ≡ some f →
      (q : ℕ) → place_of (block_at f.text) ≤ q → q < end_place f.text →
      get_or area (k * width + q) 0 ≡ reading a.reads (get_or names q 0) (get_or fields q 0)

-- What each label and procedure of the live activations leads to.
pub record Aims (targets : List ℕ) (fs : List Frame) : Type 0 where
  pub each : (k j : ℕ) (f : Frame) (d : Decl) → get_elem? fs k ≡ some f → get_elem? (block_decls f.text) j ≡ some d →
      get_or targets (cell_from k (length f.formals + j)) 0 ≡ decl_target f.text d

-- What the looked-up name reads as in each live activation; 0 where it is not visible.
unfoldable pub read_as : List Replacement → ℕ → ℕ → ℕ
read_as σs w n = elim (eqb w 0) [ true ↦ 0 | false ↦ renamed (joined σs) n ]

pub record Looks (looked : List ℕ) (as' : List Activation) (fs : List Frame) (name : ℕ) : Type 0 where
  pub each : (k : ℕ) (a : Activation) → get_elem? as' k ≡ some a → get_or looked k 0 ≡ read_as a.reads (name_word (enclosure_of fs (suc k)) name) name

-- Copying: a name of the block entered, at its level, becomes a new one, or the argument's name where it is a formal. Declared names go on from
-- `first` by their positions; the arguments' names stand in the area from `given` on.
unfoldable pub renewed : List ℕ → ℕ → ℕ → ℕ → ℕ → ℕ → ℕ
renewed area given level first w old =
    elim (eqb (level_in w) level) [ true ↦ elim (direct w) [ true ↦ first + position_in w | false ↦ get_or area (given + position_in w) 0 ] | false ↦ old ]

-- the words at the places from `place` to `end` are copied from one activation's room to another's
pub record Copied (area area' names : List ℕ) (from to given level first place end : ℕ) : Type 0 where
  pub as_long : length area' ≡ length area
  pub copied : (q : ℕ) → place ≤ q → q < end → get_or area' (to + q) 0 ≡ renewed area given level first (get_or names q 0) (get_or area (from + q) 0)
  pub before : (i : ℕ) → i < to + place → get_or area' i 0 ≡ get_or area i 0
  pub after : (i : ℕ) → to + end ≤ i → get_or area' i 0 ≡ get_or area i 0

-- what a word that declares or uses a name of the level says of the name's target
unfoldable pub noted : List ℕ → ℕ → ℕ → ℕ → List ℕ
noted targets lowest level w = elim (eqb (level_in w) level && direct w) [ true ↦ set targets (lowest + position_in w) (target_in w) | false ↦ targets ]

unfoldable pub noted_from : List ℕ → List ℕ → ℕ → ℕ → ℕ → ℕ → List ℕ
noted_from targets names lowest level q zero = targets
noted_from targets names lowest level q (suc n) = noted_from (noted targets lowest level (get_or names q 0)) names lowest level (q + 1) n
