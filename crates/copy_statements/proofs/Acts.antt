-- What each mark's function does is what `doing` has for the mark.
use Prim.Native.Nat.{ℕ, zero, suc, ◌+◌, ◌*◌}
use native.Mathlib.Omega.{arith}
use mathlib.Core.Bool.{Bool, true, false}
use mathlib.Core.List.{List}
use mathlib.Core.Path.{◌≡◌, refl, sym, ap, ◌∙◌, subst}
use borrow.Author.Tests.{ne_eqb}
use lib.Dec.{leb}
use lib.IntN.{ℤ, pos}
use lib.ListN.{get_or, set}
use Rattle.language.specs.Basics.{eq_z}
use Rattle.language.specs.Encoding.{signed, BK-mark, CL-mark, GO-mark, IF-mark, KN-mark, AR-mark, AD-mark, RM-mark}
use Rattle.run_moves.specs.declared.Move.{Move}
use Rattle.run_moves.specs.declared.Ask.TheVariants.{Add, Remove, Query}
use Rattle.run_moves.specs.declared.Move.TheVariants.{On, Table as Asks}
use Rattle.run_moves.specs.Effects.{effect_of, cells_of}
use Rattle.run_moves.specs.Acting.{Scene, moves, rewrites}
use Rattle.run_statements.specs.Pieces.{move_after, block_move}
use Rattle.run_statements.specs.Scenes.{Done}
use Rattle.copy_statements.specs.Doing.{Copy, text, value_at}
use Rattle.copy_statements.specs.Doing.{Mark, arithmetic, branch, constant, call, goto, block, pair, unpair, query, mark_of, happens, doing}
use Rattle.copy_statements.specs.Doing.{do_constant, do_arithmetic, do_goto, do_branch, do_block, arguments_from, differs, do_call}
use Rattle.copy_statements.specs.Doing.{do_change, do_query}
use Rattle.copy_arms.specs.Parts.{cell_at, variable_at, result_at, jump_at, branch_move}
use Rattle.copy_arms.specs.Parts.{handed_from, handed_at, refused_by, refused_at, enter_at, call_move, call_words}

-- the mark that is left
pub last-mark :
    (m : ℕ) → (m ≡ AR-mark → ⊥) → (m ≡ IF-mark → ⊥) → (m ≡ KN-mark → ⊥) → (m ≡ CL-mark → ⊥) → (m ≡ GO-mark → ⊥) → (m ≡ BK-mark → ⊥) →
    (m ≡ AD-mark → ⊥) → (m ≡ RM-mark → ⊥) → mark_of m ≡ query
unfolding mark_of
last-mark m ar if kn cl go bk ad rm =
    rw (mark_of, ne_eqb _ _ ar, ne_eqb _ _ if, ne_eqb _ _ kn, ne_eqb _ _ cl, ne_eqb _ _ go, ne_eqb _ _ bk, ne_eqb _ _ ad, ne_eqb _ _ rm)

module _ (c : Copy) (s : Scene) where
  -- where the mark stands in the area
  abbrev place : ℕ
  place = c.base + s.at

  -- the mark is read there
  pub mark-is : {v : ℕ} → v ≡ get_or c.area place 0 → {m : Mark} → mark_of v ≡ m → mark_of (text c s 0) ≡ m
  mark-is p e = let z : place + 0 ≡ place = omega arith in ap (λ (i : ℕ). mark_of (get_or c.area i 0)) z ∙ sym (ap mark_of p) ∙ e

  pub acted : {r : Move} {ws : List ℤ} (m : Mark) → mark_of (text c s 0) ≡ m → Done (happens c s m) r ws → Done (doing c s) r ws
  unfolding doing
  acted {r} {ws} m e = subst (λ (n : Mark). Done (happens c s n) r ws) (sym e)

  pub constant-acts :
      {r : Move} {ws : List ℤ} → r ≡ On (s.at + 4) →
      ws ≡ set s.cells (cell_at c.area c.firsts c.starts s.live (place + 1)) (signed (text c s 2 + 65536 * text c s 3)) →
      Done (happens c s constant) r ws
  unfolding happens do_constant rewrites
  constant-acts p q = (p, q)

  pub arithmetic-acts :
      {r : Move} {ws : List ℤ} → let z = result_at s.cells c.area c.firsts c.starts s.live place in
      r ≡ move_after (effect_of z) (s.at + 5) → ws ≡ cells_of s.cells (cell_at c.area c.firsts c.starts s.live (place + 1)) z →
      Done (happens c s arithmetic) r ws
  unfolding happens do_arithmetic rewrites
  arithmetic-acts p q = (p, q)

  abbrev jump : ℕ → Move
  jump i = jump_at c.area c.firsts c.starts c.targets s.live (place + i)

  pub goto-acts : {r : Move} → r ≡ jump 1 → Done (happens c s goto) r s.cells
  unfolding happens do_goto moves
  goto-acts p = (p, refl)

  pub branch-acts :
      {r : Move} → r ≡ branch_move (variable_at s.cells c.area c.firsts c.starts s.live (place + 1)) (s.at + 3) (jump 2) →
      Done (happens c s branch) r s.cells
  unfolding happens do_branch do_goto moves branch_move
  branch-acts {r} p = go (eq_z (value_at c s 1) (pos 0)) refl
    where
      go : (b : Bool) → eq_z (value_at c s 1) (pos 0) ≡ b → Done (do_branch c s) r s.cells
      go true e = (p ∙ rw (e, branch_move, do_branch), rw (e, do_branch))
      go false e = (p ∙ rw (e, branch_move, do_branch), rw (e, do_branch))

  pub block-acts :
      {r : Move} → r ≡ block_move s.code s.activations s.live s.at → Done (happens c s block) r s.cells
  unfolding happens do_block moves
  block-acts p = (p, refl)

  -- CL

  handed-are : (i n : ℕ) → handed_from c.area c.firsts c.starts c.targets s.live (place + i) n ≡ arguments_from c s i n
  unfolding handed_from arguments_from
  handed-are i zero = refl
  handed-are i (suc n) =
      let e : place + i + 1 ≡ place + (i + 1) = omega arith in
      rw (e, handed-are (i + 1) n)

  abbrev refused : Bool
  refused = refused_at s.code c.area c.firsts c.starts c.targets s.live s.at place

  abbrev full : Bool
  full = leb s.activations (s.live + 1)

  pub call-acts :
      {r : Move} {ws : List ℤ} →
      r ≡ call_move refused full (enter_at c.area c.firsts c.starts c.targets s.live s.at place) →
      ws ≡ call_words refused full s.cells (handed_at s.cells c.area c.firsts c.starts c.targets s.live place) →
      Done (happens c s call) r ws
  unfolding happens do_call differs refused_by call_move call_words moves rewrites
  call-acts {r} {ws} p q = go refused full refl refl
    where
      go : (d f : Bool) → refused ≡ d → full ≡ f → Done (do_call c s) r ws
      go true f e h = (p ∙ rw (e, call_move, do_call), q ∙ rw (e, call_words, do_call))
      go false true e h = (p ∙ rw (e, h, call_move, do_call), q ∙ rw (e, h, call_words, do_call))
      go false false e h =
          (p ∙ rw (e, h, call_move, do_call), q ∙ rw (e, h, call_words, do_call, handed-are 3 (text c s 2)))

  -- AD, RM and QY

  abbrev cell_in-field : ℕ → ℕ
  cell_in-field i = cell_at c.area c.firsts c.starts s.live (place + i)

  pub pair-acts : {r : Move} → r ≡ Asks (s.at + 3) (cell_in-field 1) (cell_in-field 2) 0 Add → Done (happens c s pair) r s.cells
  unfolding happens do_change moves
  pair-acts p = (p, refl)

  pub unpair-acts : {r : Move} → r ≡ Asks (s.at + 3) (cell_in-field 1) (cell_in-field 2) 0 Remove → Done (happens c s unpair) r s.cells
  unfolding happens do_change moves
  unpair-acts p = (p, refl)

  pub query-acts : {r : Move} → r ≡ Asks (s.at + 4) (cell_in-field 2) (cell_in-field 3) (cell_in-field 1) Query → Done (happens c s query) r s.cells
  unfolding happens do_query moves
  query-acts p = (p, refl)
