-- A statement's function says what it does in a scene as far as it looks at it (`only-cells`, `scene_by`). In the whole scene
-- the statement comes to the same, and what it does not look at stays: `constant-same` and so on, a law for each. `done`: so it is with `acting`.
use Prim.Native.Nat.{ℕ, zero, suc, ◌+◌}
use native.Mathlib.Omega.{arith}
use Rattle.std.specs.Prelude.{Bool, ◌≡◌, ℤ, pos, get_or}
use Rattle.std.proofs.Math.Bool.{true, false}
use mathlib.Core.List.{List, ◌∷◌}
use Rattle.std.proofs.Math.Path.{refl, ap}
use Rattle.std.proofs.Common.{sym, ap₂, ◌∙◌, subst}
use Rattle.std.proofs.Math.Dec.{leb}
use Rattle.language.specs.Basics.{eq_z}
use Rattle.language.specs.Text.{Operation}
use Rattle.language.specs.Machine.{compute}
use Rattle.run_moves.specs.Effects.{Effect as Kept}
use Rattle.std.specs.Prelude.{Ok, Err}
use Rattle.run_moves.specs.declared.Ask.{Ask}
use Rattle.run_moves.specs.declared.Move.{Move}
use Rattle.run_moves.specs.declared.Move.TheVariants.{Jump}
use Rattle.run_moves.specs.Effects.{effect_of}
use Rattle.run_moves.specs.Acting.{Finding, Scene, Happened, moves, rewrites, value_of, field, arithmetic_move, do_constant, do_arithmetic, do_goto, do_branch}
use Rattle.run_moves.specs.Acting.{no_room, do_block, arguments_from, do_call, arguments_agree, do_call_formal, do_change, do_query, Op}
use Rattle.run_moves.specs.Acting.{op_of, happens, acting}
use Rattle.run_moves.specs.Acting.{scene_by}
use Rattle.run_statements.specs.Pieces.{only-cells, block_move}

abbrev pub Done : Happened → Move → List ℤ → Type 0
Done h r cells = (r ≡ h.move) × (cells ≡ h.cells)

module _ (F : Finding) (s : Scene) where
  abbrev code : List ℕ
  code = s.code

  abbrev cells : List ℤ
  cells = s.cells

  abbrev activations : ℕ
  activations = s.activations

  abbrev live : ℕ
  live = s.live

  abbrev at : ℕ
  at = s.at

  abbrev o : Scene
  o = only-cells code cells at

  abbrev t : Scene
  t = scene_by code cells activations live at

  pub acts : (p : Op) → op_of (get_or code at 0) ≡ p → happens F s p ≡ acting F s
  unfolding acting
  acts p e =
      let z : at + 0 ≡ at = omega arith in
      ap (happens F s) (sym (ap (λ i. op_of (get_or code i 0)) z ∙ e))

  pub done : (p : Op) → op_of (get_or code at 0) ≡ p → (r : Move) (cells' : List ℤ) → Done (happens F s p) r cells' → Done (acting F s) r cells'
  done p e r cells' h = subst (λ (x : Happened). Done x r cells') (acts p e) h

  pub constant-same : (r : Move) (cells' : List ℤ) → r ≡ (do_constant F o).move → cells' ≡ (do_constant F o).cells
      → Done (do_constant F s) r cells'
  unfolding do_constant rewrites
  constant-same r cells' p q = (p, q)

  moved : (e : Kept) → arithmetic_move F o e ≡ arithmetic_move F s e
  unfolding arithmetic_move
  moved (Ok u) = refl
  moved (Err c) = refl

  pub arithmetic-same : (f : Operation) (r : Move) (cells' : List ℤ) → r ≡ (do_arithmetic F o f).move → cells' ≡ (do_arithmetic F o f).cells
      → Done (do_arithmetic F s f) r cells'
  unfolding do_arithmetic rewrites
  arithmetic-same f r cells' p q = (p ∙ moved (effect_of (compute f (value_of F o (field o 3)) (value_of F o (field o 4)))), q)

  pub goto-same : (r : Move) → r ≡ (do_goto F o).move → Done (do_goto F s) r cells
  unfolding do_goto moves
  goto-same r p = (p, refl)

  pub branch_same : (r : Move) → r ≡ (do_branch F o).move → Done (do_branch F s) r cells
  unfolding do_branch do_goto moves
  branch_same r p = go (eq_z (value_of F o (field o 2)) (pos 0)) refl
    where
      go : (b : Bool) → eq_z (value_of F o (field o 2)) (pos 0) ≡ b → Done (do_branch F s) r cells
      go true e = (p ∙ rw (e, do_branch), rw (e, do_branch))
      go false e = (p ∙ rw (e, do_branch), rw (e, do_branch))

  pub block_same : (r : Move) → r ≡ block_move code activations live at → Done (do_block F s) r cells
  unfolding do_block no_room block_move moves
  block_same r p = go (leb activations (live + 1)) refl
    where
      go : (b : Bool) → leb activations (live + 1) ≡ b → Done (do_block F s) r cells
      go true e = (p ∙ rw (e, block_move, do_block), rw (e, do_block))
      go false e = (p ∙ rw (e, block_move, do_block), rw (e, do_block))

  arguments-alike : (from n : ℕ) → arguments_from F t from n ≡ arguments_from F s from n
  unfolding arguments_from
  arguments-alike from zero = refl
  arguments-alike from (suc n) = ap (λ (zs : List ℤ). F.handed (get_or code from 0) ∷ zs) (arguments-alike (from + 1) n)

  pub call_same : (r : Move) (cells' : List ℤ) → r ≡ (do_call F t).move → cells' ≡ (do_call F t).cells → Done (do_call F s) r cells'
  unfolding do_call no_room rewrites moves
  call_same r cells' p q = go (leb activations (live + 1)) refl
    where
      go : (b : Bool) → leb activations (live + 1) ≡ b → Done (do_call F s) r cells'
      go true e = (p ∙ rw (e, do_call), q ∙ rw (e, do_call))
      go false e = (p ∙ rw (e, do_call), q ∙ rw (e, do_call, arguments-alike))

  pub call-formal-same : (r : Move) (cells' : List ℤ) → r ≡ (do_call_formal F t).move → cells' ≡ (do_call_formal F t).cells
      → Done (do_call_formal F s) r cells'
  unfolding do_call_formal arguments_agree moves
  call-formal-same r cells' p q = go (arguments_agree F t (F.target (field t 1))) refl
    where
      go : (b : Bool) → arguments_agree F t (F.target (field t 1)) ≡ b → Done (do_call_formal F s) r cells'
      go true e =
          let h = call_same r cells' (p ∙ rw (e, do_call_formal)) (q ∙ rw (e, do_call_formal)) in
          (h.0 ∙ rw (e, do_call_formal), h.1 ∙ rw (e, do_call_formal))
      go false e = (p ∙ rw (e, do_call_formal), q ∙ rw (e, do_call_formal))

  pub change-same : (a : Ask) (r : Move) → r ≡ (do_change F o a).move → Done (do_change F s a) r cells
  unfolding do_change moves
  change-same a r p = (p, refl)

  pub query-same : (r : Move) → r ≡ (do_query F o).move → Done (do_query F s) r cells
  unfolding do_query moves
  query-same r p = (p, refl)

-- a goto, from where its label is found
pub goto-found : (F : Finding) (s : Scene) {home place : ℕ} → home ≡ F.home (field s 1) → place ≡ F.target (field s 1) → (r : Move)
    → r ≡ Jump home place → Done (do_goto F s) r s.cells
unfolding do_goto moves
goto-found F s p q r e = (e ∙ ap₂ Jump p q, refl)
