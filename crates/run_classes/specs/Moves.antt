-- What a statement's function says of its move and words is what the statement does, but for a call's arguments, which are not handed on yet:
-- the laws that end in `-did`, one for each function.
use Rattle.std.specs.Prelude.{ℕ, ◌+◌, Bool, List, ◌≡◌, leb, ℤ, get_or}
use Rattle.std.proofs.Math.Bool.{true, false}
use Rattle.std.proofs.Math.Path.{refl}
use Rattle.std.proofs.Common.{ap, ◌∙◌, subst}
use Rattle.language.specs.Machine.{compute}
use Rattle.language.specs.Text.{Operation}
use Rattle.run_moves.specs.Effects.{Effect}
use Rattle.std.specs.Prelude.{Ok, Err}
use Rattle.run_moves.specs.declared.Ask.{Ask}
use Rattle.run_moves.specs.declared.Move.{Move}
use Rattle.run_moves.specs.declared.Move.TheVariants.{On, Table as Asks, Jump, Enter, Stop}
use Rattle.run_moves.specs.Effects.{effect_of}
use Rattle.run_moves.specs.Acting.{Finding, Scene, Happened, moves, rewrites, value_of, field, arithmetic_move, do_constant, do_arithmetic, do_goto, do_branch}
use Rattle.run_moves.specs.Acting.{no_room, do_block, do_call, arguments_agree, do_call_formal, do_change, do_query, Op, op_of}
use Rattle.run_moves.specs.Acting.{happens, acting}
use Rattle.run_moves.specs.Acting.{scene_by}
use Rattle.run_statements.specs.Pieces.{only-cells, block_move}
use Rattle.run_statements.specs.Scenes.{Done, constant-same, arithmetic-same, goto-same, branch_same, block_same, call-formal-same, change-same}
use Rattle.run_statements.specs.Scenes.{query-same, acts}
use Rattle.run_cells.specs.Calling.{call_move, call-move}
use Rattle.run_classes.specs.Asking.{unhanded, Did}

-- where the words stay there is nothing to hand on
unhanded-same : (m : Move) (cells : List ℤ) → cells ≡ unhanded m cells cells
unfolding unhanded
unhanded-same (On p) cells = refl
unhanded-same (Asks p g m t a) cells = refl
unhanded-same (Jump h p) cells = refl
unhanded-same (Enter b h p) cells = refl
unhanded-same (Stop c) cells = refl

module _ (F : Finding) (s : Scene) where
  pub did : (p : Op) → op_of (get_or s.code s.at 0) ≡ p → {r : Move} {cells' : List ℤ} → Did (happens F s p) s.cells r cells' → Did (acting F s) s.cells r cells'
  did p e {r} {cells'} h = subst (λ (x : Happened). Did x s.cells r cells') (acts F s p e) h

  -- the scene as far as a statement looks at it
  abbrev o : Scene
  o = only-cells s.code s.cells s.at

  abbrev t : Scene
  t = scene_by s.code s.cells s.activations s.live s.at

  -- statements that enter nothing

  pub constant-did :
      {r : Move} {cells' : List ℤ} → (r ≡ (do_constant F o).move) × (cells' ≡ (do_constant F o).cells) → Did (do_constant F s) s.cells r cells'
  unfolding do_constant rewrites unhanded
  constant-did {r} {cells'} d = constant-same F s r cells' d.0 d.1

  computed : (e : Effect) (cells' : List ℤ) → cells' ≡ unhanded (arithmetic_move F s e) s.cells cells'
  unfolding arithmetic_move unhanded
  computed (Ok u) cells' = refl
  computed (Err c) cells' = refl

  pub arithmetic-did :
      (f : Operation) {r : Move} {cells' : List ℤ} → (r ≡ (do_arithmetic F o f).move) × (cells' ≡ (do_arithmetic F o f).cells) →
      Did (do_arithmetic F s f) s.cells r cells'
  unfolding do_arithmetic rewrites
  arithmetic-did f {r} {cells'} d =
      let h = arithmetic-same F s f r cells' d.0 d.1 in
      (h.0, h.1 ∙ computed (effect_of (compute f (value_of F s (field s 3)) (value_of F s (field s 4)))) (do_arithmetic F s f).cells)

  -- statements that leave the words

  left : {h : Happened} {r : Move} → Done h r s.cells → Did h s.cells r s.cells
  left {h} d = (d.0, unhanded-same h.move s.cells ∙ ap (unhanded h.move s.cells) d.1)

  pub goto-did : {r : Move} → r ≡ (do_goto F o).move → Did (do_goto F s) s.cells r s.cells
  goto-did {r} e = left (goto-same F s r e)

  pub branch-did : {r : Move} → r ≡ (do_branch F o).move → Did (do_branch F s) s.cells r s.cells
  branch-did {r} e = left (branch_same F s r e)

  pub block-did : {r : Move} → r ≡ block_move s.code s.activations s.live s.at → Did (do_block F s) s.cells r s.cells
  block-did {r} e = left (block_same F s r e)

  pub change-did : (a : Ask) {r : Move} → r ≡ (do_change F o a).move → Did (do_change F s a) s.cells r s.cells
  change-did a {r} e = left (change-same F s a r e)

  pub query-did : {r : Move} → r ≡ (do_query F o).move → Did (do_query F s) s.cells r s.cells
  query-did {r} e = left (query-same F s r e)

  -- calls

  abbrev move_to : ℕ → ℕ → Move
  move_to home body = call_move s.code s.activations s.live s.at home body

  abbrev full : Bool
  full = leb s.activations (s.live + 1)

  abbrev Waits : Happened → Type 0
  Waits h = s.cells ≡ unhanded h.move s.cells h.cells

  call-waits : Waits (do_call F s)
  unfolding do_call no_room rewrites moves unhanded
  call-waits = go full refl
    where
      go : (b : Bool) → full ≡ b → Waits (do_call F s)
      go true e = rw (e, do_call)
      go false e = rw (e, do_call)

  call-formal-waits : Waits (do_call_formal F s)
  unfolding do_call_formal moves unhanded
  call-formal-waits = go (arguments_agree F s (F.target (field s 1))) refl
    where
      go : (b : Bool) → arguments_agree F s (F.target (field s 1)) ≡ b → Waits (do_call_formal F s)
      go true e = rw (e, do_call_formal) call-waits
      go false e = rw (e, do_call_formal)

  pub call-did :
      {home body : ℕ} {r : Move} → home ≡ F.home (field s 1) → body ≡ F.target (field s 1) → r ≡ move_to home body →
      Did (do_call F s) s.cells r s.cells
  call-did p q e = (call-move F s p q e, call-waits)

  pub call-formal-did : {r : Move} → r ≡ (do_call_formal F t).move → Did (do_call_formal F s) s.cells r s.cells
  call-formal-did {r} e = ((call-formal-same F s r (do_call_formal F t).cells e refl).0, call-formal-waits)
