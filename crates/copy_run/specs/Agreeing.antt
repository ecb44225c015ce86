-- A statement read from a copy does what it does in the resolved script, where the names in its fields lead to what an engine's way of finding
-- names finds. `Agrees i j`: so does the name in the copy's field i, with its word in field j of the resolved script. For each mark one law, from what
-- its fields agree in, to each operation that has the mark: `constant-same` to `query-same`.
use Prim.Native.Nat.{ℕ, zero, suc, ◌+◌, ◌*◌, ◌-◌, ◌<◌}
use native.Mathlib.Omega.{arith}
use Rattle.std.specs.Prelude.{Bool, ◌&&◌, ◌∷◌, ◌≡◌, leb, pos, get_or, set}
use Rattle.std.proofs.Math.Bool.{true, false, not}
use Rattle.std.proofs.Math.Path.{refl, sym, ap, subst}
use Rattle.std.proofs.Common.{◌∙◌}
use Rattle.std.proofs.Math.Dec.{eqb}
use Rattle.language.specs.Basics.{eq_z}
use Rattle.language.specs.Text.{Operation}
use Rattle.language.specs.Encoding.{signed}
use Rattle.language.specs.Machine.{compute}
use Rattle.laws.specs.Tests.{split}
use Rattle.run_moves.specs.Effects.{Effect as Done-or-not}
use Rattle.std.specs.Prelude.{Ok, Err}
use Rattle.run_moves.specs.declared.Move.{Move}
use Rattle.run_moves.specs.declared.Ask.{Ask}
use Rattle.run_moves.specs.declared.Ask.TheVariants.{Query}
use Rattle.run_moves.specs.declared.Move.TheVariants.{On, Table as Asks, Jump, Enter}
use Rattle.run_moves.specs.Effects.{effect_of, cells_of, same_kinds}
use Rattle.run_moves.specs.Acting.{Finding, Scene, field, value_of, moves, rewrites, operation_of, set_all, arithmetic_move, no_room, arguments_agree, do_call_formal, do_constant as act_constant, do_arithmetic as act_arithmetic, do_goto as act_goto, do_branch as act_branch, do_block as act_block, arguments_from as arguments_found, do_call as act_call, do_change as act_change, do_query as act_query}
use Rattle.resolved.specs.Layout.{operation_in, formals_in, cell_from, activation_in, held_from}
use Rattle.run_statements.specs.Pieces.{move_after, block_move}
use Rattle.copy_statements.specs.Doing.{Copy, text, cell, target, value_at, do_constant, do_arithmetic, do_goto, do_branch, do_block, arguments_from, differs, do_call, do_change, do_query}

module _ (c : Copy) (s : Scene) (F : Finding) where
  pub record Agrees (i j : ℕ) : Type 0 where
    pub cell-is : cell c s i ≡ F.cell (field s j)
    pub home-is : activation_in (cell c s i) ≡ F.home (field s j)
    pub target_is : target c s i ≡ F.target (field s j)
    pub handed-is : pos (held_from (cell c s i) (target c s i)) ≡ F.handed (field s j)

  -- Values

  pub constant-same : Agrees 1 1 → text c s 2 + 65536 * text c s 3 ≡ field s 2 → do_constant c s ≡ act_constant F s
  unfolding do_constant act_constant
  constant-same a v = λ i. rewrites s (On (s.at + 4)) (set s.cells (a.cell-is i) (signed (v i)))

  move_same : (e : Done-or-not) → move_after e (s.at + 5) ≡ arithmetic_move F s e
  unfolding move_after arithmetic_move
  move_same (Ok u) = refl
  move_same (Err e) = refl

  pub arithmetic-same : (o : Operation) → operation_of (text c s 2) ≡ o → Agrees 1 1 → Agrees 3 3 → Agrees 4 4 → do_arithmetic c s ≡ act_arithmetic F s o
  unfolding do_arithmetic act_arithmetic
  arithmetic-same o e t a b =
      let y = compute o (value_of F s (field s 3)) (value_of F s (field s 4)) in
      let z : compute (operation_of (text c s 2)) (value_at c s 3) (value_at c s 4) ≡ y =
      λ i. compute (e i) (get_or s.cells (a.cell-is i) (pos 0)) (get_or s.cells (b.cell-is i) (pos 0)) in
      (λ i. rewrites s (move_after (effect_of (z i)) (s.at + 5)) (cells_of s.cells (t.cell-is i) (z i)))
      ∙ ap (λ (m : Move). rewrites s m (cells_of s.cells (F.cell (field s 1)) y)) (move_same (effect_of y))

  -- Jumps

  pub goto-same : (i : ℕ) → Agrees i 1 → do_goto c s i ≡ act_goto F s
  unfolding do_goto act_goto
  goto-same i a = λ k. moves s (Jump (a.home-is k) (a.target_is k))

  pub branch_same : Agrees 1 2 → Agrees 2 1 → do_branch c s ≡ act_branch F s
  unfolding do_branch act_branch
  branch_same v n =
      let g = goto-same 2 n in
      λ i. elim (eq_z (get_or s.cells (v.cell-is i) (pos 0)) (pos 0)) [ true ↦ moves s (On (s.at + 3)) | false ↦ g i ]

  -- Entries

  pub block_same : do_block c s ≡ act_block F s
  unfolding do_block act_block block_move no_room
  block_same =
      split (leb s.activations (s.live + 1))
      (λ e. rw (do_block, act_block, block_move, e))
      (λ e. rw (do_block, act_block, block_move, e))

  arguments-same : (i n : ℕ) → ((k : ℕ) → k < n → Agrees (i + k) (i + k)) → arguments_from c s i n ≡ arguments_found F s (s.at + i) n
  unfolding arguments_from arguments_found
  arguments-same i zero a = refl
  arguments-same i (suc n) a =
      let z : i + 0 ≡ i = omega arith in
      let here : Agrees i i = subst (λ k. Agrees k k) z (a 0 (omega arith)) in
      let more = arguments-same (i + 1) n (λ k h. let e : i + suc k ≡ i + 1 + k = omega arith in subst (λ m. Agrees m m) e (a (suc k) (omega arith))) in
      let next : s.at + (i + 1) ≡ s.at + i + 1 = omega arith in
      (λ k. here.handed-is k ∷ more k) ∙ ap (λ m. F.handed (field s i) ∷ arguments_found F s m n) next

  module _ (procedure : Agrees 1 1) (count : text c s 2 ≡ field s 2) (each : (i : ℕ) → i < text c s 2 → Agrees (3 + i) (3 + i)) where
    given-same : arguments_from c s 3 (text c s 2) ≡ arguments_found F s (s.at + 3) (field s 2)
    given-same = arguments-same 3 (text c s 2) each ∙ ap (arguments_found F s (s.at + 3)) count

    -- where nothing differs
    called_same : differs c s ≡ false → do_call c s ≡ act_call F s
    unfolding do_call act_call no_room
    called_same d =
        split (leb s.activations (s.live + 1))
        (λ e. rw (do_call, d, e, act_call))
        (λ e. (rw (do_call, d, e))
        ∙ (λ i. rewrites s (Enter (procedure.target_is i) (procedure.home-is i) (s.at + 3 + count i)) (set_all s.cells (cell_from s.live 32) (given-same i)))
        ∙ rw (act_call, e))

    -- by a name that is no formal
    pub call_same : eqb (operation_in (get_or s.code s.at 0)) 15 ≡ false → do_call c s ≡ act_call F s
    unfolding differs
    call_same e =
        let agreed = eqb (formals_in (get_or s.code (target c s 1) 0)) (text c s 2) && same_kinds s.code (s.at + 3) (target c s 1 - 3 * text c s 2) (text c s 2) in
        called_same (ap (λ (t : Bool). t && not agreed) e)

    -- by a formal
    pub call-formal-same : eqb (operation_in (get_or s.code s.at 0)) 15 ≡ true → do_call c s ≡ do_call_formal F s
    unfolding differs arguments_agree do_call do_call_formal
    call-formal-same e =
        let agreed = arguments_agree F s (F.target (field s 1)) in
        let same : differs c s ≡ not agreed
        = λ i. e i && not (eqb (formals_in (get_or s.code (procedure.target_is i) 0)) (count i) && same_kinds s.code (s.at + 3) (procedure.target_is i - 3 * count i) (count i)) in
        split agreed
        (λ a. called_same (same ∙ ap not a) ∙ sym (rw (do_call_formal, a)))
        (λ a. let d : differs c s ≡ true = same ∙ ap not a in rw (do_call, d, do_call_formal, a))

  -- The table

  pub change-same : (a : Ask) → Agrees 1 1 → Agrees 2 2 → do_change c s a ≡ act_change F s a
  unfolding do_change act_change
  change-same a g m = λ i. moves s (Asks (s.at + 3) (g.cell-is i) (m.cell-is i) 0 a)

  pub query-same : Agrees 1 1 → Agrees 2 2 → Agrees 3 3 → do_query c s ≡ act_query F s
  unfolding do_query act_query
  query-same t g m = λ i. moves s (Asks (s.at + 4) (g.cell-is i) (m.cell-is i) (t.cell-is i) Query)
