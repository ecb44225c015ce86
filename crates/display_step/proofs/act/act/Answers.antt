-- `act` meets its contract: each arm's function does what `acting` has for its operation.
use Prim.Native.Nat.{ℕ, ◌+◌}
use mathlib.Core.List.{List}
use mathlib.Core.Path.{◌≡◌, sym, ap, ◌∙◌}
use lib.IntN.{ℤ}
use lib.ListN.{get_or}
use Rattle.language.specs.Text.{plus, minus, less}
use Rattle.run_moves.specs.declared.Move.{Move}
use Rattle.run_moves.specs.declared.Ask.TheVariants.{Add, Remove}
use Rattle.run_moves.specs.Acting.{scene_by, constant-op, operations, op_of, happens, acting}
use Rattle.resolved.specs.Layout.{operation_in}
use Rattle.display_moves.specs.Running.{Doing}
use Rattle.display_step.specs.Finding.{first_cell, by_display}
use Rattle.display_step.specs.Ready.{Ready, ready, at_there}
use Rattle.run_statements.specs.Words.{home-direct, target-direct}
use Rattle.run_statements.specs.Numbers.{op-of, last-op}
use Rattle.run_statements.specs.Scenes.{Done, done, constant-same, arithmetic-same, goto-same, branch_same, block_same, call_same, call-formal-same, change-same, query-same, goto-found}
use borrow.Author.Rules.{rules}
use Rattle.display_step.proofs.act.act.Goals as goal

-- by the operation's number: which it is, what its function asks, and what is done once its function has
op : (code : List ℕ) (at : ℕ) {word operation k : ℕ} → word ≡ get_or code at 0 → operation ≡ operation_in word → operation ≡ k
    → op_of (get_or code at 0) ≡ get_or operations k constant-op
op code at {k = k} w o e = op-of (get_or code at 0) k (sym (o ∙ ap operation_in w) ∙ e)

module _ {code display : List ℕ} {cells : List ℤ} {activations live at : ℕ} (d : Doing code cells display activations live at) (k : ℕ) {word operation : ℕ} where
  asks : word ≡ get_or code at 0 → operation ≡ operation_in word → operation ≡ k → Ready d (get_or operations k constant-op)
  asks w o e = ready d (get_or operations k constant-op) (op code at w o e)

  acted : word ≡ get_or code at 0 → operation ≡ operation_in word → operation ≡ k → {r : Move} {ws : List ℤ}
      → Done (happens (by_display cells display) (scene_by code cells activations live at) (get_or operations k constant-op)) r ws
      → Done (acting (by_display cells display) (scene_by code cells activations live at)) r ws
  acted w o e h = done (by_display cells display) (scene_by code cells activations live at) _ (op code at w o e) _ _ h

pub code_at-requires : goal.code_at-requires
unfolding operations happens
code_at-requires c = at_there c.requires

pub do_constant-requires : goal.do_constant-requires
unfolding operations happens
do_constant-requires c = asks c.requires 0 c.code_at.ensures.0 c.operation_of-operation.ensures.0 c.in-0.is

pub do_add-requires : goal.do_add-requires
unfolding operations happens
do_add-requires c = asks c.requires 1 c.code_at.ensures.0 c.operation_of-operation.ensures.0 c.in-1.is

pub do_subtract-requires : goal.do_subtract-requires
unfolding operations happens
do_subtract-requires c = asks c.requires 2 c.code_at.ensures.0 c.operation_of-operation.ensures.0 c.in-2.is

pub do_compare-requires : goal.do_compare-requires
unfolding operations happens
do_compare-requires c = asks c.requires 3 c.code_at.ensures.0 c.operation_of-operation.ensures.0 c.in-3.is

pub do_branch-requires : goal.do_branch-requires
unfolding operations happens
do_branch-requires c = asks c.requires 4 c.code_at.ensures.0 c.operation_of-operation.ensures.0 c.in-4.is

pub do_goto-requires : goal.do_goto-requires
unfolding operations happens
do_goto-requires c = (asks c.requires 5 c.code_at.ensures.0 c.operation_of-operation.ensures.0 c.in-5.is).0

pub do_block-requires : goal.do_block-requires
unfolding operations happens
do_block-requires c = asks c.requires 6 c.code_at.ensures.0 c.operation_of-operation.ensures.0 c.in-6.is

pub do_call-requires : goal.do_call-requires
unfolding operations happens
do_call-requires c =
    let q = asks c.requires 7 c.code_at.ensures.0 c.operation_of-operation.ensures.0 c.in-7.is in
    record { callable = q.0; direct = q.1 }

pub do_change-requires : goal.do_change-requires
unfolding operations happens
do_change-requires c = asks c.requires 8 c.code_at.ensures.0 c.operation_of-operation.ensures.0 c.in-8.is

pub do_change-requires-in-9 : goal.do_change-requires-in-9
unfolding operations happens
do_change-requires-in-9 c = asks c.requires 9 c.code_at.ensures.0 c.operation_of-operation.ensures.0 c.in-9.is

pub do_query-requires : goal.do_query-requires
unfolding operations happens
do_query-requires c = asks c.requires 10 c.code_at.ensures.0 c.operation_of-operation.ensures.0 c.in-10.is

pub do_constant_formal-requires : goal.do_constant_formal-requires
unfolding operations happens
do_constant_formal-requires c = asks c.requires 11 c.code_at.ensures.0 c.operation_of-operation.ensures.0 c.in-11.is

pub do_arithmetic_formal-requires : goal.do_arithmetic_formal-requires
unfolding operations happens
do_arithmetic_formal-requires c = asks c.requires 12 c.code_at.ensures.0 c.operation_of-operation.ensures.0 c.in-12.is

pub do_branch_formal-requires : goal.do_branch_formal-requires
unfolding operations happens
do_branch_formal-requires c = asks c.requires 13 c.code_at.ensures.0 c.operation_of-operation.ensures.0 c.in-13.is

pub do_goto_formal-requires : goal.do_goto_formal-requires
unfolding operations happens
do_goto_formal-requires c = asks c.requires 14 c.code_at.ensures.0 c.operation_of-operation.ensures.0 c.in-14.is

pub do_call_formal-requires : goal.do_call_formal-requires
unfolding operations happens
do_call_formal-requires c =
    let q = asks c.requires 15 c.code_at.ensures.0 c.operation_of-operation.ensures.0 (search (rules, last-op)) in
    record { callable = q.0; through_formal = q.1.0; formals_before = q.1.1 }

pub returns-in-0 : goal.returns-in-0
unfolding operations happens
returns-in-0 c =
    acted c.requires 0 c.code_at.ensures.0 c.operation_of-operation.ensures.0 c.in-0.is (constant-same _ _ _ _ c.do_constant.ensures.0 c.do_constant.ensures.1)

pub returns-in-1 : goal.returns-in-1
unfolding operations happens
returns-in-1 c =
    acted c.requires 1 c.code_at.ensures.0 c.operation_of-operation.ensures.0 c.in-1.is (arithmetic-same _ _ plus _ _ c.do_add.ensures.0 c.do_add.ensures.1)

pub returns-in-2 : goal.returns-in-2
unfolding operations happens
returns-in-2 c =
    acted c.requires 2 c.code_at.ensures.0 c.operation_of-operation.ensures.0 c.in-2.is (arithmetic-same _ _ minus _ _ c.do_subtract.ensures.0 c.do_subtract.ensures.1)

pub returns-in-3 : goal.returns-in-3
unfolding operations happens
returns-in-3 c =
    acted c.requires 3 c.code_at.ensures.0 c.operation_of-operation.ensures.0 c.in-3.is (arithmetic-same _ _ less _ _ c.do_compare.ensures.0 c.do_compare.ensures.1)

pub returns-in-4 : goal.returns-in-4
unfolding operations happens
returns-in-4 c =
    acted c.requires 4 c.code_at.ensures.0 c.operation_of-operation.ensures.0 c.in-4.is (branch_same _ _ _ c.do_branch.ensures)

-- a goto's label is no formal
pub returns-in-5 : goal.returns-in-5
unfolding operations happens
returns-in-5 c =
    let a = c.args in
    let w = get_or a.code.now (a.at + 1) 0 in
    let first = first_cell a.display.now w in
    let d = (asks c.requires 5 c.code_at.ensures.0 c.operation_of-operation.ensures.0 c.in-5.is).1.is in
    acted c.requires 5 c.code_at.ensures.0 c.operation_of-operation.ensures.0 c.in-5.is
    (goto-found (by_display a.cells.now a.display.now) (scene_by a.code.now a.cells.now a.activations a.live a.at)
    (sym (home-direct a.cells.now first w d)) (sym (target-direct a.cells.now first w d)) _ c.do_goto.ensures)

pub returns-in-6 : goal.returns-in-6
unfolding operations happens
returns-in-6 c =
    acted c.requires 6 c.code_at.ensures.0 c.operation_of-operation.ensures.0 c.in-6.is (block_same _ _ _ c.do_block.ensures)

pub returns-in-7 : goal.returns-in-7
unfolding operations happens
returns-in-7 c =
    acted c.requires 7 c.code_at.ensures.0 c.operation_of-operation.ensures.0 c.in-7.is (call_same _ _ _ _ c.do_call.ensures.0 c.do_call.ensures.1)

pub returns-in-8 : goal.returns-in-8
unfolding operations happens
returns-in-8 c =
    acted c.requires 8 c.code_at.ensures.0 c.operation_of-operation.ensures.0 c.in-8.is (change-same _ _ Add _ c.do_change.ensures)

pub returns-in-9 : goal.returns-in-9
unfolding operations happens
returns-in-9 c =
    acted c.requires 9 c.code_at.ensures.0 c.operation_of-operation.ensures.0 c.in-9.is (change-same _ _ Remove _ c.do_change-in-9.ensures)

pub returns-in-10 : goal.returns-in-10
unfolding operations happens
returns-in-10 c =
    acted c.requires 10 c.code_at.ensures.0 c.operation_of-operation.ensures.0 c.in-10.is (query-same _ _ _ c.do_query.ensures)

pub returns-in-11 : goal.returns-in-11
unfolding operations happens
returns-in-11 c =
    acted c.requires 11 c.code_at.ensures.0 c.operation_of-operation.ensures.0 c.in-11.is (constant-same _ _ _ _ c.do_constant_formal.ensures.0 c.do_constant_formal.ensures.1)

pub returns-in-12 : goal.returns-in-12
unfolding operations happens
returns-in-12 c =
    acted c.requires 12 c.code_at.ensures.0 c.operation_of-operation.ensures.0 c.in-12.is (arithmetic-same _ _ _ _ _ c.do_arithmetic_formal.ensures.0 c.do_arithmetic_formal.ensures.1)

pub returns-in-13 : goal.returns-in-13
unfolding operations happens
returns-in-13 c =
    acted c.requires 13 c.code_at.ensures.0 c.operation_of-operation.ensures.0 c.in-13.is (branch_same _ _ _ c.do_branch_formal.ensures)

pub returns-in-14 : goal.returns-in-14
unfolding operations happens
returns-in-14 c =
    acted c.requires 14 c.code_at.ensures.0 c.operation_of-operation.ensures.0 c.in-14.is (goto-same _ _ _ c.do_goto_formal.ensures)

pub returns-in_default : goal.returns-in_default
unfolding operations happens
returns-in_default c =
    acted c.requires 15 c.code_at.ensures.0 c.operation_of-operation.ensures.0 (search (rules, last-op)) (call-formal-same _ _ _ _ c.do_call_formal.ensures.0 c.do_call_formal.ensures.1)
