-- Each arm's function does what the statement does for its operation.
use Rattle.std.proofs.Common.{◌≡◌, ℕ, List, ℤ, get_or, sym, ap, ◌∙◌, arith, rules}
use Rattle.run_moves.specs.Acting.{constant-op, operations, op_of}
use Rattle.resolved.specs.Layout.{operation_in}
use Rattle.run_statements.specs.Numbers.{op-of, last-op}
use Rattle.search_step.specs.Acted.{Doing}
use Rattle.search_step.specs.Ready.{Ready, ready, at_there}
use Rattle.search_step.proofs.Acts.{constant-acts, add-acts, subtract-acts, compare-acts, branch-acts, goto-acts, block-acts, call-acts, pair-acts, unpair-acts, query-acts}
use Rattle.search_step.proofs.Acts.{constant-formal-acts, add-formal-acts, subtract-formal-acts, compare-formal-acts, branch-formal-acts, goto-formal-acts, call-formal-acts}
use Rattle.search_step.proofs.act.act.Goals as goal

-- by the operation's number: which it is, and what its function asks
op : (code : List ℕ) (at : ℕ) (k : ℕ) {word number : ℕ} → word ≡ get_or code at 0 → number ≡ operation_in word → number ≡ k → op_of (get_or code at 0) ≡ get_or operations k constant-op
op code at k read is e = op-of (get_or code at 0) k (sym (is ∙ ap operation_in read) ∙ e)

asks : {code numbers : List ℕ} {cells : List ℤ} {passers blocks froms : List ℕ} {activations live at : ℕ} (d : Doing code numbers cells passers blocks froms activations live at)
    (k : ℕ) {word number : ℕ} → word ≡ get_or code at 0 → number ≡ operation_in word → number ≡ k → Ready d (get_or operations k constant-op)
asks {code} {at = at} d k read is e = ready d (get_or operations k constant-op) (op code at k read is e)

pub code_at-requires : goal.code_at-requires
code_at-requires c = at_there c.requires

pub do_constant-requires : goal.do_constant-requires
unfolding operations
do_constant-requires c = asks c.requires 0 c.code_at.ensures.0 c.operation_of-operation.ensures.0 c.in-0.is

pub do_add-requires : goal.do_add-requires
unfolding operations
do_add-requires c = asks c.requires 1 c.code_at.ensures.0 c.operation_of-operation.ensures.0 c.in-1.is

pub do_subtract-requires : goal.do_subtract-requires
unfolding operations
do_subtract-requires c = asks c.requires 2 c.code_at.ensures.0 c.operation_of-operation.ensures.0 c.in-2.is

pub do_compare-requires : goal.do_compare-requires
unfolding operations
do_compare-requires c = asks c.requires 3 c.code_at.ensures.0 c.operation_of-operation.ensures.0 c.in-3.is

pub do_branch-requires : goal.do_branch-requires
unfolding operations
do_branch-requires c = asks c.requires 4 c.code_at.ensures.0 c.operation_of-operation.ensures.0 c.in-4.is

pub do_goto-requires : goal.do_goto-requires
unfolding operations
do_goto-requires c = let a = asks c.requires 5 c.code_at.ensures.0 c.operation_of-operation.ensures.0 c.in-5.is in (a.0, a.1)

pub do_block-requires : goal.do_block-requires
unfolding operations
do_block-requires c = asks c.requires 6 c.code_at.ensures.0 c.operation_of-operation.ensures.0 c.in-6.is

pub do_call-requires : goal.do_call-requires
unfolding operations
do_call-requires c = (asks c.requires 7 c.code_at.ensures.0 c.operation_of-operation.ensures.0 c.in-7.is).0

pub do_change-requires : goal.do_change-requires
unfolding operations
do_change-requires c = asks c.requires 8 c.code_at.ensures.0 c.operation_of-operation.ensures.0 c.in-8.is

pub do_change-requires-in-9 : goal.do_change-requires-in-9
unfolding operations
do_change-requires-in-9 c = asks c.requires 9 c.code_at.ensures.0 c.operation_of-operation.ensures.0 c.in-9.is

pub do_query-requires : goal.do_query-requires
unfolding operations
do_query-requires c = asks c.requires 10 c.code_at.ensures.0 c.operation_of-operation.ensures.0 c.in-10.is

pub do_constant_formal-requires : goal.do_constant_formal-requires
unfolding operations
do_constant_formal-requires c = asks c.requires 11 c.code_at.ensures.0 c.operation_of-operation.ensures.0 c.in-11.is

pub code_at-requires-in-12 : goal.code_at-requires-in-12
unfolding operations
code_at-requires-in-12 c = omega (arith, (asks c.requires 12 c.code_at.ensures.0 c.operation_of-operation.ensures.0 c.in-12.is).1)

pub do_add_formal-requires : goal.do_add_formal-requires
unfolding operations
do_add_formal-requires c = asks c.requires 12 c.code_at.ensures.0 c.operation_of-operation.ensures.0 c.in-12.is

pub do_subtract_formal-requires : goal.do_subtract_formal-requires
unfolding operations
do_subtract_formal-requires c = asks c.requires 12 c.code_at.ensures.0 c.operation_of-operation.ensures.0 c.in-12.is

pub do_compare_formal-requires : goal.do_compare_formal-requires
unfolding operations
do_compare_formal-requires c = asks c.requires 12 c.code_at.ensures.0 c.operation_of-operation.ensures.0 c.in-12.is

pub do_branch_formal-requires : goal.do_branch_formal-requires
unfolding operations
do_branch_formal-requires c = asks c.requires 13 c.code_at.ensures.0 c.operation_of-operation.ensures.0 c.in-13.is

pub do_goto_formal-requires : goal.do_goto_formal-requires
unfolding operations
do_goto_formal-requires c = asks c.requires 14 c.code_at.ensures.0 c.operation_of-operation.ensures.0 c.in-14.is

pub do_call_formal-requires : goal.do_call_formal-requires
unfolding operations
do_call_formal-requires c = asks c.requires 15 c.code_at.ensures.0 c.operation_of-operation.ensures.0 (search (rules, last-op))

pub returns-in-0 : goal.returns-in-0
unfolding operations
returns-in-0 c = λ d. constant-acts d c.came_to.ensures (op c.args.code.now c.args.at 0 c.code_at.ensures.0 c.operation_of-operation.ensures.0 c.in-0.is) c.do_constant.ensures

pub returns-in-1 : goal.returns-in-1
unfolding operations
returns-in-1 c = λ d. add-acts d c.came_to-in-1.ensures (op c.args.code.now c.args.at 1 c.code_at.ensures.0 c.operation_of-operation.ensures.0 c.in-1.is) c.do_add.ensures

pub returns-in-2 : goal.returns-in-2
unfolding operations
returns-in-2 c = λ d. subtract-acts d c.came_to-in-2.ensures (op c.args.code.now c.args.at 2 c.code_at.ensures.0 c.operation_of-operation.ensures.0 c.in-2.is) c.do_subtract.ensures

pub returns-in-3 : goal.returns-in-3
unfolding operations
returns-in-3 c = λ d. compare-acts d c.came_to-in-3.ensures (op c.args.code.now c.args.at 3 c.code_at.ensures.0 c.operation_of-operation.ensures.0 c.in-3.is) c.do_compare.ensures

pub returns-in-4 : goal.returns-in-4
unfolding operations
returns-in-4 c = λ d. branch-acts d c.came_to-in-4.ensures (op c.args.code.now c.args.at 4 c.code_at.ensures.0 c.operation_of-operation.ensures.0 c.in-4.is) c.do_branch.ensures

pub returns-in-5 : goal.returns-in-5
unfolding operations
returns-in-5 c = λ d. goto-acts d c.came_to-in-5.ensures (op c.args.code.now c.args.at 5 c.code_at.ensures.0 c.operation_of-operation.ensures.0 c.in-5.is) c.do_goto.ensures

pub returns-in-6 : goal.returns-in-6
unfolding operations
returns-in-6 c = λ d. block-acts d c.came_to-in-6.ensures (op c.args.code.now c.args.at 6 c.code_at.ensures.0 c.operation_of-operation.ensures.0 c.in-6.is) c.do_block.ensures

pub returns-in-7 : goal.returns-in-7
unfolding operations
returns-in-7 c = λ d. call-acts d c.came_to-in-7.ensures (op c.args.code.now c.args.at 7 c.code_at.ensures.0 c.operation_of-operation.ensures.0 c.in-7.is) c.do_call.ensures

pub returns-in-8 : goal.returns-in-8
unfolding operations
returns-in-8 c = λ d. pair-acts d c.came_to-in-8.ensures (op c.args.code.now c.args.at 8 c.code_at.ensures.0 c.operation_of-operation.ensures.0 c.in-8.is) c.do_change.ensures

pub returns-in-9 : goal.returns-in-9
unfolding operations
returns-in-9 c = λ d. unpair-acts d c.came_to-in-9.ensures (op c.args.code.now c.args.at 9 c.code_at.ensures.0 c.operation_of-operation.ensures.0 c.in-9.is) c.do_change-in-9.ensures

pub returns-in-10 : goal.returns-in-10
unfolding operations
returns-in-10 c = λ d. query-acts d c.came_to-in-10.ensures (op c.args.code.now c.args.at 10 c.code_at.ensures.0 c.operation_of-operation.ensures.0 c.in-10.is) c.do_query.ensures

pub returns-in-11 : goal.returns-in-11
unfolding operations
returns-in-11 c = λ d. constant-formal-acts d c.came_to-in-11.ensures (op c.args.code.now c.args.at 11 c.code_at.ensures.0 c.operation_of-operation.ensures.0 c.in-11.is) c.do_constant_formal.ensures

pub returns-in-0-code_at : goal.returns-in-0-code_at
unfolding operations
returns-in-0-code_at c = λ d. add-formal-acts d c.came_to-in-0-code_at.ensures c.code_at-in-12.ensures.0 (omega arith) (op c.args.code.now c.args.at 12 c.code_at.ensures.0 c.operation_of-operation.ensures.0 c.in-12.is) c.do_add_formal.ensures

pub returns-in-1-code_at : goal.returns-in-1-code_at
unfolding operations
returns-in-1-code_at c = λ d. subtract-formal-acts d c.came_to-in-1-code_at.ensures c.code_at-in-12.ensures.0 (omega arith) (op c.args.code.now c.args.at 12 c.code_at.ensures.0 c.operation_of-operation.ensures.0 c.in-12.is) c.do_subtract_formal.ensures

pub returns-in_default-code_at : goal.returns-in_default-code_at
unfolding operations
returns-in_default-code_at c = λ d. compare-formal-acts d c.came_to-in_default-code_at.ensures c.code_at-in-12.ensures.0 (omega arith) (omega arith) (op c.args.code.now c.args.at 12 c.code_at.ensures.0 c.operation_of-operation.ensures.0 c.in-12.is) c.do_compare_formal.ensures

pub returns-in-13 : goal.returns-in-13
unfolding operations
returns-in-13 c = λ d. branch-formal-acts d c.came_to-in-13.ensures (op c.args.code.now c.args.at 13 c.code_at.ensures.0 c.operation_of-operation.ensures.0 c.in-13.is) c.do_branch_formal.ensures

pub returns-in-14 : goal.returns-in-14
unfolding operations
returns-in-14 c = λ d. goto-formal-acts d c.came_to-in-14.ensures (op c.args.code.now c.args.at 14 c.code_at.ensures.0 c.operation_of-operation.ensures.0 c.in-14.is) c.do_goto_formal.ensures

pub returns-in_default : goal.returns-in_default
unfolding operations
returns-in_default c = λ d. call-formal-acts d c.came_to-in_default.ensures (op c.args.code.now c.args.at 15 c.code_at.ensures.0 c.operation_of-operation.ensures.0 (search (rules, last-op))) c.do_call_formal.ensures
