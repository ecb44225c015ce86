-- `refused` meets its contract.
use native.Mathlib.Omega.{arith}
use mathlib.Core.Path.{sym, ap, ◌∙◌}
use borrow.Author.Tests.{eq-eqb}
use Rattle.resolved.specs.Layout.{operation_in, formals_in}
use Rattle.copy_arms.proofs.Entered.{no-formal, number-differs, kinds-tell}
use Rattle.copy_arms.proofs.calling.refused.Goals as goal

pub returns-then-operation_of-ne-CALL_FORMAL : goal.returns-then-operation_of-ne-CALL_FORMAL
returns-then-operation_of-ne-CALL_FORMAL c =
    let a = c.args in
    let operation = c.operation_of.ensures.0 ∙ ap operation_in c.code_at.ensures.0 in
    no-formal a.code.now a.at a.body a.count (λ e. c.if-operation_of-ne-CALL_FORMAL.true (operation ∙ e))

-- the call is one of a formal, so that the body's formals stand before it
pub code_at-requires-2 : goal.code_at-requires-2
code_at-requires-2 c =
    let formal = sym (c.operation_of.ensures.0 ∙ ap operation_in c.code_at.ensures.0) ∙ c.if-operation_of-ne-CALL_FORMAL.false in
    (c.requires.callable (eq-eqb _ _ formal)).there

pub returns-then-formals_of-count : goal.returns-then-formals_of-count
returns-then-formals_of-count c =
    let a = c.args in
    let formal = sym (c.operation_of.ensures.0 ∙ ap operation_in c.code_at.ensures.0) ∙ c.if-operation_of-ne-CALL_FORMAL.false in
    let formals = c.formals_of.ensures.0 ∙ ap formals_in c.code_at-2.ensures.0 in
    number-differs a.code.now a.at a.body a.count formal (λ e. c.if-formals_of-count.true (formals ∙ e))

pub overflow_sub-body : goal.overflow_sub-body
overflow_sub-body c =
    let formal = sym (c.operation_of.ensures.0 ∙ ap operation_in c.code_at.ensures.0) ∙ c.if-operation_of-ne-CALL_FORMAL.false in
    let counted = sym (c.formals_of.ensures.0 ∙ ap formals_in c.code_at-2.ensures.0) ∙ c.if-formals_of-count.false in
    omega (arith, counted, (c.requires.callable (eq-eqb _ _ formal)).before)

pub kinds_agree-requires : goal.kinds_agree-requires
kinds_agree-requires c =
    let formal = sym (c.operation_of.ensures.0 ∙ ap operation_in c.code_at.ensures.0) ∙ c.if-operation_of-ne-CALL_FORMAL.false in
    let counted = sym (c.formals_of.ensures.0 ∙ ap formals_in c.code_at-2.ensures.0) ∙ c.if-formals_of-count.false in
    let b = c.requires.callable (eq-eqb _ _ formal) in
    (c.requires.count_bound, omega (arith, counted, b.before, b.there))

pub returns : goal.returns
returns c =
    let a = c.args in
    let formal = sym (c.operation_of.ensures.0 ∙ ap operation_in c.code_at.ensures.0) ∙ c.if-operation_of-ne-CALL_FORMAL.false in
    let counted = sym (c.formals_of.ensures.0 ∙ ap formals_in c.code_at-2.ensures.0) ∙ c.if-formals_of-count.false in
    kinds-tell a.code.now a.at a.body a.count formal counted c.kinds_agree.ensures
