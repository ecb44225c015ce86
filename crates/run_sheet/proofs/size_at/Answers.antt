-- `size_at` meets its contract: by the operation's kind.
use Rattle.std.proofs.Common.{◌+◌, ◌-◌, ◌%◌, sym, ap, ◌∙◌, arith}
use Rattle.resolved.specs.Layout.{operation_in, end_in}
use Rattle.run_sheet.specs.Sizes.{plain_size, size-block, size-call, size-plain}
use Rattle.run_sheet.proofs.size_at.Goals as goal

pub code_at-requires : goal.code_at-requires
code_at-requires c =
    let operation = c.operation_of-operation.ensures.0 ∙ ap operation_in c.code_at-word.ensures.0 in
    (c.requires.block (sym operation ∙ c.if-operation-eq-BLOCK.true)).0

pub overflow_sub-result : goal.overflow_sub-result
overflow_sub-result c =
    let operation = c.operation_of-operation.ensures.0 ∙ ap operation_in c.code_at-word.ensures.0 in
    omega (arith, (c.requires.block (sym operation ∙ c.if-operation-eq-BLOCK.true)).1, c.code_at.ensures.0)

pub returns-then-operation-eq-BLOCK : goal.returns-then-operation-eq-BLOCK
returns-then-operation-eq-BLOCK c =
    let operation = c.operation_of-operation.ensures.0 ∙ ap operation_in c.code_at-word.ensures.0 in
    (ap (λ v. v - c.args.at) (c.end_of.ensures.0 ∙ ap end_in c.code_at.ensures.0) ∙ sym (size-block _ _ (sym operation ∙ c.if-operation-eq-BLOCK.true)), omega arith)

pub code_at-requires-then-word-eq-CALL : goal.code_at-requires-then-word-eq-CALL
code_at-requires-then-word-eq-CALL c = c.requires.call (sym (ap (λ v. v % 8) c.code_at-word.ensures.0) ∙ c.if-word-eq-CALL.true)

pub returns-then-word-eq-CALL : goal.returns-then-word-eq-CALL
returns-then-word-eq-CALL c =
    let operation = c.operation_of-operation.ensures.0 ∙ ap operation_in c.code_at-word.ensures.0 in
    let call = ap (λ v. v % 8) c.code_at-word.ensures.0 in (
      ap (λ v. 3 + v) c.code_at-then-word-eq-CALL.ensures.0
          ∙ sym (size-call _ _ (λ h. c.if-operation-eq-BLOCK.false (operation ∙ h)) (sym call ∙ c.if-word-eq-CALL.true)),
      omega (arith, c.code_at-then-word-eq-CALL.ensures.1),
    )

pub returns : goal.returns
returns c =
    let operation = c.operation_of-operation.ensures.0 ∙ ap operation_in c.code_at-word.ensures.0 in
    let call = ap (λ v. v % 8) c.code_at-word.ensures.0 in (
      c.plain_size.ensures.0 ∙ ap plain_size operation
          ∙ sym (size-plain _ _ (λ h. c.if-operation-eq-BLOCK.false (operation ∙ h)) (λ h. c.if-word-eq-CALL.false (call ∙ h))),
      omega (arith, c.plain_size.ensures.1),
    )
