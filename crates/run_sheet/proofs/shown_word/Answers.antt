-- `shown_word` meets its contract.
use Rattle.std.proofs.Common.{sym, ◌∙◌, arith}
use Rattle.run_sheet.proofs.Values.{read_back}
use Rattle.run_sheet.proofs.shown_word.Goals as goal

pub formal_shown-requires : goal.formal_shown-requires
formal_shown-requires c =
    let x = c.requires.1.formals-are _ c.if-i-formals.true c.requires.2 in
    (x.0, read_back _ (omega arith) ∙ x.1)

pub returns-then-i-formals : goal.returns-then-i-formals
returns-then-i-formals c =
    λ own h l.
    let x = h.formals-are _ c.if-i-formals.true l in
    read_back _ c.formal_shown.type_inv ∙ c.formal_shown.ensures x.0 (read_back _ (omega arith) ∙ x.1) ∙ sym x.2

pub returns : goal.returns
returns c = λ own h l. read_back _ (omega arith) ∙ h.others-are _ c.if-i-formals.false l
