use Rattle.std.proofs.Common.{ap, sym, ◌∙◌}
use Rattle.resolved.specs.Resolved.{kind_in}
use Rattle.run_words.proofs.Kept.{kinds-done, kinds-differ, kinds-same}
use Rattle.run_words.proofs.kinds_agree.Goals as goal

pub returns : goal.returns
returns c = kinds-done c.args.code.now c.args.arguments c.args.formals c.args.count c.loop-i.i c.loop-i-test.false ∙ c.loop-i.invariant

pub returns-then-kind_of-code_at : goal.returns-then-kind_of-code_at
returns-then-kind_of-code_at c =
    let read = c.kind_of.ensures.0 ∙ ap kind_in c.code_at.ensures.0 in
    kinds-differ c.args.code.now c.args.arguments c.args.formals c.args.count c.loop-i.i c.loop-i-test.true
    (λ e. c.if-kind_of-code_at.true (read ∙ e ∙ sym c.code_at-in-loop-i.ensures.0)) ∙ c.loop-i.invariant

pub loop-i-preserved : goal.loop-i-preserved
loop-i-preserved c =
    let read = c.kind_of.ensures.0 ∙ ap kind_in c.code_at.ensures.0 in
    kinds-same c.args.code.now c.args.arguments c.args.formals c.args.count c.loop-i.i c.loop-i-test.true
    (sym read ∙ c.if-kind_of-code_at.false ∙ c.code_at-in-loop-i.ensures.0) ∙ c.loop-i.invariant
