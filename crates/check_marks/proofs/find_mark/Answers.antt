-- A row with these letters answers; any other is passed over, and with none left there is none (`Table`). What all of the table gives is
-- what the definitions' rows of the place give (`bit-rule`).
use Rattle.std.proofs.Common.{refl, sym, ◌∙◌}
use Rattle.check_marks.proofs.Table.{bit-rule, at-fits, at_other, at-barred, none_left}
use Rattle.check_marks.proofs.find_mark.Goals as goal
use Rattle.check_marks.proofs.find_mark.Goals.{then-e-bit-eq1+else-e-letters, else-e-bit-eq1}

pub loop-i-init : goal.loop-i-init
loop-i-init c = refl

pub returns-then-e-letters : goal.returns-then-e-letters
returns-then-e-letters c =
    sym (at-fits c.bit_of-bit.result c.args.letters _ c.loop-i.i _ c.loop-i-test.true c.if-e-bit-eq1.true c.if-e-letters.true)
    ∙ c.loop-i.invariant
    ∙ bit-rule c.args.place c.args.letters c.bit_of-bit.ensures.0

pub loop-i-preserved : goal.loop-i-preserved
loop-i-preserved c =
    elim c.if-e-bit-eq1.branch [
      | then-e-bit-eq1+else-e-letters w ↦
          at_other c.bit_of-bit.result c.args.letters _ c.loop-i.i _ c.loop-i-test.true w.if-e-bit-eq1.true w.if-e-letters.false
          ∙ c.loop-i.invariant
      | else-e-bit-eq1 w ↦
          at-barred c.bit_of-bit.result c.args.letters _ c.loop-i.i _ c.loop-i-test.true w.if-e-bit-eq1.false ∙ c.loop-i.invariant
    ]

pub returns : goal.returns
returns c =
    sym (none_left c.bit_of-bit.result c.args.letters _ c.loop-i.i c.loop-i-test.false)
    ∙ c.loop-i.invariant
    ∙ bit-rule c.args.place c.args.letters c.bit_of-bit.ensures.0
