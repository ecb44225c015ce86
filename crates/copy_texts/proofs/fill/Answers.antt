-- One field more.
use Rattle.std.proofs.Common.{◌*◌, ◌∙◌, length-set, arith}
use Rattle.copy_texts.proofs.Filling.{field-read, filled_more}
use Rattle.copy_texts.proofs.fill.Goals as goal

pub loop-i-preserved : goal.loop-i-preserved
loop-i-preserved c =
    let l = c.loop-i in
    let s = c.args.script.now in (
      length-set l.area l.i c.field.result ∙ l.invariant.0,
      filled_more s l.area l.i c.field.result (omega arith) (field-read s (2 * l.i) c.field.result c.field.ensures) l.invariant.1,
    )
