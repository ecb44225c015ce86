-- a value that fits is stored as it is
use Rattle.std.proofs.Common.{◌≡◌, false, ltb}
use Rattle.std.specs.Int.Signed.{mag}
use mir.Facts.{to_z-of_z}
use borrow.Author.Tests.{ltb-true}
use Rattle.run_words.proofs.Signs.{read_back, in-range, too-low, too-high}
use Rattle.run_words.proofs.Kept.{effect-fits, effect-past, cells-fits, cells-past}
use Rattle.run_words.proofs.keep.Goals as goal
use Rattle.run_words.proofs.keep.Goals.{else-value-geminus2147483648-via-then-value-geminus2147483648+else-value-le2147483647, else-value-geminus2147483648-via-else-value-geminus2147483648}

pub returns-then-value-le2147483647 : goal.returns-then-value-le2147483647
returns-then-value-le2147483647 c =
    let z = c.args.value in
    let e = in-range z (rw (to_z-of_z c.ranges.value) at c.if-value-geminus2147483648.true) (rw (to_z-of_z c.ranges.value) at c.if-value-le2147483647.true) in
    (effect-fits z e, rw (to_z-of_z c.ranges.value, read_back z (ltb-true (mag z) 2147483648 e)) (cells-fits _ _ _ e))

pub returns : goal.returns
returns c =
    let e : ltb (mag c.args.value) 2147483648 ≡ false = elim c.else-value-geminus2147483648.branch [
      | else-value-geminus2147483648-via-then-value-geminus2147483648+else-value-le2147483647 w ↦
          too-high c.args.value (rw (to_z-of_z c.ranges.value) at w.if-value-le2147483647.false)
      | else-value-geminus2147483648-via-else-value-geminus2147483648 w ↦
          too-low c.args.value (rw (to_z-of_z c.ranges.value) at w.if-value-geminus2147483648.false)
    ] in
    (effect-past c.args.value e, cells-past _ _ _ e)
