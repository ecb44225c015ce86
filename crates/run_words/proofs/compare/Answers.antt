use Rattle.std.proofs.Common.{◌≡◌, rules, pos, get_or, set, ap, w32, ℤ, FitsSigned, true, false}
use Rattle.std.specs.Int.Signed.{lt_z}
use mir.Facts.{to_z-of_z}
use Rattle.run_words.proofs.Kept.{compared-less, compared-not}
use Rattle.run_words.proofs.compare.Goals as goal

pub returns-then-cells-left : goal.returns-then-cells-left
returns-then-cells-left c =
    let a = get_or c.args.cells.now c.args.left (pos 0) in
    let b = get_or c.args.cells.now c.args.right (pos 0) in
    let f : FitsSigned w32 a = search rules in
    let g : FitsSigned w32 b = search rules in
    let e : lt_z a b ≡ true = rw (to_z-of_z f, to_z-of_z g) at c.if-cells-left.true in
    ap (λ (z : ℤ). set c.args.cells.now c.args.target z) (compared-less a b e)

pub returns-else-cells-left : goal.returns-else-cells-left
returns-else-cells-left c =
    let a = get_or c.args.cells.now c.args.left (pos 0) in
    let b = get_or c.args.cells.now c.args.right (pos 0) in
    let f : FitsSigned w32 a = search rules in
    let g : FitsSigned w32 b = search rules in
    let e : lt_z a b ≡ false = rw (to_z-of_z f, to_z-of_z g) at c.if-cells-left.false in
    ap (λ (z : ℤ). set c.args.cells.now c.args.target z) (compared-not a b e)
