use Rattle.std.proofs.Common.{rules, pos, get_or, w32, FitsSigned}
use Rattle.language.specs.Machine.{compute}
use Rattle.run_words.proofs.Signs.{sum-of-words}
use Rattle.run_words.proofs.add.Goals as goal

pub returns : goal.returns
unfolding compute
returns c =
    let f : FitsSigned w32 (get_or c.args.cells.now c.args.left (pos 0)) = search rules in
    let g : FitsSigned w32 (get_or c.args.cells.now c.args.right (pos 0)) = search rules in
    let e = rw (sum-of-words _ _ f g c.from.ensures c.from-2.ensures) at c.keep.ensures in
    record { value = e.0; cells_after = e.1 }
