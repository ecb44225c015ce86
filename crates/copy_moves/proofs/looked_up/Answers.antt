-- The name is looked up by its cell, where it reads as a new name, and is 0 elsewhere (`Looking`).
use Rattle.std.proofs.Common.{sym, ◌∙◌, arith}
use Rattle.copy_moves.proofs.Looking.{looked-none, looked-cell}
use Rattle.copy_moves.proofs.looked_up.Goals as goal

pub returns-then-name-eq0 : goal.returns-then-name-eq0
returns-then-name-eq0 c =
    looked-none c.args.firsts.now c.args.starts.now c.args.looked.now c.args.live (sym c.from_u32-name.ensures.0 ∙ omega arith)

pub returns : goal.returns
returns c =
    looked-cell c.args.firsts.now c.args.starts.now c.args.looked.now c.args.live c.from_u32-name.result c.from_u32-name.ensures.0 (λ z. omega arith)
    c.cell_of.result c.designator_of.result c.cell_of.ensures c.designator_of.ensures.0
