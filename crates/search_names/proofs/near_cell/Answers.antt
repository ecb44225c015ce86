use Rattle.std.proofs.Common.{refl, arith}
use Rattle.search_names.proofs.Steps.{first_found, own-found, further-first}
use Rattle.search_names.proofs.near_cell.Goals as goal

pub returns-then-from-number : goal.returns-then-from-number
returns-then-from-number c =
    first_found _ _ _ _ _ _ _ _ c.from_u32-number.ensures.0 (own-found _ _ _ _ (omega arith)) (omega arith) refl

pub returns : goal.returns
returns c =
    further-first _ _ _ _ _ _ c.requires.0 c.from_u32-number.ensures.0 c.from.ensures c.if-from-number.false
    c.from-2.ensures c.seek.ensures refl
