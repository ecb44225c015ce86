use Rattle.std.proofs.Common.{refl}
use Rattle.search_names.proofs.Steps.{first_found}
use Rattle.search_names.proofs.first_cell.Goals as goal

pub returns : goal.returns
returns c = first_found _ _ _ _ _ _ _ _ c.from_u32.ensures.0 c.seek.ensures.0 c.seek.ensures.1 refl
