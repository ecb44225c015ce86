use Rattle.std.proofs.Common.{rules}
use Rattle.display_moves.specs.Moving.{head-there, bounds-there, one_below, restorable, leaves-restored}
use Rattle.display_moves.proofs.leave.Goals as goal

pub activation_level-sure-requires : goal.activation_level-sure-requires
activation_level-sure-requires c = search (rules, head-there)

pub activation_level-level-requires : goal.activation_level-level-requires
activation_level-level-requires c = search (rules, head-there, one_below)

pub restore-requires : goal.restore-requires
restore-requires c = search (rules, restorable, one_below)

pub activation_end-requires : goal.activation_end-requires
activation_end-requires c = search (rules, bounds-there, one_below)

pub returns : goal.returns
returns c = λ w. search (rules, leaves-restored)
