-- Where the label is the innermost activation's the display is as it was.
use Rattle.std.proofs.Common.{rules}
use Rattle.display_moves.specs.Moving.{head-there, bounds-there, home-high, restorable, jumps-here, jumps-restored}
use Rattle.display_moves.proofs.jump.Goals as goal

pub returns-then-home-live : goal.returns-then-home-live
returns-then-home-live c = λ w. search (rules, jumps-here)

pub activation_level-sure-requires : goal.activation_level-sure-requires
activation_level-sure-requires c = search (rules, head-there)

pub activation_level-level-requires : goal.activation_level-level-requires
activation_level-level-requires c = search (rules, head-there, home-high)

pub restore-requires : goal.restore-requires
restore-requires c = search (rules, restorable, home-high)

pub activation_end-requires : goal.activation_end-requires
activation_end-requires c = search (rules, bounds-there, home-high)

pub returns : goal.returns
returns c =
    λ w. jumps-restored w c.activation_level-sure.ensures.0 c.activation_level-level.ensures.0 c.restore.ensures.shows_from
    c.restore.ensures.display_len_unchanged c.activation_end.ensures
