-- Where the link is the innermost activation the display is its own.
use Rattle.std.proofs.Common.{rules}
use Rattle.display_moves.specs.Moving.{head-there, restorable, restored, shows-home}
use Rattle.display_moves.proofs.link_to.Goals as goal

pub activation_level-sure-requires : goal.activation_level-sure-requires
activation_level-sure-requires c = search (rules, head-there)

pub activation_level-level-requires : goal.activation_level-level-requires
activation_level-level-requires c = search (rules, head-there)

pub restore-requires : goal.restore-requires
restore-requires c = search (rules, restorable)

pub returns-then-link-live-clause-shows_from : goal.returns-then-link-live-clause-shows_from
returns-then-link-live-clause-shows_from c =
    λ w. restored w.running _ _ _ w.high c.activation_level-level.ensures.0 c.activation_level-sure.ensures.0 c.restore.new.display
    c.restore.ensures.shows_from

pub returns-else-link-live-clause-shows_from : goal.returns-else-link-live-clause-shows_from
returns-else-link-live-clause-shows_from c = λ w. shows-home w.running _ c.if-link-live.false
