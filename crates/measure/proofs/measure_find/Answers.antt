-- The search's place as a number.
use Rattle.std.proofs.Common.{ap, ◌∙◌}
use Rattle.std.proofs.Math.Facts.{to_z-of_z}
use Rattle.std.specs.Option.{unwrap_or}
use Rattle.measure.proofs.Found.{placed-unwrap_or}
use Rattle.measure.proofs.measure_find.Goals as goal

pub returns : goal.returns
returns c =
    let k = c.args.count in
    rw (to_z-of_z c.ranges.group, to_z-of_z c.ranges.member) at (c.unwrap_or.ensures ∙ ap (λ o. unwrap_or o k) c.place_of.ensures ∙ placed-unwrap_or k _)
