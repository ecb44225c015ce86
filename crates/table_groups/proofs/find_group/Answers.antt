use Rattle.std.proofs.Common.{to_z-of_z}
use Rattle.table_groups.proofs.find_group.Goals as goal

pub group_number-number-requires-clause-listed : goal.group_number-number-requires-clause-listed
group_number-number-requires-clause-listed c =
    let (ps, (past, l)) = c.requires.listed in
    (ps, (past, (l, c.group_place-place.ensures ps past l)))

pub returns : goal.returns
returns c =
    let e = to_z-of_z c.ranges.group in
    λ ps past l.
    let q = c.group_place-place.ensures ps past l in
    record { listing = l; place_is = rw e at q; number_is = rw e at (c.group_number-number.ensures ps past l q) }
