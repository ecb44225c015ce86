use Rattle.std.proofs.Common.{◌≡◌, ℕ, ◌+◌, ◌-◌, ◌*◌, set, ℤ, pos, unsigned_abs, sym, ◌∙◌, subst, ap₂, arith, to_z-of_z, w32, to_z, of_z}
use Rattle.table_laws.specs.Places.{one_more}
use Rattle.table_laws.specs.Listing.{Listing}
use Rattle.table_moves.specs.PutIn.{put_in}
use Rattle.table_groups.proofs.Numbers.{word-written, at_least_one_lem}
use Rattle.table_groups.proofs.Words.{listing-length, found_within, found_inside, raised, raised-new}
use Rattle.table_groups.proofs.raise.Goals as goal

pub put_in-requires-clause-place_le_count : goal.put_in-requires-clause-place_le_count
put_in-requires-clause-place_le_count c =
    let (ps, (past, (f, room))) = c.requires.listed in
    omega (arith, c.first_unused-used.ensures ps past f.listing, found_within f)

pub put_in-requires-clause-count_in_bounds : goal.put_in-requires-clause-count_in_bounds
put_in-requires-clause-count_in_bounds c =
    let (ps, (past, (f, room))) = c.requires.listed in
    omega (arith, room, c.first_unused-used.ensures ps past f.listing, listing-length f.listing)

pub overflow_mul-place : goal.overflow_mul-place
overflow_mul-place c = omega (arith, found_inside c.requires.listed.1.1.0 (omega arith))

pub overflow_add-place : goal.overflow_add-place
overflow_add-place c = omega (arith, found_inside c.requires.listed.1.1.0 (omega arith))

pub offset_bounds-groups-place : goal.offset_bounds-groups-place
offset_bounds-groups-place c = omega (arith, found_inside c.requires.listed.1.1.0 (omega arith))

pub bounds-groups-place : goal.bounds-groups-place
bounds-groups-place c = found_inside c.requires.listed.1.1.0 (omega arith)

pub returns-then-number-eq0 : goal.returns-then-number-eq0
returns-then-number-eq0 c =
    let some = at_least_one_lem c.args.group c.requires.group_value in
    let start = 2 * c.args.found.place in
    let word : to_z w32 (of_z w32 c.args.group) ≡ pos (unsigned_abs c.args.group) = to_z-of_z c.ranges.group ∙ some.0 in
    λ ps past f room.
    subst (Listing c.args.places (one_more (unsigned_abs c.args.group) ps) past)
    (sym (c.put_in.ensures ∙ ap₂ (λ (k : ℕ) (z : ℤ). put_in start (2 * k - start) z (pos 1) c.args.groups.now) (c.first_unused-used.ensures ps past f.listing) word))
    (raised-new f some.1 (omega arith) room)

pub returns-else-number-eq0 : goal.returns-else-number-eq0
returns-else-number-eq0 c =
    let some = at_least_one_lem c.args.group c.requires.group_value in
    λ ps past f room.
    subst (λ (z : ℤ). Listing c.args.places (one_more (unsigned_abs c.args.group) ps) past (set c.args.groups.now (2 * c.args.found.place + 1) z))
    (sym (word-written (c.args.found.number + 1) _ (omega arith) (omega (arith, c.requires.number_bound))))
    (raised f some.1 (omega arith))
