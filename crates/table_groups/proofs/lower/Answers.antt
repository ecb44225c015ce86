use Rattle.std.proofs.Common.{ℕ, pred, ◌+◌, ◌*◌, set, ℤ, sym, ap, ◌∙◌, subst, arith, sub-one}
use Rattle.language.specs.Table.{take_out}
use Rattle.table_laws.specs.Places.{one_less}
use Rattle.table_laws.specs.Listing.{Listing}
use Rattle.table_groups.proofs.Numbers.{word-written}
use Rattle.table_groups.proofs.Words.{found_inside, lowered, lowered-gone}
use Rattle.table_groups.proofs.lower.Goals as goal

pub overflow_mul-place : goal.overflow_mul-place
overflow_mul-place c = omega (arith, found_inside c.requires.listed.1.1.1 c.requires.le_number)

pub overflow_add-place : goal.overflow_add-place
overflow_add-place c = omega (arith, found_inside c.requires.listed.1.1.1 c.requires.le_number)

pub offset_bounds-groups-place : goal.offset_bounds-groups-place
offset_bounds-groups-place c = omega (arith, found_inside c.requires.listed.1.1.1 c.requires.le_number)

pub bounds-groups-place : goal.bounds-groups-place
bounds-groups-place c = found_inside c.requires.listed.1.1.1 c.requires.le_number

pub returns-then-number-eq1 : goal.returns-then-number-eq1
returns-then-number-eq1 c =
    λ g ps past f.
    subst (Listing c.args.places (one_less g ps) past)
    (sym (c.take_out.ensures ∙ ap (λ (k : ℕ). take_out c.args.found.place k c.args.groups.now) (c.first_unused-used.ensures ps past f.listing)))
    (lowered-gone f (omega arith))

pub returns-else-number-eq1 : goal.returns-else-number-eq1
returns-else-number-eq1 c =
    λ g ps past f.
    subst (λ (z : ℤ). Listing c.args.places (one_less g ps) past (set c.args.groups.now (2 * c.args.found.place + 1) z))
    (sym (word-written _ (pred c.args.found.number) (sub-one c.args.found.number) (omega (arith, sub-one c.args.found.number))))
    (lowered f (omega arith))
