-- The number of fields after a mark, by the definitions' rows of each place.
use Rattle.std.specs.Prelude.{Some, None, ℕ}
use Rattle.check_marks.specs.declared.Place.TheVariants.{Formal, Declaration, Statement}
use Rattle.check_marks.specs.Marks.{Fit, fit_at}

abbrev pub count_or : Fit → ℕ → ℕ
count_or (Some m) d = m.count
count_or None d = d

-- of a block's mark too, which is a statement's; 2, as most have, for letters that are no mark
unfoldable pub field_count : ℕ → ℕ
field_count w = count_or (fit_at Statement w) (count_or (fit_at Declaration w) (count_or (fit_at Formal w) 2))
