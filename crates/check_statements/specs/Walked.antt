-- A statement other than BK judged, and where the walk goes on.
use Rattle.std.specs.Prelude.{ℕ, List, ◌≡◌, Ok, Err}
use Rattle.language.specs.Faults.{Verdict, Progress}
use Rattle.laws.specs.Fields.{field_at}
use Rattle.check_extents.specs.Passing.{Alone}
use Rattle.check_uses.specs.Meanings.{scope_from, verdict_of}
use Rattle.check_statements.specs.Shapes.{shape_of, judged_as}

abbrev pub progress_after : Verdict → ℕ → Progress
progress_after (Ok u) end = Ok end
progress_after (Err e) end = Err e

pub record Walked (bs es : List ℕ) (top at : ℕ) (r : Progress) : Type 0 where
  pub verdict : Verdict
  pub next : ℕ
  pub judged : verdict ≡ verdict_of (judged_as (shape_of (field_at bs at)) (scope_from bs es top) bs at)
  pub past : Alone bs at next
  pub so : r ≡ progress_after verdict next
