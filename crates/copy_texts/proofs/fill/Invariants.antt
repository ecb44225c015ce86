-- The first i words are the script's fields.
use Rattle.std.proofs.Common.{ℕ, ◌*◌, ◌≡◌, ◌<◌, length, get_or}
use Rattle.laws.specs.Fields.{field_at}
use Rattle.copy_texts.proofs.fill.Given as goal

abbrev pub invariant-loop-i : goal.invariant-loop-i
invariant-loop-i l = (length l.area ≡ length l.initial.area) × ((j : ℕ) → j < l.i → get_or l.area j 0 ≡ field_at l.script (2 * j))
