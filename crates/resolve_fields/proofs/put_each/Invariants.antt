-- The words still to put give all of them.
use Rattle.std.proofs.Common.{ℕ, ◌≡◌, ◌+◌, ◌-◌, ◌<◌, length}
use Rattle.resolve_fields.specs.Taking.{taken}
use Rattle.resolve_fields.proofs.put_each.Given as goal

abbrev pub invariant-loop-place : goal.invariant-loop-place
invariant-loop-place g l =
    (length l.words ≡ 4096)
    × ((word : ℕ → ℕ) → ((place w : ℕ) → place < 4096 → goal.F-post g l.value place w → w ≡ word place) → taken word l.words l.place (l.from + l.count - l.place) ≡ taken word l.initial.words l.from l.count)
