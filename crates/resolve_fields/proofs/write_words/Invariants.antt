-- Between two records, what is written and what is still to come make up the whole.
use Rattle.std.proofs.Common.{◌≡◌, ◌+◌, ◌-◌, ◌≤◌, length}
use Rattle.resolve_fields.proofs.Sweeping.{Sweeps}
use Rattle.resolve_fields.proofs.write_words.Given as goal

abbrev pub invariant-loop-at : goal.invariant-loop-at
invariant-loop-at g l =
    (l.at ≤ length l.script + 131076) × (length l.words ≡ 4096) × Sweeps g.N.Notes.layout (g.N.Notes.ahead l.notes) l.script l.code l.words l.at

abbrev pub decreases-loop-at : goal.decreases-loop-at
decreases-loop-at g l = length l.script - l.at
