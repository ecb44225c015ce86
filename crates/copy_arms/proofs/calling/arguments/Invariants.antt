use Prim.Native.Nat.{◌+◌, ◌-◌, ◌≤◌}
use mathlib.Core.Path.{◌≡◌}
use Rattle.run_moves.specs.Acting.{set_all}
use Rattle.copy_arms.specs.Parts.{handed_from}
use Rattle.copy_arms.proofs.calling.arguments.Given as goal

abbrev pub invariant-loop-i : goal.invariant-loop-i
invariant-loop-i l =
    (l.i ≤ l.count) ×
    (set_all l.cells (l.to + l.i) (handed_from l.area l.firsts l.starts l.targets l.live (l.place + l.i) (l.count - l.i))
    ≡ set_all l.initial.cells l.to (handed_from l.area l.firsts l.starts l.targets l.live l.place l.count))
