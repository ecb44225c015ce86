-- the kinds from i on agree exactly where all do
use Rattle.std.proofs.Common.{◌≡◌, ◌+◌, ◌*◌, ◌-◌}
use Rattle.run_moves.specs.Effects.{same_kinds}
use Rattle.run_words.proofs.kinds_agree.Given as goal

abbrev pub invariant-loop-i : goal.invariant-loop-i
invariant-loop-i l = same_kinds l.code (l.arguments + l.i) (l.formals + 3 * l.i) (l.count - l.i) ≡ same_kinds l.code l.arguments l.formals l.count
