use Rattle.std.proofs.Common.{take}
use Rattle.laws.specs.Each.{Each}
use Rattle.resolve_words.specs.Growth.{Grown}
use Rattle.resolve_words.specs.Visible.{Short}
use Rattle.resolve_words.proofs.put_all.Given as goal

abbrev pub invariant-loop-i : goal.invariant-loop-i
invariant-loop-i l = Each Short l.words → Grown l.initial.code l.code l.at (take l.i l.words)
