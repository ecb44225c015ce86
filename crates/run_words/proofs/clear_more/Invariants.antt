-- the cells from the first to i are cleared
use Rattle.run_moves.specs.Effects.{Cleared}
use Rattle.run_words.proofs.clear_more.Given as goal

abbrev pub invariant-loop-i : goal.invariant-loop-i
invariant-loop-i l = Cleared l.fn.cells l.fn.from l.i l.cells
