-- The entries from `i` on are in the chains.
use Rattle.check_symbols.specs.Chains.{Rechained}
use Rattle.check_symbols.proofs.remove.Given as goal

abbrev pub invariant-loop-i : goal.invariant-loop-i
invariant-loop-i l = Rechained l.fn.entries l.entries l.i
