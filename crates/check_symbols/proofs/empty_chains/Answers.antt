use Rattle.std.proofs.Common.{arith, length-take}
use Rattle.check_symbols.proofs.empty_chains.Goals as goal

pub slice_bounds-fill-end-2 : goal.slice_bounds-fill-end-2
slice_bounds-fill-end-2 c = omega (arith, length-take 256 c.args.entries.now)
