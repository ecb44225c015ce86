use Rattle.std.proofs.Common.{true, arith}
use Rattle.table_hash.proofs.Hashing.{class-below}
use Rattle.table_distinct.proofs.Once.{each_once}
use Rattle.table_once.proofs.classes_differ.Goals as goal

pub returns : goal.returns
returns c =
    each_once c.args.table.now c.args.count
    (λ j l. c.loop-class.invariant.few j l (omega (arith, class-below true c.args.table.now _ j c.loop-class.invariant.some)))
