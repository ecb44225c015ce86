-- Each link leads no further in, and the rest of the way leads where the whole does.
use Rattle.std.proofs.Common.{◌≡◌, ◌≤◌, ◌-◌}
use Rattle.chain_records.specs.Records.{hop}
use Rattle.chain_records.proofs.follow.Given as goal

abbrev pub invariant-loop-taken : goal.invariant-loop-taken
invariant-loop-taken l = record {
  low : l.activation ≤ l.fn.from;
  same : hop l.records l.activation (l.count - l.taken) ≡ hop l.records l.fn.from l.fn.count;
}
