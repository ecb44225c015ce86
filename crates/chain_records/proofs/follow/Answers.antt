-- One link more is taken.
use Rattle.std.proofs.Common.{◌≡◌, suc, ◌+◌, ◌-◌, sym, ap, ◌∙◌, arith}
use Rattle.chain_records.specs.Records.{hop}
use Rattle.chain_records.proofs.follow.Goals as goal

pub loop-taken-preserved : goal.loop-taken-preserved
loop-taken-preserved c =
    let l = c.loop-taken in
    let e : c.args.count - l.taken ≡ suc (c.args.count - (l.taken + 1)) = omega arith in
    record {
      low = omega (arith, c.requires.down l.activation l.invariant.low);
      same = sym (ap (hop c.args.records.now l.activation) e) ∙ l.invariant.same;
    }
