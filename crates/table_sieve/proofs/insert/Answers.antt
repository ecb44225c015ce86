use Rattle.std.proofs.Common.{ℕ, get_or, ap₂, ◌∙◌}
use Rattle.table_filter.specs.Filter.{covers}
use Rattle.table_sieve.proofs.Sieving.{joined_same}
use Rattle.table_sieve.proofs.insert.Goals as goal

-- a pair whose bits were set changes nothing
pub returns-then-after-before-clause-fact : goal.returns-then-after-before-clause-fact
returns-then-after-before-clause-fact c _ h =
    c.if-after-before.true (joined_same _ _ (ap₂ (λ (q m : ℕ). covers (get_or c.args.seen.now q 0) m) c.cell_of-q.ensures.value c.mask_of.ensures ∙ h))
