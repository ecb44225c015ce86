-- `enter` meets its contract.
use Rattle.std.proofs.Common.{ℕ, length, subst, add-one, arith}
use Rattle.table_probes.specs.Probes.{Reached}
use Rattle.table_index.specs.Index.{home_of}
use Rattle.table_index.proofs.Searches.{indexed-more}
use Rattle.table_index.proofs.enter.Goals as goal

pub returns : goal.returns
returns c =
    let slots = c.args.slots.now in
    let reached = subst (λ (g : ℕ). Reached (home_of (length slots) g) slots c.vacant-q.result) c.natural_at.ensures.value c.vacant-q.ensures.reached in
    rw (add-one c.args.k) (indexed-more c.requires.indexed reached c.vacant-q.ensures.result_value (omega arith))
