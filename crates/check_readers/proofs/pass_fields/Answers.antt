use Rattle.language.specs.Faults.{fault}
use Rattle.std.specs.Prelude.{Ok, Err}
use Rattle.std.proofs.Common.{◌≡◌, sym, ap, ℕ, ◌+◌, ◌*◌, ◌<◌, ◌≤◌, List, length, arith}
use Rattle.language.specs.Structure.{fields}
use Rattle.language.specs.declared.Refusal.TheVariants.{PastTheEnd}
use Rattle.check_records.specs.Taking.{unread, forget}
use Rattle.check_records.proofs.Taking.{fields-all, fields-none}
use Rattle.check_readers.proofs.pass_fields.Goals as goal

module _ (bs : List ℕ) (at from count : ℕ) where
  cut_off : length (unread bs from) < count → Err (fault PastTheEnd at) ≡ forget (fields at count from (unread bs from))
  unfolding forget
  cut_off short = sym (ap forget (fields-none at count from (unread bs from) short))

  all_there : count ≤ length (unread bs from) → Ok (from + 2 * count) ≡ forget (fields at count from (unread bs from))
  unfolding forget
  all_there fits = sym (ap forget (fields-all at count from (unread bs from) fits))

pub returns-then-left-count : goal.returns-then-left-count
returns-then-left-count c = cut_off c.args.script.now c.args.at c.args.from c.args.count (omega arith)

pub returns : goal.returns
returns c = all_there c.args.script.now c.args.at c.args.from c.args.count (omega arith)
