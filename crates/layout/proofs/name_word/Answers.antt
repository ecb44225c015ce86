use Rattle.std.proofs.Common.{rules}
use Rattle.resolved.specs.Resolved.{packed}
use Rattle.layout.proofs.name_word.Goals as goal

pub returns : goal.returns
unfolding packed
returns c = search rules
