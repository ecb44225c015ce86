-- The mark's word is a zero that stands already; the name's is put after it.
use Rattle.std.proofs.Common.{rules}
use Rattle.resolve_words.proofs.Names.{name-grown}
use Rattle.resolve_words.proofs.emit_name.Goals as goal

pub returns : goal.returns
returns c = search (rules, name-grown)
