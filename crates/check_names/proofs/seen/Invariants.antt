-- The name is among all names held exactly where it was found or is among those that are left.
use Rattle.std.proofs.Common.{◌≡◌, drop}
use Rattle.language.specs.Basics.{among}
use Rattle.check_names.proofs.Names.{either}
use Rattle.check_names.proofs.seen.Given as goal

abbrev pub invariant-loop-name : goal.invariant-loop-name
invariant-loop-name l = among l.n l.name-items ≡ either l.found (among l.n (drop l.name-index l.name-items))
