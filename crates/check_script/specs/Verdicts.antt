-- The check's verdict as the code's enum has it: the tree of an accepted script is forgotten.
use Rattle.std.specs.Prelude.{Ok, Err}
use Rattle.language.specs.Check.{Checked, accepted, refused}
use Rattle.language.specs.Faults.{fault, Verdict}

unfoldable pub verdict_of : Checked → Verdict
verdict_of (accepted t) = Ok tt
verdict_of (refused c o) = Err (fault c o)
