-- `copy_fields::cross` meets its contract. Assumes nothing.
use native.Mathlib.Omega.{arith}
use borrow.Author.Rules.{rules}
use Rattle.copy_fields.specs.Naming.{crossed}
use Rattle.copy_fields.proofs.cross.Goals as goal

pub returns-then-from-lt4096-clause-crossed : goal.returns-then-from-lt4096-clause-crossed
unfolding crossed
returns-then-from-lt4096-clause-crossed c = search rules

pub returns-else-from-lt4096-clause-crossed : goal.returns-else-from-lt4096-clause-crossed
returns-else-from-lt4096-clause-crossed c = λ l. absurd (omega (arith, c.if-from-lt4096.false))
