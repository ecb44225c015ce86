-- A case for each way out.
use denote.Enum.Bare.{same_false}
use Rattle.std.proofs.Common.{rules, sym, ◌∙◌}
use Rattle.check_uses.specs.contracts.Kind.{the_type}
use Rattle.check_uses.proofs.Meanings.{used-none, used-right, used-wrong}
use Rattle.check_uses.proofs.scope.Scope.uses.Goals as goal

pub returns-in_default : goal.returns-in_default
returns-in_default c = search (rules, used-none)

pub returns-then-eq : goal.returns-then-eq
returns-then-eq c = search (rules, used-right)

pub returns : goal.returns
returns c =
    let apart = same_false the_type _ _ (sym c.eq.ensures ∙ c.if-eq.false) in
    search (rules, used-wrong)
