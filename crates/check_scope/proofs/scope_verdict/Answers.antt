-- The program is a block with no formals, and no name is visible around it.
use native.Mathlib.Nat.{le_of_eq}
use Rattle.std.proofs.Common.{rules}
use Rattle.grammar.specs.Words.{bytes-are}
use Rattle.check_scope.proofs.Whole.{whole-refused, whole-fit}
use Rattle.check_extents.proofs.Noting.{none-noted}
use Rattle.check_scope.proofs.scope_verdict.Goals as goal

pub block-requires : goal.block-requires
block-requires c = search (rules, none-noted)

pub returns-in_err-block : goal.returns-in_err-block
returns-in_err-block c h =
    let bs = c.args.script.now in
    whole-refused bs (bytes-are bs (λ i. (c.type_inv.script i).fits)) c.empty_chains.new.entries (le_of_eq c.empty_chains.ensures.long)
    c.block.result c.block.ensures.judged _ _ c.in_err-block.was (search rules)

pub returns : goal.returns
returns c h =
    let bs = c.args.script.now in
    whole-fit bs (bytes-are bs (λ i. (c.type_inv.script i).fits)) c.empty_chains.new.entries (le_of_eq c.empty_chains.ensures.long)
    c.block.result c.block.ensures.judged _ c.in_ok-block.was
