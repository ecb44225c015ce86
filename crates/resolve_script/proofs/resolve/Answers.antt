-- `resolve_script::resolve` meets its contract: the program is a block with no formals, and no name is visible around it. Assumes nothing.
use native.Mathlib.Nat.{le_of_eq}
use native.Mathlib.Omega.{arith}
use Rattle.check_extents.proofs.Noting.{none-noted}
use Rattle.grammar.specs.Words.{bytes-are}
use Rattle.resolve_script.proofs.Whole.{accepted-short, words_are}
use borrow.Author.Rules.{rules}
use Rattle.resolve_script.proofs.resolve.Goals as goal

pub returns-then-script-gt8192 : goal.returns-then-script-gt8192
returns-then-script-gt8192 c =
    let bs = c.args.script.now in
    λ t e. absurd (omega (arith, c.if-script-gt8192.true, accepted-short bs (bytes-are bs (λ i. (c.type_inv.script i).fits)) t e))

pub returns : goal.returns
returns c =
    let bs = c.args.script.now in
    λ t x. words_are bs (bytes-are bs (λ i. (c.type_inv.script i).fits)) t x _ _ _ _ _
    (le_of_eq c.empty_chains.ensures.long) c.requires c.block.ensures.written

pub block-requires : goal.block-requires
block-requires c = search (rules, none-noted)
