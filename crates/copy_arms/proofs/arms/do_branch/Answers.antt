-- `do_branch` meets its contract.
use Rattle.std.proofs.Common.{◌+◌, ◌∙◌, arith}
use Rattle.run_statements.specs.Words.{is_zero, not-zero}
use Rattle.copy_arms.proofs.Results.{stays, goes}
use Rattle.copy_arms.proofs.arms.do_branch.Goals as goal

pub returns-then-cells-named-eq0 : goal.returns-then-cells-named-eq0
returns-then-cells-named-eq0 c =
    stays c.args.cells.now (c.args.at + 3) _ c.named.ensures (is_zero _ (omega arith) c.if-cells-named-eq0.true)

pub returns : goal.returns
returns c =
    c.do_goto.ensures ∙ goes c.args.cells.now (c.args.at + 3) _ c.named.ensures (not-zero _ (omega arith) c.if-cells-named-eq0.false)
