-- `name_designator` meets its contract.
use Rattle.std.proofs.Common.{sym, ◌∙◌, arith}
use Rattle.run_sheet.specs.Named.{looked-up-none, designator-direct, held_whole, designator-formal}
use Rattle.run_sheet.proofs.Values.{read_back}
use Rattle.run_sheet.proofs.name_designator.Goals as goal

pub returns-then-word-eq0 : goal.returns-then-word-eq0
returns-then-word-eq0 c = sym (looked-up-none _ _ _ c.if-word-eq0.true)

pub returns-then-formal_of-eq0 : goal.returns-then-formal_of-eq0
returns-then-formal_of-eq0 c =
    designator-direct _ _ _ c.if-word-eq0.false c.formal_of.ensures.0 c.position_of.ensures.0 c.if-formal_of-eq0.true c.designator_of.ensures.0

pub whole-requires : goal.whole-requires
whole-requires c =
    held_whole _ _ _ c.if-word-eq0.false c.formal_of.ensures.0 c.position_of-2.ensures.0 c.if-formal_of-eq0.false (c.requires c.if-word-eq0.false)
    (read_back _ (omega arith))

pub returns : goal.returns
returns c =
    designator-formal _ _ _ c.if-word-eq0.false c.formal_of.ensures.0 c.position_of-2.ensures.0 c.if-formal_of-eq0.false
    (sym (read_back _ (omega arith)) ∙ c.whole.ensures.0) c.cell_of.ensures.0 c.designator_of-2.ensures.0
