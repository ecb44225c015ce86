-- `looked_up` meets its contract.
use Rattle.std.proofs.Common.{arith}
use Rattle.display_run.specs.Looked.{word-within, not_seen, seen-reached, seen-cell, seen-designates}
use Rattle.display_run.proofs.run.looked_up.Goals as goal

pub code_at-word-requires : goal.code_at-word-requires
code_at-word-requires c = omega (arith, word-within c.requires)

pub returns-then-word-eq0 : goal.returns-then-word-eq0
returns-then-word-eq0 c = λ w. search not_seen

pub cell-requires : goal.cell-requires
cell-requires c = search seen-reached

pub designator_of-requires : goal.designator_of-requires
designator_of-requires c = search seen-cell

pub returns : goal.returns
returns c = λ w. search seen-designates
