-- A declared name of the level, a formal of it, and any other.
use Rattle.std.proofs.Common.{arith}
use Rattle.copy_texts.proofs.Renewing.{is-direct, is-formal, noted-new, noted-formal, noted_other}
use Rattle.copy_texts.proofs.note.Goals as goal

pub returns-then-formal_of-eq0 : goal.returns-then-formal_of-eq0
returns-then-formal_of-eq0 c =
    rw (c.position_of.ensures.0, c.target_of.ensures) (noted-new _ _ _ _ (omega arith) (is-direct _ (omega arith)))

pub returns-else-formal_of-eq0 : goal.returns-else-formal_of-eq0
returns-else-formal_of-eq0 c = noted-formal _ _ _ _ (is-formal _ (λ e. omega arith))

pub returns-else-level_of-level : goal.returns-else-level_of-level
returns-else-level_of-level c = noted_other _ _ _ _ (λ e. omega arith)
