-- A word that is none of the level's, a formal's, and another name's.
use Rattle.std.proofs.Common.{◌+◌, ◌<◌, length, arith, rules}
use Rattle.copy_texts.proofs.Renewing.{is-direct, is-formal, renewed-kept, renewed-new, renewed-formal}
use Rattle.copy_texts.proofs.renew.Goals as goal
use Rattle.copy_texts.proofs.renew.Goals.{After-position_of}

pub returns-then-level_of-level : goal.returns-then-level_of-level
returns-then-level_of-level c = renewed-kept _ _ _ _ _ _ (λ e. omega arith)

-- the argument of a formal is there
there : (c : After-position_of) → c.args.given + c.position_of.result < length c.args.area.now
there c = rw c.position_of.ensures.0 (c.requires.argument (omega arith) (is-formal _ (λ e. omega arith)))

pub overflow_add-result : goal.overflow_add-result
overflow_add-result c = let h = there c in search rules

pub offset_bounds-area-given : goal.offset_bounds-area-given
offset_bounds-area-given c = let h = there c in search rules

pub bounds-area-given : goal.bounds-area-given
bounds-area-given c = rw c.position_of.ensures.0 (c.requires.argument (omega arith) (is-formal _ (λ e. omega arith)))

pub returns-then-formal_of-eq1 : goal.returns-then-formal_of-eq1
returns-then-formal_of-eq1 c = rw c.position_of.ensures.0 (renewed-formal _ _ _ _ _ _ (omega arith) (is-formal _ (λ e. omega arith)))

pub returns : goal.returns
returns c = rw c.position_of-2.ensures.0 (renewed-new _ _ _ _ _ _ (omega arith) (is-direct _ (omega arith)))
