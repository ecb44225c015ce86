-- `resolve_script::walk::enter` meets its contract. Assumes nothing.
use native.Mathlib.Omega.{arith}
use Rattle.resolve_script.proofs.Blocks.{enters, declared-chained}
use Rattle.resolve_script.proofs.walk.enter.Goals as goal

pub insert-requires : goal.insert-requires
insert-requires c =
    let p = c.requires in
    let long = p.2.long in
    let room = p.0.room in
    (declared-chained _ _ _ _ _ _ _ _ _ _ p.1 c.declare-first.auto.entries c.declare-first.ensures p.2, p.1, omega arith, omega arith)

pub returns : goal.returns
returns c =
    let p = c.requires in
    enters _ _ _ _ _ _ _ p.0.d-read _ _ _ _ _ _ _ _ _ _ p.1 c.declare-first.ensures c.insert.ensures c.kinds.ensures c.named-looked.ensures.0
    c.head_word-head.ensures c.put_all.ensures
