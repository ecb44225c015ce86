-- `resolve_names::declare` meets its contract. Assumes nothing.
use Rattle.resolve_names.proofs.Own.{declares}
use Rattle.resolve_names.proofs.declare.Goals as goal

pub returns : goal.returns
returns c =
    let p = c.requires in
    declares _ _ _ _ _ _ _ _ _ _ _ _ _ _ _ p.d-read p.s_read p.starts c.places-first.auto.starts c.note_statements.auto.starts p.room
    c.places-first.ensures c.note_statements.ensures c.push_own.ensures
