use Rattle.std.proofs.Common.{◌+◌, ◌∙◌, sym, arith}
use Rattle.table_slots.proofs.Passes.{first-in}
use Rattle.table_slots.proofs.probe.Goals as goal

-- a slot in use has a place of the table
pub same_key-requires-clause-j_in_bounds : goal.same_key-requires-clause-j_in_bounds
same_key-requires-clause-j_in_bounds c =
    let q = c.args.slot + c.loop-t.t in
    omega (arith, c.if-f-eq0.false, c.place_in-f.ensures ∙ sym (first-in c.args.slots.now q), c.requires.by_index q)
