-- `check_extents::ends::note` meets its contract. Assumes nothing.
use Prim.Native.Nat.{◌/◌}
use native.Mathlib.Omega.{arith}
use Rattle.check_extents.proofs.Noting.{ends-noted}
use Rattle.check_extents.proofs.ends.note.Goals as goal

pub returns : goal.returns
returns c =
    let a = c.args in
    λ bs s e. ends-noted bs a.ends.now a.at a.end (a.at / 12) (omega (arith, c.requires.1)) (omega (arith, c.if-end-gt65535.false)) s e
