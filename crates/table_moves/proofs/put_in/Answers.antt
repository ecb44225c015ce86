use Rattle.std.proofs.Common.{◌*◌, ◌-◌, arith}
use Rattle.std.proofs.Math.Facts.{to_z-of_z}
use Rattle.table_moves.proofs.PutIn.{put_in-written}
use Rattle.table_moves.proofs.put_in.Goals as goal

pub returns : goal.returns
returns c =
    let start = 2 * c.args.place in
    rw (to_z-of_z c.ranges.first, to_z-of_z c.ranges.second, c.copy_within.ensures.after)
    (put_in-written start (2 * c.args.count - start) c.args.first c.args.second c.args.table.now (omega arith))
