-- The groups passed have taken one each.
use Rattle.std.proofs.Common.{◌≡◌, length, take}
use Rattle.table_blocks.specs.Blocks.{Taken}
use Rattle.table_blocks.proofs.lower_block.Given as goal

abbrev pub invariant-loop-group : goal.invariant-loop-group
invariant-loop-group l =
    record {
      long : length l.lefts ≡ length l.fn.lefts;
      taken : Taken l.places (take l.group-index l.block) l.fn.lefts l.lefts;
    }
