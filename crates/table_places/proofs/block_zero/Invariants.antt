-- The words other than 0 among those passed are counted.
use Rattle.std.proofs.Common.{◌≡◌, ◌≤◌, take, eqb}
use Rattle.table_places.specs.Places.{all_zero}
use Rattle.table_places.proofs.block_zero.Given as goal

abbrev pub invariant-loop-word : goal.invariant-loop-word
invariant-loop-word l = record { few : l.others ≤ l.word-index; so_far : eqb l.others 0 ≡ all_zero (take l.word-index l.block) }
