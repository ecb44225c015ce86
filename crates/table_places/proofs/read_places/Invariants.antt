-- What is left comes to what the whole list comes to.
use Rattle.std.proofs.Common.{◌≡◌, ◌*◌, drop}
use Rattle.table_places.specs.Places.{read_places}
use Rattle.table_places.proofs.read_places.Given as goal

abbrev pub invariant-loop-k : goal.invariant-loop-k
invariant-loop-k l = read_places l.limit l.last l.left l.k (drop (2 * l.k) l.list) ≡ read_places l.limit 0 l.count 0 l.list
