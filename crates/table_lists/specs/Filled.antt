-- Places in words with zeros up to n words, both ways in which they are written.
use Rattle.std.specs.Prelude.{ℕ, ◌-◌, ◌≡◌, List, ◌++◌, map, pos, length, replicate}
use Rattle.std.proofs.Math.Path.{ap}
use Rattle.std.proofs.Math.ListN.{length-map}
use Rattle.language.specs.Groups.{filled}
use Rattle.table_laws.specs.RightLists.{placed}

pub filled-placed : (n : ℕ) (ps : List ℕ) → filled n (map pos ps) ≡ placed ps (n - length ps)
unfolding filled
filled-placed n ps = ap (λ (k : ℕ). map pos ps ++ replicate (n - k) (pos 0)) (length-map ps pos)
