-- A place as the code gives it, and several pairs looked at together.
use Rattle.std.specs.Prelude.{ℕ, zero, suc, ◌+◌, Bool, false, ◌||◌, List, ℤ, Option as PairPlaces, Some, None}
use Rattle.std.proofs.Math.Option.{Option, none, some}
use Rattle.laws.specs.Tables.{pair_is}

-- where a pair stands, counted in pairs from 0
abbrev pub PairPlace : Type 0
PairPlace = PairPlaces ℕ

unfoldable pub placed : Option ℕ → PairPlace
placed none = None
placed (some i) = Some i

-- whether (g, m) is one of the k pairs from place i on
unfoldable pub among_pairs : ℤ → ℤ → ℕ → ℕ → List ℤ → Bool
among_pairs g m i zero ws = false
among_pairs g m i (suc k) ws = among_pairs g m i k ws || pair_is g m (i + k) ws
