-- The search (source 001, F16): number x sought from frame k is there if its block introduces x, and else it is sought from F(k), or from k - 1 where
-- there is no F(k). Along the same way lies the frame that encloses frame k: the first of a lower level.
use Rattle.std.specs.Prelude.{ℕ, zero, suc, pred, ◌-◌, true, false, List, ltb}
use Rattle.std.proofs.Math.Option.{Option, none, some}
use Rattle.frames.specs.Frame.{Frame, numbered, finally}
use Rattle.coordinates.specs.Chain.{enclosing, level_of}
use Rattle.coordinates.proofs.Coordinates.{instance_at}
use Rattle.f_search.specs.Numbers.{first_number, introduces}
use Rattle.f_search.specs.Passers.{passer_of}

-- where the search goes on after frame k
unfoldable pub onward : List Frame → ℕ → ℕ
onward fs k = elim (passer_of fs k) [ none ↦ pred k | some j ↦ j ]

-- the frame that introduces the number, m frames at most being asked
unfoldable pub search_within : ℕ → List Frame → ℕ → ℕ → Option ℕ
search_within zero fs k x = none
search_within (suc m) fs k x =
    elim (numbered fs k) [
      | none ↦ none
      | some f ↦ elim (introduces (enclosing f) x) [ true ↦ some k | false ↦ search_within m fs (onward fs k) x ]
    ]

-- each frame asked is further out than the one before
unfoldable pub search : List Frame → ℕ → ℕ → Option ℕ
search fs k x = search_within k fs k x

-- the instance that a number leads to from frame k, by its designator: a formal's is what its word says; 0 where nothing is found
unfoldable pub searched : List Frame → ℕ → ℕ → ℕ
searched fs k x =
    elim (search fs k x) [
      | none ↦ 0
      | some j ↦ elim (numbered fs j) [ none ↦ 0 | some f ↦ finally fs (instance_at j (suc (x - first_number (enclosing f))) 0) ]
    ]

-- Enclosers

-- from frame j on the first frame whose level is below v, m frames at most being asked
unfoldable pub shallower : ℕ → List Frame → ℕ → ℕ → ℕ
shallower zero fs v j = 0
shallower (suc m) fs v j = elim (ltb (level_of fs j) v) [ true ↦ j | false ↦ shallower m fs v (onward fs j) ]

-- the frame that encloses frame k, 0 for the program. Levels are counted along the links here; an engine has them from the script, and needs no link.
unfoldable pub encloser_sought : List Frame → ℕ → ℕ
encloser_sought fs k = shallower k fs (level_of fs k) (onward fs k)
