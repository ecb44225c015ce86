-- Samples of numbers, passers and searches, each computed. docs/READINGS.md has the wrong readings that they rule out.
use Rattle.std.specs.Prelude.{ℕ, Bool, true, false, List, [], ◌∷◌, map, ◌≡◌, refl, length}
use Rattle.std.proofs.Math.Option.{Option, none, some}
use Rattle.language.specs.Basics.{up_from}
use Rattle.language.specs.Encoding.{bytes_of, BK-mark, VR-mark, LB-mark, PR-mark, FM-mark, CL-mark, IF-mark, KN-mark}
use Rattle.language.specs.Check.{Checked, accepted, refused, check}
use Rattle.language.specs.Samples.{script-B, script-crossed}
use Rattle.language.specs.Evaluation.{computed}
use Rattle.frames.specs.Frame.{Frame}
use Rattle.coordinates.specs.Enclosure.{Enclosure}
use Rattle.coordinates.specs.Chain.{enclosure_of, level_of}
use Rattle.coordinates.proofs.Index.{index_of, index_block}
use Rattle.coordinates.specs.Made.{passed}
use Rattle.coordinates.proofs.Examples.{frames_after, framed}
use Rattle.f_search.specs.Numbers.{first_number, introduces, number_of, entry_numbers, index_numbers, numbers_of}
use Rattle.f_search.specs.Passers.{call_in, call_of, call_for, formal_at, formal_of, argument_for, passer_within, passer, through, passer_of}
use Rattle.f_search.specs.Search.{onward, search_within, search, searched, shallower, encloser_sought}

-- procedure 2 is declared in the program, written as an argument in 3's body, handed on in 4's and called in 5's
unfoldable two-formals : List ℕ
two-formals =
    bytes_of
    (BK-mark ∷ 5 ∷ 1 ∷ VR-mark ∷ 1 ∷ PR-mark ∷ 2 ∷ 0 ∷ BK-mark ∷ 0 ∷ 1 ∷ KN-mark ∷ 1 ∷ 8 ∷ 0 ∷ PR-mark ∷ 3 ∷ 0 ∷ BK-mark ∷ 0 ∷ 1 ∷ CL-mark ∷ 4 ∷ 1 ∷ 2 ∷ PR-mark ∷ 4 ∷ 1 ∷ FM-mark ∷ 6 ∷ 2 ∷ BK-mark ∷ 0 ∷ 1 ∷ CL-mark ∷ 5 ∷ 1 ∷ 6 ∷ PR-mark ∷ 5 ∷ 1 ∷ FM-mark ∷ 7 ∷ 2 ∷ BK-mark ∷ 0 ∷ 1 ∷ CL-mark ∷ 7 ∷ 0 ∷ CL-mark ∷ 3 ∷ 0 ∷ [])

-- procedure 1 declares variable 4 and procedure 5, which sets 4 and calls 1's formal 2. The first activation of 1 is handed 7 and hands 5 to the second,
-- that one hands its formal on to the third, and the third calls it
unfoldable three-of-one : List ℕ
three-of-one =
    bytes_of
    (BK-mark ∷ 4 ∷ 1 ∷ VR-mark ∷ 8 ∷ VR-mark ∷ 9 ∷ PR-mark ∷ 7 ∷ 0 ∷ BK-mark ∷ 0 ∷ 0 ∷ PR-mark ∷ 1 ∷ 1 ∷ FM-mark ∷ 2 ∷ 2 ∷ BK-mark ∷ 4 ∷ 7 ∷ VR-mark ∷ 4 ∷ PR-mark ∷ 5 ∷ 0 ∷ BK-mark ∷ 0 ∷ 2 ∷ KN-mark ∷ 4 ∷ 6 ∷ 0 ∷ CL-mark ∷ 2 ∷ 0 ∷ LB-mark ∷ 10 ∷ 7 ∷ LB-mark ∷ 11 ∷ 5 ∷ IF-mark ∷ 9 ∷ 10 ∷ IF-mark ∷ 8 ∷ 11 ∷ KN-mark ∷ 8 ∷ 1 ∷ 0 ∷ CL-mark ∷ 1 ∷ 1 ∷ 5 ∷ KN-mark ∷ 9 ∷ 1 ∷ 0 ∷ CL-mark ∷ 1 ∷ 1 ∷ 2 ∷ CL-mark ∷ 2 ∷ 0 ∷ CL-mark ∷ 1 ∷ 1 ∷ 7 ∷ [])

-- Numbers

unfoldable numbers_in : Checked → List ℕ
numbers_in (accepted t) = numbers_of t
numbers_in (refused c o) = []

-- which of some numbers the innermost block of an enclosure introduces
unfoldable introduced_in : List ℕ → Enclosure → List Bool
introduced_in xs [] = []
introduced_in xs (e ∷ es) = map (introduces e) xs

-- A name in the text of a frame: its number, the frame found and the designator.
pub record Found : Type 0 where
  pub number : ℕ
  pub frame : Option ℕ
  pub designator : ℕ

unfoldable find : List Frame → ℕ → ℕ → Found
find fs k n = let x = number_of (enclosure_of fs k) n in record { number = x; frame = search fs k x; designator = searched fs k x }

-- F of each frame, where the search goes on after each, the encloser sought for each, and some names sought from frame k.
pub record Seen : Type 0 where
  pub passers : List (Option ℕ)
  pub onwards : List ℕ
  pub enclosers : List ℕ
  pub found : List Found

unfoldable look : ℕ → List ℕ → List Frame → Seen
look k ns fs =
    let ks = up_from 1 (length fs) in
    record { passers = map (passer_of fs) ks; onwards = map (onward fs) ks; enclosers = map (encloser_sought fs) ks; found = map (find fs k) ns }

unfoldable seen : Unit {0}
unfolding computed framed script-B script-crossed two-formals three-of-one numbers_in introduced_in find look index_of index_block passed first_number introduces number_of up_from entry_numbers index_numbers numbers_of call_in call_of call_for formal_at formal_of argument_for passer_within passer through passer_of onward search_within search searched shallower level_of encloser_sought
seen = tt

-- the program's three names; a formal and three declarations of procedure 3, whose BK is word 17
numbers-B : numbers_in (check script-B) ≡ 0 ∷ 1 ∷ 2 ∷ 544 ∷ 545 ∷ 546 ∷ 547 ∷ []
unfolding seen
numbers-B = refl

introduced-B : introduced_in (543 ∷ 544 ∷ 547 ∷ 548 ∷ []) (enclosure_of (frames_after 9 (check script-B)) 2) ≡ false ∷ true ∷ true ∷ false ∷ []
unfolding seen
introduced-B = refl

-- the formals 1 and 2 hide the program's variables, and stand for them crossed
search-crossed : look 2 (1 ∷ 2 ∷ 3 ∷ []) (frames_after 1 (check script-crossed))
    ≡ record { passers = none ∷ none ∷ []; onwards = 0 ∷ 1 ∷ []; enclosers = 0 ∷ 1 ∷ []; found = record { number = 512; frame = some 2; designator = 66 } ∷ record { number = 513; frame = some 2; designator = 65 } ∷ record { number = 2; frame = some 1; designator = 67 } ∷ [] }
unfolding seen
search-crossed = refl

-- Passers

-- procedure 6 of frame 2, handed to frame 3 and called there; 4 is frame 2's formal, 5 its variable
search-B : look 4 (4 ∷ 5 ∷ []) (frames_after 9 (check script-B))
    ≡ record { passers = none ∷ none ∷ none ∷ some 2 ∷ []; onwards = 0 ∷ 1 ∷ 2 ∷ 2 ∷ []; enclosers = 0 ∷ 1 ∷ 1 ∷ 2 ∷ []; found = record { number = 544; frame = some 2; designator = 66 } ∷ record { number = 545; frame = some 2; designator = 130 } ∷ [] }
unfolding seen
search-B = refl

-- frame 5 goes on from frame 2: neither where the procedure is declared (1), nor the last passer (3), nor the caller (4)
search-two-formals : look 5 (1 ∷ []) (frames_after 4 (check two-formals))
    ≡ record { passers = none ∷ none ∷ none ∷ none ∷ some 2 ∷ []; onwards = 0 ∷ 1 ∷ 2 ∷ 3 ∷ 2 ∷ []; enclosers = 0 ∷ 1 ∷ 1 ∷ 1 ∷ 1 ∷ []; found = record { number = 0; frame = some 1; designator = 65 } ∷ [] }
unfolding seen
search-two-formals = refl

-- frames 2 to 4 run one body: from frame 5 names lead to the first of them, which encloses it and is not the newest; so does 2, by which frame 6 was entered: the program passed 7
search-three-of-one : look 5 (4 ∷ 2 ∷ []) (frames_after 13 (check three-of-one))
    ≡ record { passers = none ∷ none ∷ none ∷ none ∷ some 2 ∷ some 1 ∷ []; onwards = 0 ∷ 1 ∷ 2 ∷ 3 ∷ 2 ∷ 1 ∷ []; enclosers = 0 ∷ 1 ∷ 1 ∷ 1 ∷ 2 ∷ 1 ∷ []; found = record { number = 609; frame = some 2; designator = 130 } ∷ record { number = 608; frame = some 2; designator = 67 } ∷ [] }
unfolding seen
search-three-of-one = refl
