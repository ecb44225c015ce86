-- A script with a statement of each kind, with 2 as the looked-up name, and its number fields by hand, a line for each record. The program's names have
-- numbers 0 to 5; formal 2 of procedure 5, whose BK is word 20, has 640 and hides the program's.
use Rattle.std.specs.Prelude.{ℕ, List, [], ◌∷◌, ◌≡◌, refl}
use Rattle.language.specs.Encoding.{bytes_of, BK-mark, VR-mark, LB-mark, PR-mark, FM-mark, CL-mark, GO-mark, IF-mark, KN-mark, AR-mark, AD-mark, RM-mark, QY-mark}
use Rattle.language.specs.Check.{Checked, accepted, refused, check}
use Rattle.language.specs.Evaluation.{computed}
use Rattle.frames.specs.Frame.{position_from}
use Rattle.coordinates.specs.Enclosure.{names_of}
use Rattle.f_search.specs.Numbers.{first_number, number_of}
use Rattle.resolve_fields.specs.Walk.{formals_words, block_words}
use Rattle.search_numbers.specs.NumberFields.{numbered_action, numbered_of}

unfoldable each-statement : List ℕ
each-statement =
    bytes_of
    (BK-mark ∷ 6 ∷ 7 ∷ VR-mark ∷ 9 ∷ VR-mark ∷ 1 ∷ VR-mark ∷ 2 ∷ VR-mark ∷ 3 ∷ LB-mark ∷ 4 ∷ 1 ∷ PR-mark ∷ 5 ∷ 1 ∷ FM-mark ∷ 2 ∷ 0 ∷ BK-mark ∷ 0 ∷ 1 ∷ KN-mark ∷ 2 ∷ 6 ∷ 0 ∷ AR-mark ∷ 3 ∷ 0 ∷ 1 ∷ 2 ∷ IF-mark ∷ 1 ∷ 4 ∷ GO-mark ∷ 4 ∷ CL-mark ∷ 5 ∷ 1 ∷ 2 ∷ AD-mark ∷ 1 ∷ 2 ∷ RM-mark ∷ 2 ∷ 3 ∷ QY-mark ∷ 3 ∷ 1 ∷ 2 ∷ [])

unfoldable fields_numbered : ℕ → Checked → List ℕ
fields_numbered name (accepted t) = numbered_of name t
fields_numbered name (refused c o) = []

fields-numbered : fields_numbered 2 (check each-statement)
    ≡
    -- the program's BK has the number of its own 2, the body's that of the formal
    0 ∷ 0 ∷ 2 ∷
    0 ∷ 0 ∷
    0 ∷ 1 ∷
    0 ∷ 2 ∷
    0 ∷ 3 ∷
    0 ∷ 4 ∷ 0 ∷
    0 ∷ 5 ∷ 0 ∷
    0 ∷ 0 ∷ 0 ∷
    0 ∷ 0 ∷ 640 ∷
    0 ∷ 640 ∷ 0 ∷ 0 ∷
    0 ∷ 3 ∷ 0 ∷ 1 ∷ 2 ∷
    -- the label first, as in the resolved script
    0 ∷ 4 ∷ 1 ∷
    0 ∷ 4 ∷
    0 ∷ 5 ∷ 0 ∷ 2 ∷
    0 ∷ 1 ∷ 2 ∷
    0 ∷ 2 ∷ 3 ∷
    0 ∷ 3 ∷ 1 ∷ 2 ∷ []
unfolding computed each-statement fields_numbered position_from names_of first_number number_of numbered_action formals_words block_words numbered_of
fields-numbered = refl
