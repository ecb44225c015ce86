-- The resolved script of sample script B, with 5 as the looked-up name, written out by hand from the script's fields. A line for each record:
-- the program and its variable 1, procedure 2, procedure 3 with its formal 4, variable 5, procedure 6, label 7 and statements, and the program's call.
use Rattle.std.specs.Prelude.{ℕ, ◌+◌, ◌*◌, List, [], ◌∷◌, ◌≡◌, refl}
use Rattle.language.specs.Check.{Checked, accepted, refused, check}
use Rattle.language.specs.Samples.{script-B}
use Rattle.language.specs.Evaluation.{computed}
use Rattle.coordinates.specs.Enclosure.{names_of}
use Rattle.resolved.specs.Resolved.{end_place, stmt_place, packed, decl_target, decl_kind_field, formal_words, decl_words, own_words, visible_words, name_word, direct, chosen, resolved_action, head_word, bounds_word, header, resolved_formals, resolved_block, resolved_of}

resolved_from : ℕ → Checked → List ℕ
resolved_from name (accepted t) = resolved_of name t
resolved_from name (refused c o) = []

sample-B : resolved_from 5 (check script-B)
    ≡
    -- level 1, no formals, three names; it ends at 61 and its first statement stands at 57; name 5 is not visible in it
    (6 + 256 * 1 + 16777216 * 3) ∷ (61 + 65536 * 57) ∷ 0 ∷
    0 ∷ (256 * 1) ∷
    0 ∷ (1 + 64 * 2 + 256 * 1 + 65536 * 8) ∷ 0 ∷
    -- the body of procedure 2 at place 8: no statement, so the first one stands at the end
    (6 + 256 * 2) ∷ (11 + 65536 * 11) ∷ 0 ∷
    0 ∷ (2 + 64 * 2 + 256 * 1 + 65536 * 17) ∷ 0 ∷
    0 ∷ 0 ∷ 2 ∷
    -- the body of procedure 3 at place 17: one formal among four names; name 5 is its second
    (6 + 256 * 2 + 65536 * 1 + 16777216 * 4) ∷ (57 + 65536 * 35) ∷ (1 + 256 * 2) ∷
    0 ∷ (1 + 256 * 2) ∷
    0 ∷ (2 + 64 * 2 + 256 * 2 + 65536 * 25) ∷ 0 ∷
    -- the body of procedure 6 at place 25, which sets name 5 of the block around it
    (6 + 256 * 3) ∷ (32 + 65536 * 28) ∷ (1 + 256 * 2) ∷
    0 ∷ (1 + 256 * 2) ∷ 9 ∷ 0 ∷
    0 ∷ (3 + 64 * 1 + 256 * 2 + 65536 * 50) ∷ 0 ∷
    -- label 7 leads to the fifth statement, at place 50
    4 ∷ (3 + 64 * 1 + 256 * 2 + 65536 * 50) ∷ (256 * 1) ∷
    0 ∷ (256 * 1) ∷ 1 ∷ 0 ∷
    0 ∷ (1 + 256 * 2) ∷ 1 ∷ 0 ∷
    7 ∷ (2 + 64 * 2 + 256 * 1 + 65536 * 17) ∷ 1 ∷ (2 + 64 * 2 + 256 * 2 + 65536 * 25) ∷
    0 ∷ (1 + 256 * 2) ∷ 2 ∷ 0 ∷
    -- name 4 is a formal
    15 ∷ (32 * 1 + 64 * 2 + 256 * 2) ∷ 0 ∷
    7 ∷ (2 + 64 * 2 + 256 * 1 + 65536 * 17) ∷ 1 ∷ (1 + 64 * 2 + 256 * 1 + 65536 * 8) ∷ []
unfolding resolved_from computed script-B names_of end_place stmt_place packed decl_target decl_kind_field formal_words decl_words own_words visible_words name_word direct chosen resolved_action head_word bounds_word header resolved_formals resolved_block resolved_of
sample-B = refl
