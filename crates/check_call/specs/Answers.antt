-- The words of the check's answer.
use Rattle.std.specs.Prelude.{ℕ, List, [], ◌∷◌}
use Rattle.language.specs.Numbers.{refusal_number}
use Rattle.language.specs.Check.{Checked, accepted, refused}

-- the refusal's number, 0 where the script is accepted, and its offset
unfoldable pub check_words : Checked → List ℕ
check_words (accepted t) = 0 ∷ 0 ∷ []
check_words (refused c o) = refusal_number c ∷ o ∷ []
