-- What a pass over a script's records writes of one record: a value for each of its names, so many places after the mark and so many after the second
-- field.
use Rattle.std.specs.Prelude.{ℕ, zero, suc, ◌+◌, true, false, List, [], ◌∷◌, ◌≡◌, eqb, get_or, set}
use Rattle.language.specs.Encoding.{BK-mark, CL-mark, IF-mark, AR-mark, AD-mark, RM-mark, QY-mark}

-- the word of the resolved script at a place, as the place's value
abbrev pub word_there : List ℕ → ℕ → ℕ
word_there code p = get_or code p 0

-- so many places from one on are given their values
unfoldable pub taken : (ℕ → ℕ) → List ℕ → ℕ → ℕ → List ℕ
taken value words from zero = words
taken value words from (suc k) = taken value (set words from (value from)) (from + 1) k

-- the values from a place on
abbrev pub Gives : (ℕ → ℕ) → ℕ → List ℕ → Type 0
Gives value p [] = Unit {0}
Gives value p (w ∷ ws) = (value p ≡ w) × Gives value (p + 1) ws

-- how many names stand right after a record's mark; a formal's is one whose word is 0
unfoldable pub leading : ℕ → ℕ
leading m =
    elim (eqb m BK-mark) [
      | true ↦ 0
      | false ↦ elim (eqb m QY-mark) [
        | true ↦ 3
        | false ↦ elim (eqb m AD-mark) [
          | true ↦ 2
          | false ↦ elim (eqb m RM-mark) [
            | true ↦ 2
            | false ↦ elim (eqb m IF-mark) [
              | true ↦ 2
              | false ↦ 1
            ]
          ]
        ]
      ]
    ]

-- how many stand after the second field, which of a CL is a
unfoldable pub trailing : ℕ → ℕ → ℕ
trailing m a = elim (eqb m AR-mark) [ true ↦ 2 | false ↦ elim (eqb m CL-mark) [ true ↦ a | false ↦ 0 ] ]
