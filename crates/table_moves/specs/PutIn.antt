-- Two words put into a list.
use Rattle.std.specs.Prelude.{ℕ, zero, suc, ◌+◌, List, [], ◌∷◌, ◌++◌, ℤ, take, drop}

-- a and b put in at i: the n words from there on move up by two, the last of them over the two words after
unfoldable pub put_in : ℕ → ℕ → ℤ → ℤ → List ℤ → List ℤ
put_in zero n a b ws = a ∷ b ∷ (take n ws ++ drop (n + 2) ws)
put_in (suc i) n a b [] = []
put_in (suc i) n a b (w ∷ ws) = w ∷ put_in i n a b ws
