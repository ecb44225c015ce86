-- Request 3: the list of groups beside the membership table. Two words make a place, a group and the number of its members; a place that is
-- not in use is 0, 0. `list_right` says what a list must be, one property after the other, and `group_list` computes the list of a table.
use Rattle.std.specs.Prelude.{ℕ, zero, suc, ◌*◌, ◌-◌, ◌/◌, Bool, true, false, not, ◌&&◌, ◌||◌, List, [], ◌∷◌, ◌++◌, leb, ℤ, pos, ◌+ℤ◌, length, take, drop, replicate}
use Rattle.std.specs.Int.Signed.{lt_z}
use Rattle.language.specs.Basics.{eq_z}
use Rattle.language.specs.Table.{Table, size}

-- how many words are needed: as many places as the table has room for pairs
unfoldable pub list_words : Table → ℕ
list_words t = 2 * (length t.words / 2)

-- 13: the words needed are lent; what lies past them is not looked at
unfoldable pub list_fits : Table → List ℤ → Bool
list_fits t ws = leb (list_words t) (length ws)

-- What is right

-- a place of group 0 with members is in use, and `numbers_true` shuts it out
unfoldable pub in_use : ℤ → ℤ → Bool
in_use g n = not (eq_z g (pos 0) && eq_z n (pos 0))

-- each place in use has a group above g
unfoldable pub all_above : ℤ → List ℤ → Bool
all_above g [] = true
all_above g (a ∷ []) = true
all_above g (a ∷ n ∷ ws) = (not (in_use a n) || lt_z g a) && all_above g ws

-- groups rise
unfoldable pub groups_rise : List ℤ → Bool
groups_rise [] = true
groups_rise (a ∷ []) = true
groups_rise (a ∷ n ∷ ws) = (not (in_use a n) || all_above a ws) && groups_rise ws

-- no group has 0 members
unfoldable pub none_empty : List ℤ → Bool
none_empty [] = true
none_empty (a ∷ []) = true
none_empty (a ∷ n ∷ ws) = (not (in_use a n) || not (eq_z n (pos 0))) && none_empty ws

unfoldable pub none_in_use : List ℤ → Bool
none_in_use [] = true
none_in_use (a ∷ []) = true
none_in_use (a ∷ n ∷ ws) = not (in_use a n) && none_in_use ws

-- the places that are not in use come last
unfoldable pub unused_last : List ℤ → Bool
unused_last [] = true
unused_last (a ∷ []) = true
unused_last (a ∷ n ∷ ws) = (in_use a n || none_in_use ws) && unused_last ws

-- each number is a full count of its group
unfoldable pub numbers_true : Table → List ℤ → Bool
numbers_true t [] = true
numbers_true t (a ∷ []) = true
numbers_true t (a ∷ n ∷ ws) = eq_z n (pos (size a t)) && numbers_true t ws

-- what the list says of a group: its number, and 0 where the group has no place
unfoldable pub number_of : ℤ → List ℤ → ℤ
number_of g [] = pos 0
number_of g (a ∷ []) = pos 0
number_of g (a ∷ n ∷ ws) = elim (eq_z a g) [ true ↦ n | false ↦ number_of g ws ]

-- of the first k pairs: the list says of each one's group what a full count says
unfoldable pub groups_there : Table → ℕ → List ℤ → List ℤ → Bool
groups_there t zero ps ws = true
groups_there t (suc k) [] ws = true
groups_there t (suc k) (a ∷ []) ws = true
groups_there t (suc k) (a ∷ b ∷ ps) ws = eq_z (number_of a ws) (pos (size a t)) && groups_there t k ps ws

-- 14: of the words needed, the four properties; the last, that numbers are full counts, is said of each place and of each pair's group
unfoldable pub list_right : Table → List ℤ → Bool
list_right t ws =
    let l = take (list_words t) ws in
    groups_rise l && none_empty l && unused_last l && numbers_true t l && groups_there t t.used t.words l

-- The list of a table

-- one member more of group g, in a list whose groups rise
unfoldable pub raise : ℤ → List ℤ → List ℤ
raise g [] = g ∷ pos 1 ∷ []
raise g (a ∷ []) = g ∷ pos 1 ∷ []
raise g (a ∷ n ∷ ws) =
    elim (eq_z a g) [
      | true ↦ a ∷ (n +ℤ pos 1) ∷ ws
      | false ↦ elim (lt_z g a) [ true ↦ g ∷ pos 1 ∷ a ∷ n ∷ ws | false ↦ a ∷ n ∷ raise g ws ]
    ]

-- the groups of the first k pairs, each with its number
unfoldable pub tallied : ℕ → List ℤ → List ℤ
tallied zero ps = []
tallied (suc k) [] = []
tallied (suc k) (a ∷ []) = []
tallied (suc k) (a ∷ b ∷ ps) = raise a (tallied k ps)

-- n words: those given, and zeros
unfoldable pub filled : ℕ → List ℤ → List ℤ
filled n ws = ws ++ replicate (n - length ws) (pos 0)

unfoldable pub group_list : Table → List ℤ
group_list t = filled (list_words t) (tallied t.used t.words)

-- a lent list with that of the table in it, and past the words needed what was there
unfoldable pub relisted : Table → List ℤ → List ℤ
relisted t ws = group_list t ++ drop (list_words t) ws
