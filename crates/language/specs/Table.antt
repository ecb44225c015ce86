-- Bounds and One step: the membership table. Two words make a pair, first its group, and the pairs in use come first.
use Rattle.std.specs.Prelude.{ℕ, zero, suc, ◌*◌, ◌%◌, Bool, true, false, not, ◌&&◌, cond, List, [], ◌∷◌, ◌++◌, eqb, leb, ltb, ℤ, pos, length, take, drop, set}
use Rattle.std.proofs.Math.Option.{Option, none, some}
use Rattle.std.specs.Int.Signed.{le_z}
use Rattle.language.specs.Basics.{eq_z}
use Rattle.language.specs.declared.Stop.{Stop}
use Rattle.language.specs.declared.Stop.TheVariants.{NumberBelowOne, GroupFull, TableFull}

pub record Table : Type 0 where
  pub words : List ℤ
  pub used : ℕ

-- the place of a pair among the first k, from 0
unfoldable pub find : ℤ → ℤ → ℕ → List ℤ → Option ℕ
find g m zero ws = none
find g m (suc k) [] = none
find g m (suc k) (a ∷ []) = none
find g m (suc k) (a ∷ b ∷ ws) =
    elim (eq_z a g && eq_z b m) [ true ↦ some 0 | false ↦ elim (find g m k ws) [ none ↦ none | some i ↦ some (suc i) ] ]

unfoldable pub is_some : Option ℕ → Bool
is_some none = false
is_some (some i) = true

unfoldable pub holds : ℤ → ℤ → Table → Bool
holds g m t = is_some (find g m t.used t.words)

-- how many of the first k pairs are of group g
unfoldable pub members : ℤ → ℕ → List ℤ → ℕ
members g zero ws = 0
members g (suc k) [] = 0
members g (suc k) (a ∷ []) = 0
members g (suc k) (a ∷ b ∷ ws) = elim (eq_z a g) [ true ↦ suc (members g k ws) | false ↦ members g k ws ]

unfoldable pub size : ℤ → Table → ℕ
size g t = members g t.used t.words

unfoldable pub at_least_one : ℤ → Bool
at_least_one z = le_z (pos 1) z

-- of the first k pairs: no number is below 1
unfoldable pub numbers_right : ℕ → List ℤ → Bool
numbers_right zero ws = true
numbers_right (suc k) [] = true
numbers_right (suc k) (a ∷ []) = true
numbers_right (suc k) (a ∷ b ∷ ws) = at_least_one a && at_least_one b && numbers_right k ws

-- of the first k pairs: none stands again among those after it
unfoldable pub none_twice : ℕ → List ℤ → Bool
none_twice zero ws = true
none_twice (suc k) [] = true
none_twice (suc k) (a ∷ []) = true
none_twice (suc k) (a ∷ b ∷ ws) = not (is_some (find a b k ws)) && none_twice k ws

-- of the first k pairs: the group of each has at most limit members in the table
unfoldable pub groups_within : ℕ → Table → ℕ → List ℤ → Bool
groups_within limit t zero ws = true
groups_within limit t (suc k) [] = true
groups_within limit t (suc k) (a ∷ []) = true
groups_within limit t (suc k) (a ∷ b ∷ ws) = leb (size a t) limit && groups_within limit t k ws

-- Rightness, under Bounds: whole pairs, a count within them, and of the pairs in use the three properties above.
unfoldable pub right : ℕ → Table → Bool
right limit t =
    eqb (length t.words % 2) 0 && leb (2 * t.used) (length t.words) && numbers_right t.used t.words &&
    none_twice t.used t.words && groups_within limit t t.used t.words

-- no place is left for one pair more
unfoldable pub full : Table → Bool
full t = ltb (length t.words) (2 * suc t.used)

-- the pair added at the end
unfoldable pub add : ℤ → ℤ → Table → Table
add g m t = record { words = set (set t.words (2 * t.used) g) (suc (2 * t.used)) m; used = suc t.used }

-- the pair at place i of k taken out: those after it close the gap, and zeros take the place that they leave
unfoldable pub take_out : ℕ → ℕ → List ℤ → List ℤ
take_out i zero ws = ws
take_out i (suc k) [] = []
take_out i (suc k) (a ∷ []) = a ∷ []
take_out zero (suc k) (a ∷ b ∷ ws) = take (2 * k) ws ++ (pos 0 ∷ pos 0 ∷ drop (2 * k) ws)
take_out (suc i) (suc k) (a ∷ b ∷ ws) = a ∷ b ∷ take_out i k ws

unfoldable pub fewer : ℕ → ℕ
fewer zero = zero
fewer (suc k) = k

-- the same table where the pair is not in it
unfoldable pub remove : ℤ → ℤ → Table → Table
remove g m t =
    elim (find g m t.used t.words) [
      | none ↦ t
      | some i ↦ record { words = take_out i t.used t.words; used = fewer t.used }
    ]

-- AD and RM come to the table after them, or to the cause to stop.
pub data Effect : Type 0 where
  leaves : Table → Effect
  halts : Stop → Effect

-- QY comes to the value that it stores, or to the cause to stop.
pub data Asked : Type 0 where
  gives : ℤ → Asked
  refuses : Stop → Asked

-- AD: 23, 24 and 25 in this order, the last two for a pair not in the table alone, and all of them judged on the table as it was.
unfoldable pub added : ℕ → ℤ → ℤ → Table → Effect
added limit g m t =
    elim (at_least_one g && at_least_one m) [
      | false ↦ halts NumberBelowOne
      | true ↦ elim (holds g m t) [
        | true ↦ leaves t
        | false ↦ elim (leb limit (size g t)) [
          | true ↦ halts GroupFull
          | false ↦ elim (full t) [ true ↦ halts TableFull | false ↦ leaves (add g m t) ]
        ]
      ]
    ]

-- RM: 23, else the pair is in the table no more
unfoldable pub removed : ℤ → ℤ → Table → Effect
removed g m t = elim (at_least_one g && at_least_one m) [ false ↦ halts NumberBelowOne | true ↦ leaves (remove g m t) ]

-- QY: 23, else whether the table has the pair
unfoldable pub queried : ℤ → ℤ → Table → Asked
queried g m t =
    elim (at_least_one g && at_least_one m) [ false ↦ refuses NumberBelowOne | true ↦ gives (cond (holds g m t) (pos 1) (pos 0)) ]
