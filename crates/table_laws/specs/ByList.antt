-- AD and RM as they go by the list of groups: how large a group is the list says, and where it says 0 no pair is looked at. No member is counted.
-- `lowered`: the list with one member less of a group. What they come to beside a right list stands in proofs/ByList.antt.
use Rattle.std.specs.Prelude.{ℕ, true, false, ◌&&◌, List, [], ◌∷◌, pos, ◌-ℤ◌, take}
use Rattle.std.proofs.Math.Bool.{not}
use Rattle.std.proofs.Math.IntN.{ℤ}
use Rattle.std.specs.Int.Signed.{le_z}
use Rattle.language.specs.Basics.{eq_z}
use Rattle.language.specs.Table.{Table, Effect, leaves, halts, holds, at_least_one, full, add, remove, added}
use Rattle.language.specs.Groups.{list_words, number_of}
use Rattle.language.specs.declared.Stop.TheVariants.{NumberBelowOne, GroupFull, TableFull}

-- what the words needed say of a group
unfoldable pub listed : ℤ → Table → List ℤ → ℤ
listed g t ws = number_of g (take (list_words t) ws)

-- AD: 23, 24 and 25 as in `added`
unfoldable pub added_by_list : ℕ → ℤ → ℤ → Table → List ℤ → Effect
added_by_list limit g m t ws =
    elim (at_least_one g && at_least_one m) [
      | false ↦ halts NumberBelowOne
      | true ↦ elim (not (eq_z (listed g t ws) (pos 0)) && holds g m t) [
        | true ↦ leaves t
        | false ↦ elim (le_z (pos limit) (listed g t ws)) [
          | true ↦ halts GroupFull
          | false ↦ elim (full t) [ true ↦ halts TableFull | false ↦ leaves (add g m t) ]
        ]
      ]
    ]

-- RM: 23, else the table stays where the group is not there
unfoldable pub removed_by_list : ℤ → ℤ → Table → List ℤ → Effect
removed_by_list g m t ws =
    elim (at_least_one g && at_least_one m) [
      | false ↦ halts NumberBelowOne
      | true ↦ elim (eq_z (listed g t ws) (pos 0)) [ true ↦ leaves t | false ↦ leaves (remove g m t) ]
    ]

-- a place with the places after it; one with no members goes out
unfoldable pub place_left : ℤ → ℤ → List ℤ → List ℤ
place_left a n ws = elim (eq_z n (pos 0)) [ true ↦ ws | false ↦ a ∷ n ∷ ws ]

-- one member less of group g
unfoldable pub lowered : ℤ → List ℤ → List ℤ
lowered g [] = []
lowered g (a ∷ []) = []
lowered g (a ∷ n ∷ ws) = elim (eq_z a g) [ true ↦ place_left a (n -ℤ pos 1) ws | false ↦ a ∷ n ∷ lowered g ws ]
