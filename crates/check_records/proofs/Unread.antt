-- The fields from an offset on: their number, each of them, and what is left of them after some.
-- Assumes nothing.
use mathlib.Core.Path.{◌≡◌, refl, ◌∙◌, ap}
use mathlib.Core.List.{List, [], ◌∷◌}
use Prim.Native.Nat.{ℕ, zero, suc, ◌+◌, ◌-◌, ◌*◌, ◌<◌, ◌≤◌}
use native.Mathlib.Omega.{arith}
use lib.ListN.{length, get_or, drop, length-drop}
use lib.Seq.{drop-nil, drop-drop, get_or-drop}
use Rattle.language.specs.Encoding.{two, fields_of}
use Rattle.laws.specs.Lists.{twice-suc, twice-suc-one}
use Rattle.check_records.specs.Taking.{unread}

fields-length : (bs : List ℕ) → 2 * length (fields_of bs) ≤ length bs
unfolding fields_of
fields-length [] = omega arith
fields-length (a ∷ []) = omega arith
fields-length (a ∷ b ∷ bs) = let h = fields-length bs in omega arith

fields-most : (bs : List ℕ) → length bs ≤ 2 * length (fields_of bs) + 1
unfolding fields_of
fields-most [] = omega arith
fields-most (a ∷ []) = omega arith
fields-most (a ∷ b ∷ bs) = let h = fields-most bs in omega arith

fields_at : (bs : List ℕ) (k : ℕ) → 2 * k + 1 < length bs → get_or (fields_of bs) k 0 ≡ two (get_or bs (2 * k) 0) (get_or bs (2 * k + 1) 0)
unfolding fields_of
fields_at [] k h = refl
fields_at (a ∷ []) k h = absurd (omega arith)
fields_at (a ∷ b ∷ bs) zero h = refl
fields_at (a ∷ b ∷ bs) (suc k) h = rw (twice-suc-one k, twice-suc k) (fields_at bs k (omega arith))

fields-drop : (bs : List ℕ) (k : ℕ) → drop k (fields_of bs) ≡ fields_of (drop (2 * k) bs)
unfolding fields_of
fields-drop [] k = rw (drop-nil k, drop-nil (2 * k))
fields-drop (a ∷ []) zero = refl
fields-drop (a ∷ []) (suc k) = rw (twice-suc k)
fields-drop (a ∷ b ∷ bs) zero = refl
fields-drop (a ∷ b ∷ bs) (suc k) = rw (twice-suc k) (fields-drop bs k)

pub unread-drop : (bs : List ℕ) (at k : ℕ) → drop k (unread bs at) ≡ unread bs (at + 2 * k)
unfolding unread
unread-drop bs at k = fields-drop (drop at bs) k ∙ ap fields_of (drop-drop (2 * k) at bs)

-- k fields are left exactly where their bytes are
pub unread-enough : (bs : List ℕ) (at k : ℕ) → at + 2 * k ≤ length bs → k ≤ length (unread bs at)
unfolding unread
unread-enough bs at k h = omega (arith, fields-most (drop at bs), length-drop at bs)

pub unread-short : (bs : List ℕ) (at k : ℕ) → 0 < k → length bs < at + 2 * k → length (unread bs at) < k
unfolding unread
unread-short bs at k p h = omega (arith, fields-length (drop at bs), length-drop at bs)

pub unread-fits : (bs : List ℕ) (at k : ℕ) → 0 < k → k ≤ length (unread bs at) → at + 2 * k ≤ length bs
unfolding unread
unread-fits bs at k p h = omega (arith, fields-length (drop at bs), length-drop at bs)

-- their number, by what is left of the bytes
pub unread-number : (bs : List ℕ) (at n : ℕ) → 2 * n ≤ length bs - at → length bs - at < 2 * n + 2 → n ≡ length (unread bs at)
unfolding unread
unread-number bs at n low high = omega (arith, fields-length (drop at bs), fields-most (drop at bs), length-drop at bs)

pub unread-at : (bs : List ℕ) (at k : ℕ) → at + 2 * k + 1 < length bs → get_or (unread bs at) k 0 ≡ two (get_or bs (at + 2 * k) 0) (get_or bs (at + 2 * k + 1) 0)
unfolding unread
unread-at bs at k h =
    fields_at (drop at bs) k (omega (arith, length-drop at bs))
    ∙ rw (get_or-drop at bs (2 * k) 0, get_or-drop at bs (2 * k + 1) 0, plus_one)
  where
    plus_one : at + (2 * k + 1) ≡ at + 2 * k + 1
    plus_one = omega arith
