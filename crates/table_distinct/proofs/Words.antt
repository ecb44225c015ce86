-- A pair as one word: numbers of at least 1 give it a word that is not 0 and that no other pair has.
use Prim.Native.Nat.{ℕ, ◌+◌, ◌*◌, ◌/◌, ◌%◌, ◌<◌}
use mathlib.Core.Path.{◌≡◌, refl, sym, ◌∙◌, ap}
use mathlib.Core.Bool.{true}
use mathlib.Core.List.{List}
use native.Mathlib.Omega.{arith}
use borrow.Author.Tests.{leb-true}
use lib.Dec.{T}
use lib.IntN.{ℤ, pos, negsuc, nat_abs}
use lib.Signed.{mag, non_neg}
use mir.Val.{Fits, of_z, to_z}
use mir.Syntax.{w32}
use Rattle.language.specs.Basics.{eq_z}
use Rattle.language.specs.Table.{at_least_one}
use Rattle.laws.specs.Tests.{both, eq_z-true, eq_z-refl}
use Rattle.laws.specs.Tables.{group_at, member_at}
use Rattle.table_search.proofs.Signed.{back}
use Rattle.table_keys.specs.Keys.{same, same_at}
use Rattle.table_distinct.specs.Slots.{numbers_at, word_at, hash_of}

pub whole-number : (z : ℤ) → mag z < 2147483648 → at_least_one z ≡ true → T (non_neg z) × (nat_abs z < 2147483648)
unfolding at_least_one
whole-number (pos n) h e = (tt, h)
whole-number (negsuc n) h e = absurd (let z : ◌≡◌ {A = ℕ} 0 1 = cc in omega arith)

positive : (z : ℤ) → at_least_one z ≡ true → (z ≡ pos (nat_abs z)) × (0 < nat_abs z)
unfolding at_least_one
positive (pos n) e = (refl, omega (arith, leb-true 1 n e))
positive (negsuc n) e = absurd (let z : ◌≡◌ {A = ℕ} 0 1 = cc in omega arith)

-- a word as it is cast
module _ (z : ℤ) (h : mag z < 2147483648) (e : at_least_one z ≡ true) where
  pub cast-word : T (non_neg (to_z w32 (of_z w32 z))) × Fits w32 (nat_abs (to_z w32 (of_z w32 z)))
  cast-word = let n = whole-number z h e in rw (back z h) (n.0, record { fits = omega (arith, n.1) })

  pub cast-below : nat_abs (to_z w32 (of_z w32 z)) < 2147483648
  cast-below = rw (back z h) (whole-number z h e).1

module _ (ws : List ℤ) (i : ℕ) (n : numbers_at ws i ≡ true) where
  pub group-least : at_least_one (group_at i ws) ≡ true
  group-least = (both (at_least_one (group_at i ws)) (at_least_one (member_at i ws)) n).0

  pub member-least : at_least_one (member_at i ws) ≡ true
  member-least = (both (at_least_one (group_at i ws)) (at_least_one (member_at i ws)) n).1

  pub not-empty : word_at ws i ≡ 0 → ⊥
  unfolding word_at
  not-empty e = omega (arith, (positive (group_at i ws) group-least).1)

pub hash-parts : (g m : ℕ) → m < 4294967296 → hash_of (g * 4294967296 + m) ≡ g * 1886004147 + m * 3726408501
unfolding hash_of
hash-parts g m h =
    let left : (g * 4294967296 + m) / 4294967296 ≡ g = omega arith in
    let right : (g * 4294967296 + m) % 4294967296 ≡ m = omega arith in
    rw (left, right)

-- pairs that are the same have one word
pub same_word : (ws : List ℤ) (i j : ℕ) → same_at true ws i j ≡ true → word_at ws j ≡ word_at ws i
unfolding same_at same word_at
same_word ws i j e =
    let h = both (eq_z (group_at j ws) (group_at i ws)) (eq_z (member_at j ws) (member_at i ws)) e in
    rw (eq_z-true (group_at j ws) (group_at i ws) h.0, eq_z-true (member_at j ws) (member_at i ws) h.1)

-- and only those
pub word_same :
    (ws : List ℤ) (i j : ℕ) → numbers_at ws i ≡ true → numbers_at ws j ≡ true → nat_abs (member_at i ws) < 4294967296 → nat_abs (member_at j ws) < 4294967296 →
    word_at ws i ≡ word_at ws j → same_at true ws i j ≡ true
unfolding same_at same word_at
word_same ws i j p q h k e =
    let g : nat_abs (group_at j ws) ≡ nat_abs (group_at i ws) = omega arith in
    let m : nat_abs (member_at j ws) ≡ nat_abs (member_at i ws) = omega arith in
    let u = (positive (group_at j ws) (group-least ws j q)).0 ∙ ap pos g ∙ sym (positive (group_at i ws) (group-least ws i p)).0 in
    let v = (positive (member_at j ws) (member-least ws j q)).0 ∙ ap pos m ∙ sym (positive (member_at i ws) (member-least ws i p)).0 in
    rw (u, v, eq_z-refl (group_at i ws), eq_z-refl (member_at i ws))
