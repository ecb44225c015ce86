-- Equal keys have equal hashes, and what is taken from a hash is within its bounds.
use Prim.Native.Nat.{ℕ, ◌*◌, ◌/◌, ◌%◌, ◌<◌}
use mathlib.Core.Path.{◌≡◌, ap}
use mathlib.Core.Bool.{Bool, true, false}
use mathlib.Core.List.{List}
use native.Mathlib.Nat.{mod-lt, div-lt_iff_lt-mul, mul-lt-mul_of_pos_right}
use native.Mathlib.Omega.{arith}
use lib.IntN.{ℤ}
use Rattle.language.specs.Basics.{eq_z}
use Rattle.laws.specs.Tests.{eq_z-true}
use Rattle.laws.specs.Tables.{group_at, member_at}
use Rattle.table_keys.specs.Keys.{same, same_at}
use Rattle.table_hash.specs.Hashes.{hash_at, class_of, class_at, bucket}
use Rattle.laws.specs.Tests.{both}

pub hash-key : (whole : Bool) (ws : List ℤ) (i j : ℕ) → same_at whole ws i j ≡ true → hash_at whole ws i ≡ hash_at whole ws j
unfolding same_at same hash_at
hash-key true ws i j e =
    let h = both (eq_z (group_at j ws) (group_at i ws)) (eq_z (member_at j ws) (member_at i ws)) e in
    rw (eq_z-true (group_at j ws) (group_at i ws) h.0, eq_z-true (member_at j ws) (member_at i ws) h.1)
hash-key false ws i j e = rw (eq_z-true (group_at j ws) (group_at i ws) e)

pub class-key : (whole : Bool) (ws : List ℤ) (classes i j : ℕ) → same_at whole ws i j ≡ true → class_at whole ws classes i ≡ class_at whole ws classes j
unfolding class_at
class-key whole ws classes i j e = ap (class_of classes) (hash-key whole ws i j e)

pub bucket-below : (buckets h : ℕ) → 0 < buckets → bucket buckets h < buckets
unfolding bucket
bucket-below buckets h l =
    let x = h / 1048576 % 4294967296 in
    let b : x < 4294967296 = mod-lt _ (omega arith) in
    (div-lt_iff_lt-mul {k = 4294967296} {x = x * buckets} {y = buckets} (omega arith)).1 (omega (arith, mul-lt-mul_of_pos_right {k = buckets} b l))

pub class-below : (whole : Bool) (ws : List ℤ) (classes i : ℕ) → 0 < classes → class_at whole ws classes i < classes
unfolding class_at class_of
class-below whole ws classes i l =
    let x = hash_at whole ws i % 65536 in
    let b : x < 65536 = mod-lt _ (omega arith) in
    (div-lt_iff_lt-mul {k = 65536} {x = x * classes} {y = classes} (omega arith)).1 (omega (arith, mul-lt-mul_of_pos_right {k = classes} b l))
