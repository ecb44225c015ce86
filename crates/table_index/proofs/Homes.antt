-- Where a search begins.
use Prim.Native.Nat.{ℕ, ◌*◌, ◌/◌, ◌%◌, ◌≤◌, ◌<◌}
use native.Mathlib.Nat.{mod-lt, div-lt_iff_lt-mul, mul-lt-mul_of_pos_right}
use native.Mathlib.Omega.{arith}
use lib.Bits.{bit_xor}
use Rattle.table_index.specs.Index.{home_of}

pub product-fits : (x size : ℕ) → 0 < size → size ≤ 4294967296 → x % 4294967296 * size < 18446744073709551616
product-fits x size some most =
    let l : x % 4294967296 < 4294967296 = mod-lt _ (omega arith) in
    omega (arith, mul-lt-mul_of_pos_right {k = size} l some)

pub home_below : (size group : ℕ) → 0 < size → home_of size group < size
unfolding home_of
home_below size group some =
    let x = bit_xor group (group / 256) % 4294967296 * 2654435769 % 4294967296 in
    let l : x < 4294967296 = mod-lt _ (omega arith) in
    (div-lt_iff_lt-mul {k = 4294967296} {x = x * size} {y = size} (omega arith)).1 (omega (arith, mul-lt-mul_of_pos_right {k = size} l some))
