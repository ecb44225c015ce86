-- The hash of a pair's key, and what is taken from it. Equal keys have equal hashes; nothing else is asked of them.
use Rattle.std.specs.Prelude.{ℕ, ◌+◌, ◌*◌, ◌/◌, ◌%◌, ◌^◌, Bool, true, false, List, ℤ, pos, negsuc}
use Rattle.std.specs.Int.Bits.{bit_or, bit_xor}
use Rattle.laws.specs.Tables.{group_at, member_at}

unfoldable pub weight_of : ℤ → ℕ
weight_of (pos n) = n
weight_of (negsuc n) = 0

abbrev pub combine : ℕ → ℕ → ℕ
combine g m = g * 1640531527 + m * 1540483477

-- Numbers that follow each other are common in a table, so a product alone would leave a pattern.
abbrev pub mix : ℕ → ℕ
mix h =
    let a = bit_xor h (h / 4294967296) in
    bit_xor a (a / 65536) % 4294967296 * 3266489909

unfoldable pub hash_at : Bool → List ℤ → ℕ → ℕ
hash_at true ws i = mix (combine (weight_of (group_at i ws)) (weight_of (member_at i ws)))
hash_at false ws i = mix (combine (weight_of (group_at i ws)) 0)

-- ---- what is taken from a hash

unfoldable pub class_of : ℕ → ℕ → ℕ
class_of classes h = h % 65536 * classes / 65536

unfoldable pub class_at : Bool → List ℤ → ℕ → ℕ → ℕ
class_at whole ws classes i = class_of classes (hash_at whole ws i)

-- one of so many buckets
unfoldable pub bucket : ℕ → ℕ → ℕ
bucket buckets h = h / 1048576 % 4294967296 * buckets / 4294967296

-- three bits of a word
abbrev pub mask_of : ℕ → ℕ
mask_of h =
    bit_or (bit_or (1 * 2 ^ (h / 16777216 % 64) % 2 ^ 64) (1 * 2 ^ (h / 1073741824 % 64) % 2 ^ 64)) (1 * 2 ^ (h / 4503599627370496 % 64) % 2 ^ 64)

-- the word of the marks in which those bits are
abbrev pub mark_of : ℕ → ℕ
mark_of h = h / 256 % 4096

abbrev pub bucket_at : ℕ → Bool → List ℤ → ℕ → ℕ
bucket_at buckets whole ws i = bucket buckets (hash_at whole ws i)

abbrev pub mask_at : Bool → List ℤ → ℕ → ℕ
mask_at whole ws i = mask_of (hash_at whole ws i)

abbrev pub mark_at : Bool → List ℤ → ℕ → ℕ
mark_at whole ws i = mark_of (hash_at whole ws i)
