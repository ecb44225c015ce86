-- Fields and bytes, there and back; a signed value and its two fields, there and back.
use Rattle.std.specs.Prelude.{ℕ, suc, ◌+◌, ◌-◌, ◌*◌, ◌/◌, ◌%◌, ◌<◌, Bool, true, false, List, [], ◌∷◌, ◌≡◌, refl, ltb, ℤ, pos, negsuc, length, get_or}
use Rattle.std.proofs.Common.{ap, arith, ltb-true, ltb-false, lt-ltb, le-ltb}
use Rattle.std.specs.Int.Signed.{mag}
use Rattle.language.specs.Encoding.{two, unsigned, signed, bytes_of, fields_of}
use Rattle.laws.specs.Each.{Each}
use Rattle.grammar.specs.Rules.{Bytes, Name}

-- a list each of whose places holds a byte
pub bytes-are : (bs : List ℕ) → ((i : ℕ) → get_or bs i 0 < 256) → Bytes bs
bytes-are [] h = tt
bytes-are (b ∷ bs) h = let p : b < 256 = h 0 in (omega (arith, p), bytes-are bs (λ i. h (suc i)))

pub fields-of-bytes : (ws : List ℕ) → fields_of (bytes_of ws) ≡ ws
unfolding fields_of bytes_of
fields-of-bytes [] = refl
fields-of-bytes (w ∷ ws) = let e : w % 256 + 256 * (w / 256) ≡ w = omega arith in let k = fields-of-bytes ws in cc

pub bytes-of-fields : (bs : List ℕ) → Bytes bs → length bs % 2 ≡ 0 → bytes_of (fields_of bs) ≡ bs
unfolding fields_of bytes_of
bytes-of-fields [] h e = refl
bytes-of-fields (a ∷ []) h e = absurd (omega arith)
bytes-of-fields (a ∷ b ∷ bs) h e =
    let k = bytes-of-fields bs h.1.1 (omega arith) in
    let p : two a b % 256 ≡ a = omega arith in
    let q : two a b / 256 ≡ b = omega arith in
    cc

pub fields-are-names : (bs : List ℕ) → Bytes bs → Each Name (fields_of bs)
unfolding fields_of
fields-are-names [] h = tt
fields-are-names (a ∷ []) h = tt
fields-are-names (a ∷ b ∷ bs) h = (omega arith, fields-are-names bs h.1.1)

pub length-bytes : (ws : List ℕ) → length (bytes_of ws) ≡ 2 * length ws
unfolding bytes_of
length-bytes [] = refl
length-bytes (w ∷ ws) = let k = length-bytes ws in omega arith

-- the number that two fields make
pub low-high : (n : ℕ) → n % 65536 + 65536 * (n / 65536) ≡ n
low-high n = omega arith

pub signed-unsigned : (z : ℤ) → mag z < 2147483648 → signed (unsigned z) ≡ z
unfolding signed unsigned
signed-unsigned (pos n) h = rw (lt-ltb n 2147483648 h, signed)
signed-unsigned (negsuc n) h = rw (le-ltb (4294967295 - n) 2147483648 (omega arith), signed) (ap negsuc (omega arith))

pub unsigned_signed : (n : ℕ) → n < 4294967296 → unsigned (signed n) ≡ n
unfolding signed unsigned
unsigned_signed n h = go (ltb n 2147483648) refl
  where
    go : (b : Bool) → ltb n 2147483648 ≡ b → unsigned (signed n) ≡ n
    go true e = rw (e, signed)
    go false e = rw (e, signed) (omega arith)

pub mag-signed : (n : ℕ) → n < 4294967296 → mag (signed n) < 2147483648
unfolding signed
mag-signed n h = go (ltb n 2147483648) refl
  where
    go : (b : Bool) → ltb n 2147483648 ≡ b → mag (signed n) < 2147483648
    go true e = rw (e, signed) (ltb-true n 2147483648 e)
    go false e = rw (e, signed) (omega (arith, ltb-false n 2147483648 e))
