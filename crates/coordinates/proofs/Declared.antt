-- What a coordinate found in an enclosure says of the text: `coordinate-declares`.
-- Read `Declares es n c` as: the level c names is one of es, and the block there has n as its name at c's position.
use Rattle.std.specs.Prelude.{ℕ, suc, ◌-◌, ◌≤◌, Bool, true, false, List, [], ◌∷◌, ◌≡◌, refl, eqb, length}
use Rattle.std.proofs.Common.{arith, sym, ap, ◌∙◌, subst, eqb-true}
use Rattle.std.proofs.Math.Option.{Option, none, some, none-ne-some, some-injective}
use Rattle.std.proofs.Math.ListN.{get_elem?}
use Rattle.frames.specs.Frame.{numbered, position_from}
use Rattle.frames.specs.Numbered.{numbered-at, numbered-reverse}
use Rattle.coordinates.specs.Enclosure.{Enclosing, Enclosure, Coordinate, names_of, coordinate_of, at_level}
use Rattle.coordinates.proofs.Search.{coordinate-here, coordinate-further}

pub record Declares (es : Enclosure) (n : ℕ) (c : Coordinate) : Type 0 where
  pub low : 1 ≤ c.level
  pub high : c.level ≤ length es
  pub block : Enclosing
  pub stands : at_level es c.level ≡ some block
  pub named : numbered (names_of block) c.position ≡ some n

position_from_lem : (n i : ℕ) (xs : List ℕ) (p : ℕ) → position_from n i xs ≡ some p → (i ≤ p) × (get_elem? xs (p - i) ≡ some n)
unfolding position_from
position_from_lem n i [] p e = absurd (none-ne-some p e)
position_from_lem n i (x ∷ xs) p e = go (position_from_lem n (suc i) xs p) (eqb n x) refl
  where
    go : (position_from n (suc i) xs ≡ some p → (suc i ≤ p) × (get_elem? xs (p - suc i) ≡ some n)) → (b : Bool) → eqb n x ≡ b → (i ≤ p) × (get_elem? (x ∷ xs) (p - i) ≡ some n)
    go r true q =
        let h : i ≡ p = some-injective i p (rw (q, position_from) at e) in
        let z : p - i ≡ 0 = omega arith in
        (omega arith, ap (get_elem? (x ∷ xs)) z ∙ ap {B = Option ℕ} some (sym (eqb-true n x q)))
    go r false q =
        let k = r (rw (q, position_from) at e) in
        let z : p - i ≡ suc (p - suc i) = omega (arith, k.0) in
        (omega (arith, k.0), ap (get_elem? (x ∷ xs)) z ∙ k.1)

pub position-named : (n : ℕ) (xs : List ℕ) (p : ℕ) → position_from n 1 xs ≡ some p → numbered xs p ≡ some n
position-named n xs p e = let k = position_from_lem n 1 xs p e in numbered-at xs p k.0 ∙ k.1

-- the block of level j counted from the inner end
pub level-at : (es : Enclosure) (j : ℕ) → 1 ≤ j → j ≤ length es → at_level es j ≡ get_elem? es (length es - j)
unfolding at_level
level-at es j p h = numbered-reverse es j p h

pub level-here : (e : Enclosing) (es : Enclosure) → at_level (e ∷ es) (suc (length es)) ≡ some e
level-here e es =
    let z : suc (length es) - suc (length es) ≡ 0 = omega arith in
    level-at (e ∷ es) (suc (length es)) (omega arith) (omega arith) ∙ ap (get_elem? (e ∷ es)) z

pub level-further : (e : Enclosing) (es : Enclosure) (j : ℕ) → 1 ≤ j → j ≤ length es → at_level (e ∷ es) j ≡ at_level es j
level-further e es j low high =
    let z : suc (length es) - j ≡ suc (length es - j) = omega arith in
    level-at (e ∷ es) j low (omega arith) ∙ ap (get_elem? (e ∷ es)) z ∙ sym (level-at es j low high)

declares-here : (e : Enclosing) (es : Enclosure) (n p : ℕ) → position_from n 1 (names_of e) ≡ some p → Declares (e ∷ es) n (record { level = suc (length es); position = p })
declares-here e es n p q = record { low = omega arith; high = omega arith; block = e; stands = level-here e es; named = position-named n (names_of e) p q }

declares-further : (e : Enclosing) (es : Enclosure) (n : ℕ) (c : Coordinate) → Declares es n c → Declares (e ∷ es) n c
declares-further e es n c d =
    record { low = d.low; high = omega (arith, d.high); block = d.block; stands = level-further e es c.level d.low d.high ∙ d.stands; named = d.named }

pub coordinate-declares : (es : Enclosure) (n : ℕ) (c : Coordinate) → coordinate_of es n ≡ some c → Declares es n c
unfolding coordinate_of
coordinate-declares [] n c e = absurd (none-ne-some c e)
coordinate-declares (x ∷ es) n c e = go (coordinate-declares es n c) (position_from n 1 (names_of x)) refl
  where
    go : (coordinate_of es n ≡ some c → Declares es n c) → (o : Option ℕ) → position_from n 1 (names_of x) ≡ o → Declares (x ∷ es) n c
    go r none q = declares-further x es n c (r (sym (coordinate-further x es n q) ∙ e))
    go r (some p) q = subst (Declares (x ∷ es) n) (some-injective _ c (sym (coordinate-here x es n p q) ∙ e)) (declares-here x es n p q)
