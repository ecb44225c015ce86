-- The 16-bit fields of a script by their byte offsets. Read `FieldsStand bs at ws` as: the fields ws stand in the bytes bs one after the other from
-- the offset `at` on.
use Rattle.std.specs.Prelude.{ℕ, zero, suc, ◌+◌, ◌*◌, ◌≤◌, ◌<◌, ◌≡◌, length, get_or}
use Rattle.std.proofs.Common.{arith, ap, ◌∙◌, subst, length-append, get_or-append-add}
use mathlib.Core.List.{List, [], ◌∷◌, ◌++◌, append_assoc}
use Rattle.std.proofs.Math.Path.{refl}
use Rattle.std.proofs.Math.ListN.{get_or-eq_default}
use Rattle.std.proofs.Math.Seq.{get_or-append_seam}
use Rattle.language.specs.Encoding.{two, fields_of}

-- the field at an offset; a byte past the end counts as 0
unfoldable pub field_at : List ℕ → ℕ → ℕ
field_at bs at = two (get_or bs at 0) (get_or bs (at + 1) 0)

-- so many fields from an offset on
unfoldable pub fields_at : List ℕ → ℕ → ℕ → List ℕ
fields_at bs at zero = []
fields_at bs at (suc k) = field_at bs at ∷ fields_at bs (at + 2) k

abbrev pub FieldsStand : List ℕ → ℕ → List ℕ → Type 0
FieldsStand bs at [] = Unit {0}
FieldsStand bs at (w ∷ ws) = (field_at bs at ≡ w) × FieldsStand bs (at + 2) ws

-- one of them
pub field_is : (bs : List ℕ) (at : ℕ) (ws : List ℕ) → FieldsStand bs at ws → (i : ℕ) → i < length ws → field_at bs (at + 2 * i) ≡ get_or ws i 0
field_is bs at [] h i l = absurd (omega arith)
field_is bs at (x ∷ ws) h zero l = let z : at + 2 * 0 ≡ at = omega arith in ap (field_at bs) z ∙ h.0
field_is bs at (x ∷ ws) h (suc i) l =
    let z : at + 2 * suc i ≡ at + 2 + 2 * i = omega arith in
    ap (field_at bs) z ∙ field_is bs (at + 2) ws h.1 i (omega arith)

-- a field that is not 0 begins inside the script
pub field-inside : (bs : List ℕ) (at : ℕ) → 0 < field_at bs at → length bs ≤ at → ⊥
unfolding field_at
field-inside bs at p h =
    omega (arith, get_or-eq_default bs 0 {n = at} h, get_or-eq_default bs 0 {n = at + 1} (omega arith))

module _ (bs : List ℕ) where
  pub fields-moved : (at o : ℕ) (ws : List ℕ) → at ≡ o → FieldsStand bs at ws → FieldsStand bs o ws
  fields-moved at o ws e h = rw e at h

  -- fields that stand one after the other, taken apart and put together
  pub fields-first : (at : ℕ) (xs ys : List ℕ) → FieldsStand bs at (xs ++ ys) → FieldsStand bs at xs
  fields-first at [] ys h = tt
  fields-first at (x ∷ xs) ys h = (h.0, fields-first (at + 2) xs ys h.1)

  pub fields-after : (at : ℕ) (xs ys : List ℕ) → FieldsStand bs at (xs ++ ys) → FieldsStand bs (at + 2 * length xs) ys
  fields-after at [] ys h = fields-moved at (at + 2 * 0) ys (omega arith) h
  fields-after at (x ∷ xs) ys h =
      fields-moved (at + 2 + 2 * length xs) (at + 2 * suc (length xs)) ys (omega arith) (fields-after (at + 2) xs ys h.1)

  pub fields-both : (at : ℕ) (xs ys : List ℕ) → FieldsStand bs at xs → FieldsStand bs (at + 2 * length xs) ys → FieldsStand bs at (xs ++ ys)
  fields-both at [] ys g h = fields-moved (at + 2 * 0) at ys (omega arith) h
  fields-both at (x ∷ xs) ys g h =
      (g.0, fields-both (at + 2) xs ys g.1 (fields-moved (at + 2 * suc (length xs)) (at + 2 + 2 * length xs) ys (omega arith) h))

  -- what stands is what is read
  pub fields-are : (at : ℕ) (xs : List ℕ) → FieldsStand bs at xs → fields_at bs at (length xs) ≡ xs
  unfolding fields_at
  fields-are at [] h = refl
  fields-are at (x ∷ xs) h = rw (h.0, fields-are (at + 2) xs h.1)

  pub fields-third : (at w v u : ℕ) (ws : List ℕ) → FieldsStand bs at (w ∷ v ∷ u ∷ ws) → field_at bs (at + 4) ≡ u
  fields-third at w v u ws h = subst (λ (o : ℕ). field_at bs o ≡ u) four h.1.1.0
    where
      four : at + 2 + 2 ≡ at + 4
      four = omega arith

  pub fields-past-head : (at w v u : ℕ) (ws : List ℕ) → FieldsStand bs at (w ∷ v ∷ u ∷ ws) → FieldsStand bs (at + 6) ws
  fields-past-head at w v u ws h = fields-after at (w ∷ v ∷ u ∷ []) ws h

-- all the fields of a script stand in it from the start
stand-from : (front bs : List ℕ) → FieldsStand (front ++ bs) (length front) (fields_of bs)
unfolding fields_of field_at
stand-from front [] = tt
stand-from front (a ∷ []) = tt
stand-from front (a ∷ b ∷ bs) = (
  rw (get_or-append_seam front a (b ∷ bs) 0, get_or-append-add front (a ∷ b ∷ bs) 1 0),
  subst (λ (l : List ℕ). FieldsStand l (length front + 2) (fields_of bs)) (append_assoc front (a ∷ b ∷ []) bs)
      (subst (λ (k : ℕ). FieldsStand ((front ++ (a ∷ b ∷ [])) ++ bs) k (fields_of bs)) (length-append front (a ∷ b ∷ [])) (stand-from (front ++ (a ∷ b ∷ [])) bs)),
)

pub fields-stand : (bs : List ℕ) → FieldsStand bs 0 (fields_of bs)
fields-stand bs = stand-from [] bs
