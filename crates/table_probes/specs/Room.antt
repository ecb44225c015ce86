-- How many slots of a list are empty: those with the word 0.
use Rattle.std.specs.Prelude.{ℕ, zero, suc, ◌+◌, ◌≤◌, ◌<◌, ◌≡◌, refl, List, [], ◌∷◌, length, get_or, set, replicate}
use Rattle.std.proofs.Common.{sym, ◌∙◌, ap, arith}

unfoldable pub room : List ℕ → ℕ
room [] = 0
room (zero ∷ l) = suc (room l)
room (suc v ∷ l) = room l

pub room-none : (n : ℕ) → room (replicate n 0) ≡ n
unfolding room
room-none zero = refl
room-none (suc n) = ap suc (room-none n)

-- a word is put into an empty slot
pub room-put : (l : List ℕ) (q v : ℕ) → q < length l → get_or l q 0 ≡ 0 → (v ≡ 0 → ⊥) → suc (room (set l q v)) ≡ room l
unfolding room
room-put [] q v h e n = absurd (omega arith)
room-put (zero ∷ l) zero zero h e n = absurd (n refl)
room-put (zero ∷ l) zero (suc v) h e n = refl
room-put (suc x ∷ l) zero v h e n = absurd (omega arith)
room-put (zero ∷ l) (suc q) v h e n = ap suc (room-put l q v (omega arith) e n)
room-put (suc x ∷ l) (suc q) v h e n = room-put l q v (omega arith) e n

-- a word in use is replaced by another
pub room-same : (l : List ℕ) (q v : ℕ) → (get_or l q 0 ≡ 0 → ⊥) → (v ≡ 0 → ⊥) → room (set l q v) ≡ room l
unfolding room
room-same [] q v h n = refl
room-same (zero ∷ l) zero v h n = absurd (h refl)
room-same (suc x ∷ l) zero zero h n = absurd (n refl)
room-same (suc x ∷ l) zero (suc v) h n = refl
room-same (zero ∷ l) (suc q) v h n = ap suc (room-same l q v h n)
room-same (suc x ∷ l) (suc q) v h n = room-same l q v h n

pub record Empty (l : List ℕ) : Type 0 where
  pub slot : ℕ
  pub within : slot < length l
  pub empty : get_or l slot 0 ≡ 0

-- where there is room, there is an empty slot
pub some-empty : (l : List ℕ) → 0 < room l → Empty l
unfolding room
some-empty [] h = absurd (omega arith)
some-empty (zero ∷ l) h = record { slot = 0; within = omega arith; empty = refl }
some-empty (suc x ∷ l) h =
    let e = some-empty l h in
    record { slot = suc e.slot; within = omega (arith, e.within); empty = e.empty }
