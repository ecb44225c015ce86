-- Small functions on numbers, lists and pairs that the definitions share.
use Rattle.std.specs.Prelude.{ℕ, zero, suc, Bool, true, false, List, [], ◌∷◌, eqb, ℤ, pos, negsuc}
use Rattle.std.proofs.Math.Option.{Option, none, some}

-- whether n stands in the list
unfoldable pub among : ℕ → List ℕ → Bool
among n [] = false
among n (x ∷ xs) = elim (eqb n x) [ true ↦ true | false ↦ among n xs ]

-- what a list of pairs gives for n: the first that has it
unfoldable pub lookup {ℓ} : {A : Type ℓ} → ℕ → List (ℕ × A) → Option A
lookup n [] = none
lookup n (p ∷ ps) = elim (eqb n p.0) [ true ↦ some p.1 | false ↦ lookup n ps ]

unfoldable pub zip {ℓ} : {A : Type ℓ} → List ℕ → List A → List (ℕ × A)
zip [] ys = []
zip (x ∷ xs) [] = []
zip (x ∷ xs) (y ∷ ys) = (x, y) ∷ zip xs ys

-- n, n + 1, …: k numbers
unfoldable pub up_from : ℕ → ℕ → List ℕ
up_from n zero = []
up_from n (suc k) = n ∷ up_from (suc n) k

-- the last element, and all before it
unfoldable pub last? {ℓ} : {A : Type ℓ} → List A → Option A
last? [] = none
last? (x ∷ []) = some x
last? (x ∷ y ∷ ys) = last? (y ∷ ys)

unfoldable pub but_last {ℓ} : {A : Type ℓ} → List A → List A
but_last [] = []
but_last (x ∷ []) = []
but_last (x ∷ y ∷ ys) = x ∷ but_last (y ∷ ys)

unfoldable pub eq_z : ℤ → ℤ → Bool
eq_z (pos a) (pos b) = eqb a b
eq_z (pos a) (negsuc b) = false
eq_z (negsuc a) (pos b) = false
eq_z (negsuc a) (negsuc b) = eqb a b
