-- The number of an operation (`number_of`) is the one that its statement has (`number-of`).
use Rattle.std.specs.Prelude.{ℕ, zero, suc, ◌+◌, ◌<◌, List, [], ◌∷◌, ◌≡◌, refl, length, get_or}
use Rattle.std.proofs.Common.{arith, sym, ap, ◌∙◌}
use Rattle.resolved.specs.Layout.{operation_in}
use Rattle.run_moves.specs.Acting.{Op, constant-op, add-op, subtract-op, compare-op, branch-op, goto-op, block-op, call-op, pair-op, unpair-op, query-op}
use Rattle.run_moves.specs.Acting.{constant-formal-op, arithmetic-formal-op, branch-formal-op, goto-formal-op, call-formal-op, operations, op_of}

unfoldable pub number_of : Op → ℕ
number_of constant-op = 0
number_of add-op = 1
number_of subtract-op = 2
number_of compare-op = 3
number_of branch-op = 4
number_of goto-op = 5
number_of block-op = 6
number_of call-op = 7
number_of pair-op = 8
number_of unpair-op = 9
number_of query-op = 10
number_of constant-formal-op = 11
number_of arithmetic-formal-op = 12
number_of branch-formal-op = 13
number_of goto-formal-op = 14
number_of call-formal-op = 15

-- operations that are numbered from a number on
abbrev Numbered : ℕ → List Op → Type 0
Numbered n [] = Unit {0}
Numbered n (o ∷ os) = (number_of o ≡ n) × Numbered (suc n) os

number_at : (n : ℕ) (os : List Op) → Numbered n os → (k : ℕ) → k < length os → number_of (get_or os k constant-op) ≡ n + k
number_at n [] h k l = absurd (omega arith)
number_at n (o ∷ os) h zero l = let e : n ≡ n + 0 = omega arith in h.0 ∙ e
number_at n (o ∷ os) h (suc k) l = let e : suc n + k ≡ n + suc k = omega arith in number_at (suc n) os h.1 k (omega arith) ∙ e

all-numbered : Numbered 0 operations
unfolding number_of operations
all-numbered = (refl, (refl, (refl, (refl, (refl, (refl, (refl, (refl, (refl, (refl, (refl, (refl, (refl, (refl, (refl, (refl, tt))))))))))))))))

pub number-of : (v : ℕ) (o : Op) → op_of v ≡ o → operation_in v ≡ number_of o
unfolding op_of operations
number-of v o e =
    let n = number_at 0 operations all-numbered (operation_in v) (omega arith) in
    let z : 0 + operation_in v ≡ operation_in v = omega arith in
    sym (n ∙ z) ∙ ap number_of e
