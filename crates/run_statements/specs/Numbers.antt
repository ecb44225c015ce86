-- Which operation a statement has, by its number.
use Rattle.std.specs.Prelude.{ℕ, ◌+◌, ◌≤◌, ◌<◌, ◌≡◌, ltb, get_or}
use Rattle.std.proofs.Common.{arith, ap, ltb-true, ltb-false}
use Rattle.laws.specs.Tests.{split}
use Rattle.run_moves.specs.Acting.{constant-op, operations, op_of}
use Rattle.resolved.specs.Layout.{operation_in}

-- the operation by its number
pub op-of : (v k : ℕ) → operation_in v ≡ k → op_of v ≡ get_or operations k constant-op
unfolding op_of
op-of v k e = ap (λ i. get_or operations i constant-op) e

-- the number that is left
past : (x k : ℕ) → k ≤ x → (x ≡ k → ⊥) → k + 1 ≤ x
past x k h d = split (ltb k x) (λ t. omega (arith, ltb-true k x t)) (λ t. absurd (d (omega (arith, ltb-false k x t))))

pub last-op : (x : ℕ) → x < 16 → (x ≡ 0 → ⊥) → (x ≡ 1 → ⊥) → (x ≡ 2 → ⊥) → (x ≡ 3 → ⊥) → (x ≡ 4 → ⊥) → (x ≡ 5 → ⊥) → (x ≡ 6 → ⊥) → (x ≡ 7 → ⊥)
    → (x ≡ 8 → ⊥) → (x ≡ 9 → ⊥) → (x ≡ 10 → ⊥) → (x ≡ 11 → ⊥) → (x ≡ 12 → ⊥) → (x ≡ 13 → ⊥) → (x ≡ 14 → ⊥) → x ≡ 15
last-op x h n0 n1 n2 n3 n4 n5 n6 n7 n8 n9 n10 n11 n12 n13 n14 =
    let q = past x 14 (past x 13 (past x 12 (past x 11 (past x 10
    (past x 9 (past x 8 (past x 7 (past x 6 (past x 5 (past x 4
    (past x 3 (past x 2 (past x 1 (past x 0 (omega arith) n0) n1) n2) n3) n4) n5) n6) n7) n8) n9) n10) n11) n12) n13) n14 in
    omega arith
