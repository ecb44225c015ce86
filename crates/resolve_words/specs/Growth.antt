-- An array that is written from its start on. After what is written stand zeros.
use Rattle.std.specs.Prelude.{ℕ, ◌*◌, ◌-◌, ◌≤◌, List, ◌++◌, ◌≡◌, length, replicate}

-- words written at the place of a byte offset, next after what was written before
pub record Grown (code code' : List ℕ) (at : ℕ) (ws : List ℕ) : Type 0 where
  pub grown :
      (done : List ℕ) (n : ℕ) → 2 * length done ≡ at → code ≡ done ++ replicate n 0 → length ws ≤ n →
      code' ≡ done ++ (ws ++ replicate (n - length ws) 0)
