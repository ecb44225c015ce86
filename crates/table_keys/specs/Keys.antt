-- That no pair stands twice, and that no group is too large, are one rule with two keys: of the pairs with one key there are at most
-- so many. A pair's key is the whole pair, or its group alone.
use Rattle.std.specs.Prelude.{ℕ, zero, suc, Bool, true, false, ◌&&◌, List, leb, ℤ}
use Rattle.language.specs.Basics.{eq_z}
use Rattle.laws.specs.Tables.{group_at, member_at}

-- whether each of the first k numbers passes
unfoldable pub each : (ℕ → Bool) → ℕ → Bool
each p zero = true
each p (suc k) = each p k && p k

-- whether (a, b) has the key of (g, m)
unfoldable pub same : Bool → ℤ → ℤ → ℤ → ℤ → Bool
same true g m a b = eq_z a g && eq_z b m
same false g m a b = eq_z a g

-- whether the pair at place j has the key of the one at i
unfoldable pub same_at : Bool → List ℤ → ℕ → ℕ → Bool
same_at whole ws i j = same whole (group_at i ws) (member_at i ws) (group_at j ws) (member_at j ws)

unfoldable pub more : Bool → ℕ → ℕ
more true n = suc n
more false n = n

-- how many of the first k pairs have the key of (g, m)
unfoldable pub alike : Bool → ℤ → ℤ → ℕ → List ℤ → ℕ
alike whole g m zero ws = 0
alike whole g m (suc k) ws = more (same whole g m (group_at k ws) (member_at k ws)) (alike whole g m k ws)

-- how many pairs up to place i, and with it, have its key
unfoldable pub rank_at : Bool → ℕ → List ℤ → ℕ
rank_at whole i ws = alike whole (group_at i ws) (member_at i ws) (suc i) ws

unfoldable pub within : Bool → ℕ → ℕ → List ℤ → Bool
within whole limit k ws = each (λ i. leb (rank_at whole i ws) limit) k
