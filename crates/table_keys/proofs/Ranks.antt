-- Pairs with one key: the key is the same for all of them, and a pair's rank counts those before it.
use Prim.Native.Nat.{ℕ, zero, suc, ◌≤◌, ◌<◌}
use mathlib.Core.Path.{◌≡◌, refl, sym, ◌∙◌}
use mathlib.Core.Bool.{Bool, true, false}
use mathlib.Core.List.{List}
use native.Mathlib.Omega.{arith}
use lib.IntN.{ℤ}
use Rattle.laws.specs.Tables.{group_at, member_at}
use Rattle.table_keys.specs.Keys.{same_at, alike, rank_at}
use Rattle.table_keys.proofs.Keys.{same_self, same_key, alike-key, alike-hit, alike-miss, alike-none, rank-next}

module _ (whole : Bool) (ws : List ℤ) where
  pub self : (i : ℕ) → same_at whole ws i i ≡ true
  unfolding same_at
  self i = same_self whole (group_at i ws) (member_at i ws)

  pub key : (i j : ℕ) → same_at whole ws i j ≡ true → (k : ℕ) → same_at whole ws i k ≡ same_at whole ws j k
  unfolding same_at
  key i j e k = same_key whole (group_at i ws) (member_at i ws) (group_at j ws) (member_at j ws) e (group_at k ws) (member_at k ws)

  abbrev pub counted : ℕ → ℕ → ℕ
  counted i k = alike whole (group_at i ws) (member_at i ws) k ws

  pub counted-key : (i j : ℕ) → same_at whole ws i j ≡ true → (k : ℕ) → counted i k ≡ counted j k
  unfolding same_at
  counted-key i j e k = alike-key whole (group_at i ws) (member_at i ws) (group_at j ws) (member_at j ws) e k ws

  pub counted-hit : (j i : ℕ) → same_at whole ws j i ≡ true → counted j (suc i) ≡ suc (counted j i)
  unfolding same_at
  counted-hit j i e = alike-hit whole (group_at j ws) (member_at j ws) i ws e

  pub counted-miss : (j i : ℕ) → same_at whole ws j i ≡ false → counted j (suc i) ≡ counted j i
  unfolding same_at
  counted-miss j i e = alike-miss whole (group_at j ws) (member_at j ws) i ws e

  pub none_of : (i k : ℕ) → ((j : ℕ) → j < k → same_at whole ws i j ≡ false) → counted i k ≡ 0
  none_of i zero h = alike-none whole (group_at i ws) (member_at i ws) ws
  none_of i (suc k) h = counted-miss i k (h k (omega arith)) ∙ none_of i k (λ j l. h j (omega arith))

  pub rank-counted : (i : ℕ) → rank_at whole i ws ≡ suc (counted i i)
  rank-counted i = rank-next whole i ws

  pub turn : (i j : ℕ) → same_at whole ws i j ≡ true → same_at whole ws j i ≡ true
  turn i j e = sym (key i j e i) ∙ self i

  -- no pair before has the key
  pub rank-one : (i : ℕ) → ((j : ℕ) → j < i → same_at whole ws i j ≡ true → ⊥) → rank_at whole i ws ≤ 1
  rank-one i h = omega (arith, rank-counted i, none_of i i (λ j l. go j l (same_at whole ws i j) refl))
    where
      go : (j : ℕ) → j < i → (b : Bool) → same_at whole ws i j ≡ b → b ≡ false
      go j l false e = refl
      go j l true e = absurd (h j l e)
