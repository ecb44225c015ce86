-- Whether each pair stands once, told by the ranks.
use Prim.Native.Nat.{ℕ, ◌<◌, ◌≤◌}
use mathlib.Core.Path.{◌≡◌, sym}
use mathlib.Core.Bool.{true, false}
use mathlib.Core.List.{List}
use borrow.Author.Tests.{le-leb, lt-leb}
use lib.IntN.{ℤ}
use Rattle.table_keys.specs.Keys.{rank_at, within}
use Rattle.table_keys.proofs.Keys.{rank_fits}
use Rattle.table_keys.proofs.Each.{each-true, each-false}

pub each_once : (ws : List ℤ) (count : ℕ) → ((j : ℕ) → j < count → rank_at true j ws ≤ 1) → true ≡ within true 1 count ws
unfolding within
each_once ws count f = sym (each-true (rank_fits true 1 ws) count (λ j h. le-leb _ _ (f j h)))

pub one_twice : (ws : List ℤ) (count i : ℕ) → i < count → 1 < rank_at true i ws → false ≡ within true 1 count ws
unfolding within
one_twice ws count i h l = sym (each-false (rank_fits true 1 ws) count i h (lt-leb _ _ l))
