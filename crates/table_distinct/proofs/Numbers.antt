-- That every number is at least 1, said of each place.
use Prim.Native.Nat.{ℕ, suc, ◌*◌, ◌<◌, ◌≤◌}
use mathlib.Core.Path.{◌≡◌, refl, sym, ◌∙◌, ap}
use mathlib.Core.Bool.{Bool, true, ◌&&◌, and-true, and_assoc}
use mathlib.Core.List.{List}
use native.Mathlib.Omega.{arith}
use lib.IntN.{ℤ}
use lib.ListN.{length}
use Rattle.language.specs.Table.{at_least_one, numbers_right}
use Rattle.laws.specs.Tables.{group_at-suc, member_at-suc}
use Rattle.table_search.proofs.Pairs.{Room, here, next, room}
use Rattle.table_keys.specs.Keys.{each}
use Rattle.table_keys.proofs.Each.{each-is, each_at}
use Rattle.table_distinct.specs.Slots.{numbers_at}

numbers_more : {i : ℕ} {ws : List ℤ} → Room i ws → numbers_right (suc i) ws ≡ (numbers_right i ws && numbers_at ws i)
unfolding numbers_right
numbers_more (here {a} {b} {ws}) = and-true (at_least_one a && at_least_one b)
numbers_more (next {i} {a} {b} {ws} r) =
    ap (λ (t : Bool). at_least_one a && at_least_one b && t) (numbers_more r) ∙ rw (group_at-suc, member_at-suc) (sym (and_assoc (at_least_one a && at_least_one b) (numbers_right i ws) (numbers_at ws i)))

pub numbers-each : (ws : List ℤ) (n : ℕ) → 2 * n ≤ length ws → numbers_right n ws ≡ each (numbers_at ws) n
unfolding numbers_right
numbers-each ws n f = each-is (numbers_at ws) (λ i. numbers_right i ws) n refl (λ i h. numbers_more (room i ws (omega arith)))

pub numbers-at : (ws : List ℤ) (n i : ℕ) → 2 * n ≤ length ws → numbers_right n ws ≡ true → i < n → numbers_at ws i ≡ true
numbers-at ws n i f e h = each_at (numbers_at ws) n i (sym (numbers-each ws n f) ∙ e) h
