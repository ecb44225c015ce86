-- A table that is right at first is right when a run ends: `run-right`. `add_right` and `remove-right` of crate `table_laws` are its two cases.
use Rattle.std.specs.Prelude.{ℕ, ◌≡◌, true}
use Rattle.language.specs.Table.{right}
use Rattle.language.specs.Machine.{State, Limits, with_live, with_table, counted, store, enter, advance, run}
use Rattle.table_laws.specs.Changes.{add_right, remove-right}
use Rattle.runs.specs.Moves.{Kept, run-keeps}

right_kept : (l : Limits) → Kept l (λ s. right l.limit s.table ≡ true)
unfolding with_live with_table store enter advance
right_kept l =
    record { left = λ s h. h; advanced = λ s a e h. h; stored = λ s x z h. h; entered = λ s a b e n r h. h; called = λ s p xs i e g r h. h; jumped = λ s x i e h. h; added = λ s g m n a z f h. add_right l.limit g m s.table h n a z f; removed = λ s g m h. remove-right l.limit g m s.table h }

pub run-right : (l : Limits) (n : ℕ) (s : State) → right l.limit s.table ≡ true → right l.limit (run l n s).final.table ≡ true
unfolding counted
run-right l n s h = run-keeps l (λ x. right l.limit x.table ≡ true) (right_kept l) (λ x y q. q) n s h
