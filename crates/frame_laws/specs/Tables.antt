-- The table of a run: `table-length`, it keeps its length, and `table-right`, it stays right. `step-table` carries through a step any
-- property of tables that adding and removing a pair keep, where they are done.
use Rattle.std.specs.Prelude.{ℕ, ◌≤◌, ◌<◌, ◌≡◌, refl, true, false, ◌&&◌, ℤ, length}
use Rattle.std.proofs.Common.{◌∙◌, subst}
use Rattle.language.specs.Text.{Action, CL, GO, IF, KN, AR, AD, RM, QY, Stmt, BK, DO}
use Rattle.language.specs.Table.{Table, holds, size, at_least_one, full, add, remove, right}
use Rattle.language.specs.Machine.{Limits}
use Rattle.laws.specs.Tables.{add-length}
use Rattle.table_laws.specs.Changes.{add_right, remove-length, remove-right}
use Rattle.frames.specs.Frame.{Stack, with_frames, table_changed, stepped, designates, map_action, act, act_stmt, frame_step, frame_run}
use Rattle.frame_laws.specs.Actions.{does, stores}
use Rattle.frames.specs.Running.{After, run-keeps}
use Rattle.frame_laws.specs.Cases.{enter-cases, call-cases, go-cases, if-cases, compute-cases, add-cases, remove-cases, ask-cases, step-cases}

pub record TableKept (l : Limits) (P : Table → Type 0) : Type 0 where
  pub added : (g m : ℤ) (t : Table) → at_least_one g && at_least_one m ≡ true → holds g m t ≡ false → size g t < l.limit → full t ≡ false → P t → P (add g m t)
  pub removed : (g m : ℤ) (t : Table) → P t → P (remove g m t)

module _ (l : Limits) (P : Table → Type 0) (k : TableKept l P) where
  abbrev Tabled : Stack → Type 0
  Tabled s = P s.table

  act-table : (s : Stack) (a : Action) → P s.table → After Tabled (act l s a)
  unfolding with_frames table_changed
  act-table s (CL p xs) h = call-cases l s (After Tabled) (λ c. tt) p xs h (λ d e a r. h)
  act-table s (GO x) h = go-cases l s (After Tabled) (λ c. tt) x h (λ f d e g. h)
  act-table s (IF v x) h = if-cases l s (After Tabled) (λ c. tt) v x h (go-cases l s (After Tabled) (λ c. tt) x h (λ f d e g. h))
  act-table s (KN t z) h = rw (stores l s t z) h
  act-table s (AR t o a b) h = compute-cases l s (After Tabled) (λ c. tt) t o a b (λ z q. h)
  act-table s (AD x y) h = add-cases l s (After Tabled) (λ c. tt) x y h (λ g m n a z f. k.added g m s.table n a z f h)
  act-table s (RM x y) h = remove-cases l s (After Tabled) (λ c. tt) x y (λ g m. k.removed g m s.table h)
  act-table s (QY t x y) h = ask-cases l s (After Tabled) (λ c. tt) t x y (λ z q. h)

  stmt-table : (s : Stack) (x : Stmt) → P s.table → After Tabled (act_stmt l s x)
  unfolding with_frames
  stmt-table s (BK b) h = enter-cases l s (After Tabled) (λ c. tt) b (λ r. h)
  stmt-table s (DO at a) h = rw (does l s at a) (act-table s (map_action (designates s.frames) a) h)

  pub step-table : (s : Stack) → 1 ≤ length s.frames → P s.table → After (λ s'. P (stepped s s').table) (frame_step l s)
  unfolding with_frames stepped
  step-table s n h = step-cases l s (After Tabled) n (λ pre f e q. h) (λ pre f x e q. stmt-table (with_frames s _) x h)

  pub run-table : (n : ℕ) (s : Stack) → P s.table → P (frame_run l n s).final.table
  run-table n s h = run-keeps l Tabled (λ v v' live e q. subst (After (λ w. P (stepped v w).table)) e (step-table v live q)) n s h

pub table-length : (l : Limits) (n : ℕ) (s : Stack) → length (frame_run l n s).final.table.words ≡ length s.table.words
table-length l n s =
    run-table l (λ t. length t.words ≡ length s.table.words) (record { added = λ g m t a b c d h. add-length g m t ∙ h; removed = λ g m t h. remove-length g m t ∙ h }) n s refl

kept-right : (l : Limits) → TableKept l (λ t. right l.limit t ≡ true)
kept-right l = record { added = λ g m t a b c d q. add_right l.limit g m t q a b c d; removed = λ g m t q. remove-right l.limit g m t q }

pub step_right : (l : Limits) (s : Stack) → 1 ≤ length s.frames → right l.limit s.table ≡ true → After (λ s'. right l.limit (stepped s s').table ≡ true) (frame_step l s)
step_right l s n h = step-table l (λ t. right l.limit t ≡ true) (kept-right l) s n h

pub table-right : (l : Limits) (n : ℕ) (s : Stack) → right l.limit s.table ≡ true → right l.limit (frame_run l n s).final.table ≡ true
table-right l n s h = run-table l (λ t. right l.limit t ≡ true) (kept-right l) n s h
