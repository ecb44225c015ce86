-- What a run never exceeds: at most D activations are live (`live-bound`, and `start-bound` from a run's start on), and the
-- table's words keep their number (`words-kept`).
use Rattle.std.specs.Prelude.{ℕ, suc, pred, ◌≤◌, ◌≡◌, refl, List, [], ◌∷◌, ◌++◌, length, take}
use Rattle.std.proofs.Common.{arith, ◌∙◌, length-append, length-take}
use Rattle.std.proofs.Math.Option.{some}
use Rattle.language.specs.Basics.{last?}
use Rattle.language.specs.Text.{Block, label_index, decl_formals, decl_body, formal_names}
use Rattle.language.specs.Table.{Table}
use Rattle.language.specs.Copy.{Replacement}
use Rattle.language.specs.Machine.{Activation, State, Instance, Limits, with_live, with_table, counted, resume, store, activation, enter, advance, instance, run, start}
use Rattle.laws.specs.Lists.{but_last-length, replaced-length, get_elem-bound}
use Rattle.laws.specs.Tables.{add-length}
use Rattle.laws.specs.Instances.{found_at}
use Rattle.runs.specs.Moves.{Kept, run-keeps}
use Rattle.table_laws.specs.Changes.{remove-length}

words-stay : (l : Limits) (w : ℕ) → Kept l (λ s. length s.table.words ≡ w)
unfolding with_live with_table store enter advance
words-stay l w =
    record { left = λ s h. h; advanced = λ s a e h. h; stored = λ s x z h. h; entered = λ s a b e n r h. h; called = λ s p xs i e g r h. h; jumped = λ s x i e h. h; added = λ s g m n a z f h. add-length g m s.table ∙ h; removed = λ s g m h. remove-length g m s.table ∙ h }

pub words-kept : (l : Limits) (n : ℕ) (s : State) → length (run l n s).final.table.words ≡ length s.table.words
unfolding counted
words-kept l n s = run-keeps l (λ x. length x.table.words ≡ length s.table.words) (words-stay l (length s.table.words)) (λ x y q. q) n s refl

pub advance-length : (s : State) (a : Activation) → last? s.live ≡ some a → length (advance s a).live ≡ length s.live
unfolding advance with_live
advance-length s a e = replaced-length s.live a (resume a (suc a.next)) e

pub enter-length : (s : State) (formals arguments : List ℕ) (b : Block) (encloser : ℕ) (around : List Replacement) → length (enter s formals arguments b encloser around).live ≡ suc (length s.live)
unfolding enter
enter-length s formals arguments b encloser around = length-append s.live (activation formals arguments s.fresh b encloser around ∷ []) ∙ omega arith

-- a jump drops what is above the label's instance, and that is live
pub jump-length : (s : State) (x : ℕ) (i : Instance) (a : Activation) → instance s x ≡ some i → length (take (pred i.number) s.live ++ (a ∷ [])) ≤ length s.live
jump-length s x i a e =
    let h = found_at s x i e in
    let n = h.number_is in
    let b = get_elem-bound s.live h.depth i.home h.home_at in
    simp (length-append, length-take) (omega arith)

live-stays : (l : Limits) → Kept l (λ s. length s.live ≤ l.activations)
unfolding with_live with_table store
live-stays l =
    record { left = λ s h. omega (arith, but_last-length s.live); advanced = λ s a e h. omega (arith, advance-length s a e); stored = λ s x z h. h; entered = λ s a b e n r h. omega (arith, enter-length (advance s a) [] [] b (length (advance s a).live) a.reads); called = λ s p xs i e g r h. omega (arith, enter-length s (formal_names (decl_formals i.decl)) xs (decl_body i.decl) i.number i.home.reads); jumped = λ s x i e h. omega (arith, jump-length s x i (resume i.home (label_index i.decl)) e); added = λ s g m n a z f h. h; removed = λ s g m h. h }

pub live-bound : (l : Limits) (n : ℕ) (s : State) → length s.live ≤ l.activations → length (run l n s).final.live ≤ l.activations
unfolding counted
live-bound l n s h = run-keeps l (λ x. length x.live ≤ l.activations) (live-stays l) (λ x y q. q) n s h

-- a run starts with one activation, the program's
pub start-length : (program : Block) (t : Table) → length (start program t).live ≡ 1
unfolding start enter
start-length program t = refl

pub start-bound : (l : Limits) (n : ℕ) (program : Block) (t : Table) → 1 ≤ l.activations → length (run l n (start program t)).final.live ≤ l.activations
start-bound l n program t h = live-bound l n (start program t) (omega (arith, start-length program t))
