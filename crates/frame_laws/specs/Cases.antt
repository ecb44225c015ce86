-- How to prove a property of whatever a step comes to: give it for each outcome, with what is known there.
-- `step-cases` takes a step apart, and then a rule for each statement.
use Rattle.std.specs.Prelude.{ℕ, suc, pred, ◌≤◌, ◌<◌, ◌≡◌, refl, Bool, true, false, ◌&&◌, cond, List, [], ◌∷◌, ◌++◌, map, leb, ltb, ℤ, pos, length, take}
use Rattle.std.proofs.Common.{sym, subst, ltb-true, leb-false, arith}
use Rattle.std.proofs.Math.Option.{none, some}
use Rattle.std.specs.Int.Signed.{mag}
use Rattle.language.specs.Basics.{eq_z}
use Rattle.language.specs.Text.{Operation, CL, GO, IF, AR, AD, RM, QY, Block, Decl, Stmt, BK, label_index, decl_formals, decl_body, formal_kinds}
use Rattle.language.specs.Scope.{agree}
use Rattle.language.specs.Table.{holds, size, at_least_one, full, add, remove}
use Rattle.language.specs.Machine.{Limits, compute}
use Rattle.language.specs.declared.Stop.{Stop}
use Rattle.language.specs.declared.Stop.TheVariants.{ResultTooLarge, NoActivationLeft, NumberBelowOne, GroupFull, TableFull, ArgumentsDiffer}
use Rattle.laws.specs.Tests.{split, by-lookup}
use Rattle.frames.specs.Frame.{Frame, Stack, Acted, acted, halted, with_frames, table_changed, continue, numbered, frame_number, decl_of, kind_of, word_at, put_word, new_frame, act, act_stmt, frame_stmt, frame_step}
use Rattle.frame_laws.specs.Finding.{decl_of-frame}
use Rattle.frame_laws.specs.Actions.{calls-nothing, calls-differing, calls-full, calls, goes, goes-nowhere, passes, jumps, computes, computes-past, adds-below-one, adds-held, adds-group-full, adds-table-full, adds, removes-below-one, removes, asks-below-one, asks, enters, enters-full}
use Rattle.frame_laws.specs.Innermost.{innermost, step-leaves, step-does}

module _ (l : Limits) (s : Stack) (Q : Acted → Type 0) (stops : (c : Stop) → Q (halted c)) where
  pub enter-cases : (b : Block) → (length s.frames < l.activations → Q (acted (with_frames s (s.frames ++ (new_frame [] [] b (length s.frames) ∷ []))))) → Q (act_stmt l s (BK b))
  enter-cases b h =
      split (ltb (length s.frames) l.activations) (λ t. subst Q (sym (enters l s b t)) (h (ltb-true _ _ t))) (λ t. subst Q (sym (enters-full l s b t)) (stops NoActivationLeft))

  pub call-cases : (p : ℕ) (xs : List ℕ) → Q (acted s)
      → ((d : Decl) → decl_of s.frames p ≡ some d → agree (formal_kinds (decl_formals d)) (map (kind_of s.frames) xs) ≡ true → length s.frames < l.activations → Q (acted (with_frames s (s.frames ++ (new_frame (decl_formals d) xs (decl_body d) (frame_number p) ∷ [])))))
      → Q (act l s (CL p xs))
  call-cases p xs n h =
      by-lookup (decl_of s.frames p) (λ e. subst Q (sym (calls-nothing l s p xs e)) n)
      (λ d e. split (agree (formal_kinds (decl_formals d)) (map (kind_of s.frames) xs))
      (λ a. split (ltb (length s.frames) l.activations) (λ t. subst Q (sym (calls l s p xs d e a t)) (h d e a (ltb-true _ _ t))) (λ t. subst Q (sym (calls-full l s p xs d e a t)) (stops NoActivationLeft)))
      (λ a. subst Q (sym (calls-differing l s p xs d e a)) (stops ArgumentsDiffer)))

  pub go-cases : (x : ℕ) → Q (acted s)
      → ((f : Frame) (d : Decl) → numbered s.frames (frame_number x) ≡ some f → decl_of s.frames x ≡ some d → Q (acted (with_frames s (take (pred (frame_number x)) s.frames ++ (continue f (label_index d) ∷ [])))))
      → Q (act l s (GO x))
  go-cases x n h =
      by-lookup (decl_of s.frames x) (λ e. subst Q (sym (goes-nowhere l s x e)) n)
      (λ d e. let q = decl_of-frame s.frames x d e in subst Q (sym (goes l s x q.0 d q.1 e)) (h q.0 d q.1 e))

  pub if-cases : (v x : ℕ) → Q (acted s) → Q (act l s (GO x)) → Q (act l s (IF v x))
  if-cases v x n h =
      split (eq_z (word_at s.frames v) (pos 0)) (λ t. subst Q (sym (passes l s v x _ refl t)) n) (λ t. subst Q (sym (jumps l s v x _ refl t)) h)

  pub compute-cases : (t : ℕ) (o : Operation) (a b : ℕ) → ((z : ℤ) → mag z < 2147483648 → Q (acted (with_frames s (put_word s.frames t z)))) → Q (act l s (AR t o a b))
  compute-cases t o a b h =
      split (ltb (mag (compute o (word_at s.frames a) (word_at s.frames b))) 2147483648) (λ e. subst Q (sym (computes l s t o a b _ _ refl refl e)) (h _ (ltb-true _ _ e))) (λ e. subst Q (sym (computes-past l s t o a b _ _ refl refl e)) (stops ResultTooLarge))

  pub add-cases : (x y : ℕ) → Q (acted s)
      → ((g m : ℤ) → at_least_one g && at_least_one m ≡ true → holds g m s.table ≡ false → size g s.table < l.limit → full s.table ≡ false → Q (acted (table_changed s (add g m s.table))))
      → Q (act l s (AD x y))
  add-cases x y n h =
      let g = word_at s.frames x in
      let m = word_at s.frames y in
      split (at_least_one g && at_least_one m)
      (λ e. split (holds g m s.table) (λ i. subst Q (sym (adds-held l s x y g m refl refl e i)) n)
      (λ i. split (leb l.limit (size g s.table)) (λ z. subst Q (sym (adds-group-full l s x y g m refl refl e i z)) (stops GroupFull))
      (λ z. split (full s.table) (λ f. subst Q (sym (adds-table-full l s x y g m refl refl e i z f)) (stops TableFull))
      (λ f. subst Q (sym (adds l s x y g m refl refl e i z f)) (h g m e i (leb-false _ _ z) f)))))
      (λ e. subst Q (sym (adds-below-one l s x y g m refl refl e)) (stops NumberBelowOne))

  pub remove-cases : (x y : ℕ) → ((g m : ℤ) → Q (acted (table_changed s (remove g m s.table)))) → Q (act l s (RM x y))
  remove-cases x y h =
      let g = word_at s.frames x in
      let m = word_at s.frames y in
      split (at_least_one g && at_least_one m) (λ e. subst Q (sym (removes l s x y g m refl refl e)) (h g m)) (λ e. subst Q (sym (removes-below-one l s x y g m refl refl e)) (stops NumberBelowOne))

  small : (b : Bool) → mag (cond b (pos 1) (pos 0)) < 2147483648
  small true = omega arith
  small false = omega arith

  pub ask-cases : (t x y : ℕ) → ((z : ℤ) → mag z < 2147483648 → Q (acted (with_frames s (put_word s.frames t z)))) → Q (act l s (QY t x y))
  ask-cases t x y h =
      let g = word_at s.frames x in
      let m = word_at s.frames y in
      split (at_least_one g && at_least_one m) (λ e. subst Q (sym (asks l s x y g m refl refl t e)) (h _ (small (holds g m s.table)))) (λ e. subst Q (sym (asks-below-one l s x y g m refl refl t e)) (stops NumberBelowOne))

-- a step leaves the innermost frame or does its next statement
pub step-cases : (l : Limits) (s : Stack) (Q : Acted → Type 0) → 1 ≤ length s.frames
    → ((pre : List Frame) (f : Frame) → s.frames ≡ pre ++ (f ∷ []) → frame_stmt f ≡ none → Q (acted (with_frames s pre)))
    → ((pre : List Frame) (f : Frame) (x : Stmt) → s.frames ≡ pre ++ (f ∷ []) → frame_stmt f ≡ some x → Q (act_stmt l (with_frames s (pre ++ (continue f (suc f.next) ∷ []))) x))
    → Q (frame_step l s)
step-cases l s Q h leave does =
    let q = innermost s h in
    by-lookup (frame_stmt q.1) (λ e. subst Q (sym (step-leaves l s q.0 q.1 q.2 e)) (leave q.0 q.1 q.2 e)) (λ x e. subst Q (sym (step-does l s q.0 q.1 x q.2 e)) (does q.0 q.1 x q.2 e))
