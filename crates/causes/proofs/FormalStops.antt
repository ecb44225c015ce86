-- The frame machine's stop with 26. `run-stopped`: a run that ends stopped leaves a stack whose next step has that cause, and reports its offset.
-- `step-differs`: where that cause is 26, the next statement is a CL, and its arguments differ from the formals of the procedure that the called name
-- designates.
use Prim.Native.Nat.{ℕ, suc, ◌≤◌}
use Rattle.std.proofs.Common.{arith, ◌∙◌}
use Rattle.std.specs.Prelude.{false, ◌&&◌, List, [], ◌∷◌, ◌++◌, map, ◌≢◌, ◌≡◌, leb, ltb, pos, length}
use Rattle.std.proofs.Math.Option.{Option, some}
use Rattle.std.proofs.Math.Path.{refl, sym, ap, fun_ext}
use Rattle.std.specs.Int.Signed.{mag}
use Rattle.language.specs.Basics.{last?, eq_z}
use Rattle.language.specs.Text.{Kind, Action, CL, GO, IF, KN, AR, AD, RM, QY, Decl, Stmt, BK, DO, stmt_at, decl_formals, formal_kinds}
use Rattle.language.specs.Scope.{agree}
use Rattle.language.specs.Table.{holds, size, at_least_one, full}
use Rattle.language.specs.Machine.{Limits, compute}
use Rattle.language.specs.Numbers.{stop_number}
use Rattle.language.specs.declared.Stop.{Stop}
use Rattle.language.specs.declared.Stop.TheVariants.{ResultTooLarge, NoActivationLeft, NumberBelowOne, GroupFull, TableFull, ArgumentsDiffer}
use Rattle.language.specs.declared.End.TheVariants.{Finished, Spent, Stopped}
use Rattle.laws.specs.Tests.{split, by-lookup}
use Rattle.laws.specs.Machines.{Runs, finished, spent, stopped, short, gone}
use Rattle.runs.specs.Reasons.{clash}
use Rattle.frames.specs.Frame.{Frame, Stack, Acted, acted, halted, with_frames, continue, designates, decl_of, kind_of, word_at, map_action, act, frame_stmt, frame_step, frame_offset, Result, results, frame_run}
use Rattle.frames.specs.Running.{framed, run-runs}
use Rattle.frame_laws.specs.Actions.{calls-nothing, calls-full, calls, passes, jumps, computes, computes-past, adds-below-one, adds-held, adds-group-full, adds-table-full, adds, removes-below-one, removes, asks-below-one, asks, enters, enters-full}
use Rattle.frame_laws.specs.Innermost.{innermost, last-innermost, step-leaves, step-does, offset-does}
use Rattle.frame_laws.specs.Continuing.{step-acts, decl_of-advanced, kind_of-advanced}

-- A run that ends stopped

pub record StoppedWith (l : Limits) (c : Stop) (r : Result) : Type 0 where
  pub live : 1 ≤ length r.final.frames
  pub cause : frame_step l r.final ≡ halted c
  pub offset : r.offset ≡ frame_offset r.final

runs-stopped : (l : Limits) (c : Stop) {n : ℕ} {s : Stack} {r : Result} → Runs (framed l) n s r → r.end ≡ Stopped c → StoppedWith l c r
unfolding results
runs-stopped l c (finished e) q = clash Finished (Stopped c) (omega arith) q
runs-stopped l c (spent h z) q = clash Spent (Stopped c) (omega arith) q
runs-stopped l c (stopped d h k x) q = let same : d ≡ c = cc in record { live = h; cause = x ∙ ap halted same; offset = refl }
runs-stopped l c (short t h k g f) q = clash Spent (Stopped c) (omega arith) q
runs-stopped l c (gone t h k g f r) q = runs-stopped l c r q

pub run-stopped : (l : Limits) (n : ℕ) (s : Stack) (c : Stop) → (frame_run l n s).end ≡ Stopped c → StoppedWith l c (frame_run l n s)
run-stopped l n s c q = runs-stopped l c (run-runs l n s) q

-- 26 is a CL's alone

acts-not : {X : Type 0} {r : Acted} {s : Stack} → r ≡ acted s → r ≡ halted ArgumentsDiffer → X
acts-not e q = let z : ◌≡◌ {A = ℕ} 0 1 = cc in absurd (omega arith)

cause-not : {X : Type 0} {r : Acted} (c : Stop) → stop_number c ≢ 26 → r ≡ halted c → r ≡ halted ArgumentsDiffer → X
cause-not c h e q = let same : c ≡ ArgumentsDiffer = cc in absurd (h (ap stop_number same))

-- a CL, its names found, whose arguments differ
abbrev Differing : Stack → Action → Type 0
Differing s (CL p xs) = (d : Decl) × (decl_of s.frames p ≡ some d) × (agree (formal_kinds (decl_formals d)) (map (kind_of s.frames) xs) ≡ false)
Differing s (GO x) = ⊥
Differing s (IF v x) = ⊥
Differing s (KN t z) = ⊥
Differing s (AR t o a b) = ⊥
Differing s (AD g m) = ⊥
Differing s (RM g m) = ⊥
Differing s (QY t g m) = ⊥

module _ (l : Limits) (s : Stack) where
  call-differs : (p : ℕ) (xs : List ℕ) → act l s (CL p xs) ≡ halted ArgumentsDiffer → Differing s (CL p xs)
  call-differs p xs q =
      by-lookup (decl_of s.frames p) (λ e. acts-not (calls-nothing l s p xs e) q)
      (λ d e. split (agree (formal_kinds (decl_formals d)) (map (kind_of s.frames) xs))
      (λ a. split (ltb (length s.frames) l.activations) (λ t. acts-not (calls l s p xs d e a t) q) (λ t. cause-not NoActivationLeft (omega arith) (calls-full l s p xs d e a t) q))
      (λ a. (d, e, a)))

  add-never : (x y : ℕ) → act l s (AD x y) ≡ halted ArgumentsDiffer → ⊥
  add-never x y q =
      let g = word_at s.frames x in
      let m = word_at s.frames y in
      split (at_least_one g && at_least_one m)
      (λ e. split (holds g m s.table) (λ i. acts-not (adds-held l s x y g m refl refl e i) q)
      (λ i. split (leb l.limit (size g s.table)) (λ z. cause-not GroupFull (omega arith) (adds-group-full l s x y g m refl refl e i z) q)
      (λ z. split (full s.table) (λ f. cause-not TableFull (omega arith) (adds-table-full l s x y g m refl refl e i z f) q) (λ f. acts-not (adds l s x y g m refl refl e i z f) q))))
      (λ e. cause-not NumberBelowOne (omega arith) (adds-below-one l s x y g m refl refl e) q)

  remove-never : (x y : ℕ) → act l s (RM x y) ≡ halted ArgumentsDiffer → ⊥
  remove-never x y q =
      let g = word_at s.frames x in
      let m = word_at s.frames y in
      split (at_least_one g && at_least_one m) (λ e. acts-not (removes l s x y g m refl refl e) q) (λ e. cause-not NumberBelowOne (omega arith) (removes-below-one l s x y g m refl refl e) q)

  ask-never : (t x y : ℕ) → act l s (QY t x y) ≡ halted ArgumentsDiffer → ⊥
  ask-never t x y q =
      let g = word_at s.frames x in
      let m = word_at s.frames y in
      split (at_least_one g && at_least_one m) (λ e. acts-not (asks l s x y g m refl refl t e) q) (λ e. cause-not NumberBelowOne (omega arith) (asks-below-one l s x y g m refl refl t e) q)

  action-differs : (a : Action) → act l s a ≡ halted ArgumentsDiffer → Differing s a
  unfolding act
  action-differs (CL p xs) q = call-differs p xs q
  action-differs (GO x) q = acts-not refl q
  action-differs (IF v x) q =
      split (eq_z (word_at s.frames v) (pos 0)) (λ t. acts-not (passes l s v x _ refl t) q) (λ t. acts-not (jumps l s v x _ refl t) q)
  action-differs (KN t z) q = acts-not refl q
  action-differs (AR t o a b) q =
      split (ltb (mag (compute o (word_at s.frames a) (word_at s.frames b))) 2147483648) (λ e. acts-not (computes l s t o a b _ _ refl refl e) q)
      (λ e. cause-not ResultTooLarge (omega arith) (computes-past l s t o a b _ _ refl refl e) q)
  action-differs (AD g m) q = add-never g m q
  action-differs (RM g m) q = remove-never g m q
  action-differs (QY t g m) q = ask-never t g m q

-- The call in a stack whose next step stops with 26, its names found there.
pub record CallDiffers (s : Stack) : Type 0 where
  pub caller : Frame
  pub innermost : last? s.frames ≡ some caller
  pub at : ℕ
  pub called : ℕ
  pub arguments : List ℕ
  pub statement : frame_stmt caller ≡ some (DO at (CL called arguments))
  pub offset : frame_offset s ≡ at
  pub procedure : Decl
  pub designated : decl_of s.frames (designates s.frames called) ≡ some procedure
  pub differ : agree (formal_kinds (decl_formals procedure)) (map (kind_of s.frames) (map (designates s.frames) arguments)) ≡ false

module _ (l : Limits) (s : Stack) (q : frame_step l s ≡ halted ArgumentsDiffer) (pre : List Frame) (f : Frame) (apart : s.frames ≡ pre ++ (f ∷ [])) where
  -- past the statement, as a step does it
  abbrev ahead : Stack
  ahead = with_frames s (pre ++ (continue f (suc f.next) ∷ []))

  abbrev found : ℕ → ℕ
  found = designates s.frames

  on-action : (at : ℕ) (a : Action) → frame_stmt f ≡ some (DO at a) → Differing ahead (map_action found a) → CallDiffers s
  unfolding map_action stmt_at
  on-action at (CL p xs) n h =
      let i = suc f.next in
      let kinds : kind_of ahead.frames ≡ kind_of s.frames = fun_ext (kind_of-advanced s pre f i apart) in
      record {
        caller = f;
        innermost = last-innermost s pre f apart;
        at = at;
        called = p;
        arguments = xs;
        statement = n;
        offset = offset-does s pre f (DO at (CL p xs)) apart n;
        procedure = h.0;
        designated = sym (decl_of-advanced s pre f i apart (found p)) ∙ h.1;
        differ = ap (λ (k : ℕ → Option Kind). agree (formal_kinds (decl_formals h.0)) (map k (map found xs))) (sym kinds) ∙ h.2;
      }
  on-action at (GO x) n h = absurd h
  on-action at (IF v x) n h = absurd h
  on-action at (KN t z) n h = absurd h
  on-action at (AR t o a b) n h = absurd h
  on-action at (AD g m) n h = absurd h
  on-action at (RM g m) n h = absurd h
  on-action at (QY t g m) n h = absurd h

  on-statement : (x : Stmt) → frame_stmt f ≡ some x → CallDiffers s
  on-statement (BK b) n =
      let e = step-does l s pre f (BK b) apart n in
      split (ltb (length ahead.frames) l.activations) (λ t. acts-not (e ∙ enters l ahead b t) q) (λ t. cause-not NoActivationLeft (omega arith) (e ∙ enters-full l ahead b t) q)
  on-statement (DO at a) n = on-action at a n (action-differs l ahead (map_action found a) (sym (step-acts l s pre f at a apart n) ∙ q))

  on-frame : CallDiffers s
  on-frame = by-lookup (frame_stmt f) (λ n. acts-not (step-leaves l s pre f apart n) q) on-statement

pub step-differs : (l : Limits) (s : Stack) → 1 ≤ length s.frames → frame_step l s ≡ halted ArgumentsDiffer → CallDiffers s
step-differs l s h q = let i = innermost s h in on-frame l s q i.0 i.1 i.2
