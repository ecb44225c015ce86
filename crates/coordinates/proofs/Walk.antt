-- What a step can do, move by move. `action-by`: what holds after each move that an action can make holds after the action, if it acts;
-- `step_by` says so of a step.
use Rattle.std.specs.Prelude.{ℕ, pred, true, ◌≡◌, ℤ, length, take}
use mathlib.Core.List.{List, [], ◌∷◌, ◌++◌, map}
use Rattle.std.proofs.Math.Option.{Option, none, some}
use Rattle.std.proofs.Math.Path.{refl, subst}
use Rattle.std.proofs.Common.{sym, ap}
use Rattle.language.specs.Basics.{last?, but_last}
use Rattle.language.specs.Text.{Action, CL, GO, IF, KN, AR, AD, RM, QY, Block, Decl, Stmt, BK, DO, label_index, decl_formals, decl_body, formal_kinds}
use Rattle.language.specs.Scope.{agree}
use Rattle.language.specs.Table.{Table, add, remove}
use Rattle.language.specs.Machine.{Limits}
use Rattle.laws.specs.Lists.{by-elements}
use Rattle.frames.specs.Frame.{Frame, Stack, numbered, frame_number, decl_of, kind_of, designates, with_frames, table_changed, continue, new_frame, put, map_action, act, act_stmt, frame_stmt, advance_frame, frame_step}
use Rattle.frames.specs.Running.{After}
use Rattle.frame_laws.specs.Actions.{stores, does}
use Rattle.frame_laws.specs.Innermost.{last-innermost, but_last-innermost, advanced, step-none}
use Rattle.frame_laws.specs.Cases.{enter-cases, call-cases, go-cases, if-cases, compute-cases, add-cases, remove-cases, ask-cases, step-cases}

-- the variable that an action sets
unfoldable pub target_of : Action → Option ℕ
target_of (CL p xs) = none
target_of (GO l) = none
target_of (IF v l) = none
target_of (KN t z) = some t
target_of (AR t o a b) = some t
target_of (AD g m) = none
target_of (RM g m) = none
target_of (QY t g m) = some t

-- the moves that an action on u can make, its names being found
pub record Moves (P : Stack → Type 0) (u : Stack) (a : Action) : Type 0 where
  pub stays : P u
  pub tabled : (t : Table) → P (table_changed u t)
  pub stored : (x : ℕ) (z : ℤ) → target_of a ≡ some x → P (put u x z)
  pub jumped : (x : ℕ) (f : Frame) (d : Decl) → numbered u.frames (frame_number x) ≡ some f → decl_of u.frames x ≡ some d → P (with_frames u (take (pred (frame_number x)) u.frames ++ (continue f (label_index d) ∷ [])))
  pub called : (p : ℕ) (xs : List ℕ) (d : Decl) → a ≡ CL p xs → decl_of u.frames p ≡ some d → agree (formal_kinds (decl_formals d)) (map (kind_of u.frames) xs) ≡ true → P (with_frames u (u.frames ++ (new_frame (decl_formals d) xs (decl_body d) (frame_number p) ∷ [])))

module _ (P : Stack → Type 0) (l : Limits) (u : Stack) where
  goto-by : (a : Action) → Moves P u a → (x : ℕ) → After P (act l u (GO x))
  goto-by a m x = go-cases l u (After P) (λ c. tt) x m.stays (m.jumped x)

  pub action-by : (a : Action) → Moves P u a → After P (act l u a)
  unfolding put target_of
  action-by (CL p xs) m = call-cases l u (After P) (λ c. tt) p xs m.stays (λ d e q h. m.called p xs d refl e q)
  action-by (GO x) m = goto-by (GO x) m x
  action-by (IF v x) m = if-cases l u (After P) (λ c. tt) v x m.stays (goto-by (IF v x) m x)
  action-by (KN t z) m = subst (After P) (sym (stores l u t z)) (m.stored t z refl)
  action-by (AR t o a b) m = compute-cases l u (After P) (λ c. tt) t o a b (λ z h. m.stored t z refl)
  action-by (AD x y) m = add-cases l u (After P) (λ c. tt) x y m.stays (λ g n p q r f. m.tabled (add g n u.table))
  action-by (RM x y) m = remove-cases l u (After P) (λ c. tt) x y (λ g n. m.tabled (remove g n u.table))
  action-by (QY t x y) m = ask-cases l u (After P) (λ c. tt) t x y (λ z h. m.stored t z refl)

-- a step: nothing is left, a return, a block entered, or an action after the statement number is set on
pub record Steps (P : Stack → Type 0) (s : Stack) : Type 0 where
  pub over : last? s.frames ≡ none → P s
  pub returned : (f : Frame) → last? s.frames ≡ some f → frame_stmt f ≡ none → P (with_frames s (but_last s.frames))
  pub opened : (f : Frame) (b : Block) → last? s.frames ≡ some f → frame_stmt f ≡ some (BK b) → let u = advance_frame s f in P (with_frames u (u.frames ++ (new_frame [] [] b (length u.frames) ∷ [])))
  pub done : (f : Frame) (at : ℕ) (a : Action) → last? s.frames ≡ some f → frame_stmt f ≡ some (DO at a) → let u = advance_frame s f in Moves P u (map_action (designates u.frames) a)

module _ (P : Stack → Type 0) (s : Stack) (l : Limits) (h : Steps P s) where
  statement-by : (f : Frame) → last? s.frames ≡ some f → (x : Stmt) → frame_stmt f ≡ some x → After P (act_stmt l (advance_frame s f) x)
  statement-by f e (BK b) q = enter-cases l (advance_frame s f) (After P) (λ c. tt) b (λ r. h.opened f b e q)
  statement-by f e (DO at a) q =
      let u = advance_frame s f in subst (After P) (sym (does l u at a)) (action-by P l u (map_action (designates u.frames) a) (h.done f at a e q))

  pub step_by : After P (frame_step l s)
  unfolding last?
  step_by =
      by-elements s.frames (λ e. subst (After P) (sym (step-none l s e)) (h.over (ap last? e)))
      (λ n. step-cases l s (After P) n
      (λ pre f e q. subst (λ (fs : List Frame). P (with_frames s fs)) (but_last-innermost s pre f e) (h.returned f (last-innermost s pre f e) q))
      (λ pre f x e q. subst (λ (u : Stack). After P (act_stmt l u x)) (advanced s pre f e) (statement-by f (last-innermost s pre f e) x q)))
