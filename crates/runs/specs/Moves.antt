-- What a step can do to the state: a property that each of the machine's moves keeps is kept by a step, and by a whole run.
-- `run-keeps` is the theorem: give a `Kept` for a property, and it holds of a run's final state if it held at first. `Known` is for a
-- property that also says something, `U`, of each action as it is done; `step-leads` for a step that leads from one property to another.
use Rattle.std.specs.Prelude.{ℕ, pred, ◌<◌, ◌≡◌, Bool, ◌&&◌, ℤ, pos, length, take}
use Rattle.std.proofs.Math.Path.{refl}
use Rattle.std.proofs.Common.{subst, ltb-true, leb-false}
use Rattle.std.proofs.Math.Bool.{true, false}
use mathlib.Core.List.{List, [], ◌∷◌, ◌++◌, map}
use Rattle.std.proofs.Math.Option.{Option, none, some}
use Rattle.std.proofs.Math.Dec.{leb, ltb}
use Rattle.std.specs.Int.Signed.{mag}
use Rattle.language.specs.Basics.{last?, but_last, eq_z}
use Rattle.language.specs.Text.{Action, CL, GO, IF, KN, AR, AD, RM, QY, Block, Stmt, BK, DO, label_index, decl_formals, decl_body, formal_names, formal_kinds}
use Rattle.language.specs.Scope.{agree}
use Rattle.language.specs.Table.{holds, size, at_least_one, full, add, remove, leaves, halts, Asked, gives, refuses, added, removed, queried}
use Rattle.language.specs.Machine.{Activation, State, Limits, Instance, Done, did, stop, with_live, with_table, counted, resume, store, value, enter, instance, kind_at, enter_if_room, call, jump, compute, store_if_fits, as_done, as_stored, add_pair, remove_pair, query_pair, do_action, do_stmt, next_stmt, advance, step_in, step, ends, run}
use Rattle.language.specs.declared.Stop.TheVariants.{ResultTooLarge, NoActivationLeft, NumberBelowOne, ArgumentsDiffer}
use Rattle.laws.specs.Machines.{runs-keep}
use Rattle.runs.specs.Running.{copied, run-runs}

-- the machine's moves, each with what is known where it is made
pub record Kept (l : Limits) (P : State → Type 0) : Type 0 where
  pub left : (s : State) → P s → P (with_live s (but_last s.live))
  pub advanced : (s : State) (a : Activation) → last? s.live ≡ some a → P s → P (advance s a)
  pub stored : (s : State) (x : ℕ) (z : ℤ) → P s → P (store s x z)
  -- a block of the text of the innermost activation, which has been advanced
  pub entered : (s : State) (a : Activation) (b : Block) → last? s.live ≡ some a → next_stmt a ≡ some (BK b) → length (advance s a).live < l.activations → P s → P (enter (advance s a) [] [] b (length (advance s a).live) a.reads)
  pub called : (s : State) (p : ℕ) (xs : List ℕ) (i : Instance) → instance s p ≡ some i → agree (formal_kinds (decl_formals i.decl)) (map (kind_at s) xs) ≡ true → length s.live < l.activations → P s → P (enter s (formal_names (decl_formals i.decl)) xs (decl_body i.decl) i.number i.home.reads)
  pub jumped : (s : State) (x : ℕ) (i : Instance) → instance s x ≡ some i → P s → P (with_live s (take (pred i.number) s.live ++ (resume i.home (label_index i.decl) ∷ [])))
  pub added : (s : State) (g m : ℤ) → at_least_one g && at_least_one m ≡ true → holds g m s.table ≡ false → size g s.table < l.limit → full s.table ≡ false → P s → P (with_table s (add g m s.table))
  pub removed : (s : State) (g m : ℤ) → P s → P (with_table s (remove g m s.table))

pub record Known (l : Limits) (P : State → Type 0) (U : State → Action → Type 0) : Type 0 where
  pub left : (s : State) (a : Activation) → last? s.live ≡ some a → P s → P (with_live s (but_last s.live))
  pub advanced : (s : State) (a : Activation) (at : ℕ) (x : Action) → last? s.live ≡ some a → next_stmt a ≡ some (DO at x) → P s → P (advance s a) × U (advance s a) x
  pub stored : (s : State) (x : ℕ) (z : ℤ) → P s → P (store s x z)
  pub entered : (s : State) (a : Activation) (b : Block) → last? s.live ≡ some a → next_stmt a ≡ some (BK b) → length (advance s a).live < l.activations → P s → P (enter (advance s a) [] [] b (length (advance s a).live) a.reads)
  pub called : (s : State) (p : ℕ) (xs : List ℕ) (i : Instance) → U s (CL p xs) → instance s p ≡ some i → agree (formal_kinds (decl_formals i.decl)) (map (kind_at s) xs) ≡ true → length s.live < l.activations → P s → P (enter s (formal_names (decl_formals i.decl)) xs (decl_body i.decl) i.number i.home.reads)
  pub jumped : (s : State) (x : ℕ) (i : Instance) → U s (GO x) → instance s x ≡ some i → P s → P (with_live s (take (pred i.number) s.live ++ (resume i.home (label_index i.decl) ∷ [])))
  -- an IF asks of its label what a GO does
  pub branched : (s : State) (v x : ℕ) → U s (IF v x) → U s (GO x)
  pub added : (s : State) (g m : ℤ) → at_least_one g && at_least_one m ≡ true → holds g m s.table ≡ false → size g s.table < l.limit → full s.table ≡ false → P s → P (with_table s (add g m s.table))
  pub removed : (s : State) (g m : ℤ) → P s → P (with_table s (remove g m s.table))

-- from a property P of the state before a step, which advancing keeps, to a property Q of the state after it
pub record Leads (l : Limits) (P Q : State → Type 0) (U : State → Action → Type 0) : Type 0 where
  pub left : (s : State) (a : Activation) → last? s.live ≡ some a → P s → Q (with_live s (but_last s.live))
  pub advanced : (s : State) (a : Activation) (at : ℕ) (x : Action) → last? s.live ≡ some a → next_stmt a ≡ some (DO at x) → P s → P (advance s a) × U (advance s a) x
  pub stays : (s : State) → P s → Q s
  pub stored : (s : State) (x : ℕ) (z : ℤ) → P s → Q (store s x z)
  pub entered : (s : State) (a : Activation) (b : Block) → last? s.live ≡ some a → next_stmt a ≡ some (BK b) → length (advance s a).live < l.activations → P s → Q (enter (advance s a) [] [] b (length (advance s a).live) a.reads)
  pub called : (s : State) (p : ℕ) (xs : List ℕ) (i : Instance) → U s (CL p xs) → instance s p ≡ some i → agree (formal_kinds (decl_formals i.decl)) (map (kind_at s) xs) ≡ true → length s.live < l.activations → P s → Q (enter s (formal_names (decl_formals i.decl)) xs (decl_body i.decl) i.number i.home.reads)
  pub jumped : (s : State) (x : ℕ) (i : Instance) → U s (GO x) → instance s x ≡ some i → P s → Q (with_live s (take (pred i.number) s.live ++ (resume i.home (label_index i.decl) ∷ [])))
  -- an IF asks of its label what a GO does
  pub branched : (s : State) (v x : ℕ) → U s (IF v x) → U s (GO x)
  pub added : (s : State) (g m : ℤ) → at_least_one g && at_least_one m ≡ true → holds g m s.table ≡ false → size g s.table < l.limit → full s.table ≡ false → P s → Q (with_table s (add g m s.table))
  pub removed : (s : State) (g m : ℤ) → P s → Q (with_table s (remove g m s.table))

-- a property of the state after a statement, where it did not stop
abbrev pub After : (State → Type 0) → Done → Type 0
After P (did s) = P s
After P (stop c) = Unit {0}

-- A property that a step keeps is kept by a run. `counts`: it does not depend on the count of steps.
pub run-after : (l : Limits) (P : State → Type 0) → ((s : State) → P s → After P (step l s)) → ((s s' : State) → P s' → P (counted s s')) → (n : ℕ) (s : State) → P s → P (run l n s).final
unfolding ends
run-after l P keeps counts n s =
    runs-keep (copied l) P (λ r. P r.final) (λ e o t p. p) (λ t t' k g p. counts t t' (subst (After P) g (keeps t p))) (run-runs l n s)

module _ (l : Limits) (P Q : State → Type 0) (U : State → Action → Type 0) (k : Leads l P Q U) where
  jump-keeps : (s : State) (x : ℕ) → U s (GO x) → P s → Q (jump s x)
  unfolding jump
  jump-keeps s x u h = go (instance s x) refl
    where
      go : (o : Option Instance) → instance s x ≡ o → Q (elim o [ none ↦ s | some i ↦ with_live s (take (pred i.number) s.live ++ (resume i.home (label_index i.decl) ∷ [])) ])
      go none e = k.stays s h
      go (some i) e = k.jumped s x i u e h

  call_enters : (s : State) (p : ℕ) (xs : List ℕ) (i : Instance) → U s (CL p xs) → instance s p ≡ some i → agree (formal_kinds (decl_formals i.decl)) (map (kind_at s) xs) ≡ true → P s → After Q (enter_if_room l s (formal_names (decl_formals i.decl)) xs (decl_body i.decl) i.number i.home.reads)
  unfolding enter_if_room
  call_enters s p xs i u e a h = go (ltb (length s.live) l.activations) refl
    where
      go : (t : Bool) → ltb (length s.live) l.activations ≡ t → After Q (elim t [ true ↦ did (enter s (formal_names (decl_formals i.decl)) xs (decl_body i.decl) i.number i.home.reads) | false ↦ stop NoActivationLeft ])
      go true r = k.called s p xs i u e a (ltb-true _ _ r) h
      go false r = tt

  call-keeps : (s : State) (p : ℕ) (xs : List ℕ) → U s (CL p xs) → P s → After Q (call l s p xs)
  unfolding call
  call-keeps s p xs u h = go (instance s p) refl
    where
      on : (i : Instance) → instance s p ≡ some i → (t : Bool) → agree (formal_kinds (decl_formals i.decl)) (map (kind_at s) xs) ≡ t → After Q (elim t [ true ↦ enter_if_room l s (formal_names (decl_formals i.decl)) xs (decl_body i.decl) i.number i.home.reads | false ↦ stop ArgumentsDiffer ])
      on i e true r = call_enters s p xs i u e r h
      on i e false r = tt

      go : (o : Option Instance) → instance s p ≡ o → After Q (elim o [ none ↦ did s | some i ↦ elim (agree (formal_kinds (decl_formals i.decl)) (map (kind_at s) xs)) [ true ↦ enter_if_room l s (formal_names (decl_formals i.decl)) xs (decl_body i.decl) i.number i.home.reads | false ↦ stop ArgumentsDiffer ] ])
      go none e = k.stays s h
      go (some i) e = on i e (agree (formal_kinds (decl_formals i.decl)) (map (kind_at s) xs)) refl

  if-keeps : (s : State) (x : ℕ) → U s (GO x) → P s → (t : Bool) → After Q (elim t [ true ↦ did s | false ↦ did (jump s x) ])
  if-keeps s x u h true = k.stays s h
  if-keeps s x u h false = jump-keeps s x u h

  store_if_fits-keeps : (s : State) (x : ℕ) (z : ℤ) → P s → After Q (store_if_fits s x z)
  unfolding store_if_fits
  store_if_fits-keeps s x z h = go (ltb (mag z) 2147483648)
    where
      go : (t : Bool) → After Q (elim t [ true ↦ did (store s x z) | false ↦ stop ResultTooLarge ])
      go true = k.stored s x z h
      go false = tt

  add_pair-keeps : (s : State) (g m : ℤ) → P s → After Q (add_pair l s g m)
  unfolding add_pair added as_done with_table
  add_pair-keeps s g m h = go (at_least_one g && at_least_one m) refl (holds g m s.table) refl (leb l.limit (size g s.table)) refl (full s.table) refl
    where
      go : (n : Bool) → at_least_one g && at_least_one m ≡ n → (a : Bool) → holds g m s.table ≡ a → (z : Bool) → leb l.limit (size g s.table) ≡ z → (f : Bool) → full s.table ≡ f → After Q (add_pair l s g m)
      go false n a a' z z' f f' = rw (n, added) tt
      go true n true a z z' f f' = rw (n, a, added) (k.stays s h)
      go true n false a true z f f' = rw (n, a, z, added) tt
      go true n false a false z true f = rw (n, a, z, f, added) tt
      go true n false a false z false f = rw (n, a, z, f, added) (k.added s g m n a (leb-false _ _ z) f h)

  remove_pair-keeps : (s : State) (g m : ℤ) → P s → After Q (remove_pair s g m)
  unfolding remove_pair removed as_done
  remove_pair-keeps s g m h = go (at_least_one g && at_least_one m)
    where
      go : (t : Bool) → After Q (as_done s (elim t [ false ↦ halts NumberBelowOne | true ↦ leaves (remove g m s.table) ]))
      go false = tt
      go true = k.removed s g m h

  query_pair-keeps : (s : State) (x : ℕ) (g m : ℤ) → P s → After Q (query_pair s x g m)
  unfolding query_pair as_stored
  query_pair-keeps s x g m h = go (queried g m s.table)
    where
      go : (o : Asked) → After Q (as_stored s x o)
      go (gives z) = k.stored s x z h
      go (refuses c) = tt

  do_action-keeps : (s : State) (a : Action) → U s a → P s → After Q (do_action l s a)
  unfolding do_action
  do_action-keeps s (CL p xs) u h = call-keeps s p xs u h
  do_action-keeps s (GO x) u h = jump-keeps s x u h
  do_action-keeps s (IF v x) u h = if-keeps s x (k.branched s v x u) h (eq_z (value s v) (pos 0))
  do_action-keeps s (KN t z) u h = k.stored s t z h
  do_action-keeps s (AR t o a b) u h = store_if_fits-keeps s t (compute o (value s a) (value s b)) h
  do_action-keeps s (AD g m) u h = add_pair-keeps s (value s g) (value s m) h
  do_action-keeps s (RM g m) u h = remove_pair-keeps s (value s g) (value s m) h
  do_action-keeps s (QY t g m) u h = query_pair-keeps s t (value s g) (value s m) h

  do_stmt-keeps : (s : State) (a : Activation) (x : Stmt) → last? s.live ≡ some a → next_stmt a ≡ some x → P s → After Q (do_stmt l (advance s a) a x)
  unfolding do_stmt enter_if_room
  do_stmt-keeps s a (BK b) e n h = go (ltb (length (advance s a).live) l.activations) refl
    where
      go : (t : Bool) → ltb (length (advance s a).live) l.activations ≡ t → After Q (elim t [ true ↦ did (enter (advance s a) [] [] b (length (advance s a).live) a.reads) | false ↦ stop NoActivationLeft ])
      go true r = k.entered s a b e n (ltb-true _ _ r) h
      go false r = tt
  do_stmt-keeps s a (DO at x) e n h = let r = k.advanced s a at x e n h in do_action-keeps (advance s a) x r.1 r.0

  step_in-keeps : (s : State) (a : Activation) → last? s.live ≡ some a → P s → After Q (step_in l s a)
  unfolding step_in
  step_in-keeps s a e h = go (next_stmt a) refl
    where
      go : (o : Option Stmt) → next_stmt a ≡ o → After Q (elim o [ none ↦ did (with_live s (but_last s.live)) | some x ↦ do_stmt l (advance s a) a x ])
      go none n = k.left s a e h
      go (some x) n = do_stmt-keeps s a x e n h

  pub step-leads : (s : State) → P s → After Q (step l s)
  unfolding step
  step-leads s h = go (last? s.live) refl
    where
      go : (o : Option Activation) → last? s.live ≡ o → After Q (elim o [ none ↦ did s | some a ↦ step_in l s a ])
      go none e = k.stays s h
      go (some a) e = step_in-keeps s a e h

module _ (l : Limits) (P : State → Type 0) (U : State → Action → Type 0) (k : Known l P U) where
  leads : Leads l P P U
  leads =
      record { left = k.left; advanced = k.advanced; stays = λ s h. h; stored = k.stored; entered = k.entered; called = k.called; jumped = k.jumped; branched = k.branched; added = k.added; removed = k.removed }

  pub step-knows : (s : State) → P s → After P (step l s)
  step-knows s h = step-leads l P P U leads s h

module _ (l : Limits) (P : State → Type 0) (k : Kept l P) where
  known : Known l P (λ s a. Unit {0})
  known =
      record { left = λ s a e h. k.left s h; advanced = λ s a at x e n h. (k.advanced s a e h, tt); stored = k.stored; entered = k.entered; called = λ s p xs i u e g r h. k.called s p xs i e g r h; jumped = λ s x i u e h. k.jumped s x i e h; branched = λ s v x u. tt; added = k.added; removed = k.removed }

  pub step_keeps : (s : State) → P s → After P (step l s)
  step_keeps s h = step-knows l P (λ s' a. Unit {0}) known s h

  pub run-keeps : ((s s' : State) → P s' → P (counted s s')) → (n : ℕ) (s : State) → P s → P (run l n s).final
  run-keeps counts n s h = run-after l P step_keeps counts n s h
