-- What a step does to the activations of the copy-rule machine (`step-moved`): no more are live than before, and they are kept (`Keeps`); or one is
-- entered above them, whose own names are the next new ones (`EntersAnew`). `step_kept`, `step-entered`: which of the two, from how many are live.
use Prim.Native.Nat.{ℕ, suc, pred, ◌+◌, ◌≤◌, ◌<◌}
use Rattle.std.proofs.Common.{arith, ◌∙◌}
use Rattle.std.specs.Prelude.{Bool, ◌≡◌, ◌⊎◌, ltb, ℤ, pos, length, take, drop}
use Rattle.std.proofs.Math.Bool.{true, false}
use mathlib.Core.List.{List, [], ◌∷◌, ◌++◌, map}
use Rattle.std.proofs.Math.Option.{Option, none, some}
use Rattle.std.proofs.Math.Path.{refl, sym, ap, subst}
use Rattle.std.proofs.Math.Logic.{inl, inr}
use Rattle.std.proofs.Math.ListN.{get_elem?, length-map}
use Rattle.std.specs.Int.Signed.{mag}
use Rattle.language.specs.Basics.{up_from, last?, but_last, eq_z}
use Rattle.language.specs.Text.{Action, CL, GO, IF, KN, AR, AD, RM, QY, Formal, Block, Stmt, BK, DO, block_decls, declared_names, label_index, decl_formals, decl_body, formal_names, formal_kinds}
use Rattle.language.specs.Scope.{agree}
use Rattle.language.specs.Table.{Effect, leaves, halts, Asked, gives, refuses, added, removed, queried}
use Rattle.language.specs.Copy.{Replacement}
use Rattle.language.specs.Machine.{Activation, State, Limits, Instance, did, stop, with_live, with_table, resume, store, value, activation, enter, instance, kind_at, enter_if_room, call, jump, compute, store_if_fits, as_done, as_stored, add_pair, remove_pair, query_pair, do_action, do_stmt, next_stmt, advance, step_in, step}
use Rattle.language.specs.declared.Stop.TheVariants.{ResultTooLarge, NoActivationLeft, ArgumentsDiffer}
use Rattle.laws.specs.Distinct.{Distinct}
use Rattle.laws.specs.Lists.{last-split, snoc-length, replaced-length, get_elem-append, get_elem-seam}
use Rattle.laws.specs.Kinds.{agree-many}
use Rattle.laws.specs.Instances.{found_at}
use Rattle.runs.specs.Moves.{After}
use Rattle.instances.proofs.Closed.{InStmt}
use Rattle.instances.proofs.Invariant.{live_kinds, Invariant}
use Rattle.instances.proofs.Steps.{next-closed, advanced, live-split, home-of, body-in}
use Rattle.copy_machine.proofs.Kept.{Same, Kept, kept-all, kept-first, kept-resumed, kept_then, kept-few}
use Rattle.copy_machine.proofs.Anew.{names-once, new-many, new-names}

pub record Keeps (s s' : State) : Type 0 where
  pub kept : Kept s.live s'.live
  pub fresh-is : s'.fresh ≡ s.fresh

-- the names that the next statement hands to the activation that it enters
abbrev pub Hands : Activation → List ℕ → Type 0
Hands a given = ((at p : ℕ) × (xs : List ℕ) × (next_stmt a ≡ some (DO at (CL p xs))) × (given ≡ xs)) ⊎ ((b : Block) × (next_stmt a ≡ some (BK b)) × (given ≡ []))

-- a is the innermost activation before
pub record EntersAnew (s s' : State) (a : Activation) : Type 0 where
  pub kept : (k : ℕ) (c : Activation) → k < length s.live → get_elem? s'.live k ≡ some c → (b : Activation) × (get_elem? s.live k ≡ some b) × Same b c
  pub deep : length s'.live ≡ suc (length s.live)
  pub new : Activation
  pub there : get_elem? s'.live (length s.live) ≡ some new
  pub names-are : declared_names new.text ≡ up_from s.fresh (length (block_decls new.text))
  pub fresh-is : s'.fresh ≡ s.fresh + length (block_decls new.text)
  pub arguments-are : Hands a new.arguments

module _ (l : Limits) (s : State) (a : Activation) (inv : Invariant s) (last : last? s.live ≡ some a) where
  abbrev Moved : State → Type 0
  Moved s' = Keeps s s' ⊎ EntersAnew s s' a

  -- past the statement that is about to be done
  abbrev ahead : State
  ahead = advance s a

  kept-ahead : Kept s.live ahead.live
  unfolding advance with_live
  kept-ahead =
      subst (λ (m : List Activation). Kept m (but_last s.live ++ (resume a (suc a.next) ∷ []))) (sym (last-split s.live a last))
      (kept-resumed (but_last s.live) a [] (suc a.next))

  deep-ahead : length ahead.live ≡ length s.live
  unfolding advance with_live
  deep-ahead = replaced-length s.live a (resume a (suc a.next)) last

  -- No activation is entered

  goes_on : (s' : State) → Kept ahead.live s'.live → s'.fresh ≡ ahead.fresh → Moved s'
  unfolding advance with_live
  goes_on s' h e = inl (record { kept = kept_then s.live ahead.live s'.live kept-ahead h; fresh-is = e })

  leaves-moved : Moved (with_live s (but_last s.live))
  unfolding with_live
  leaves-moved =
      let kept = subst (λ (m : List Activation). Kept m (but_last s.live)) (sym (last-split s.live a last)) (kept-first (but_last s.live) (a ∷ [])) in
      inl (record { kept = kept; fresh-is = refl })

  stays_moved : Moved ahead
  stays_moved = goes_on ahead (kept-all ahead.live) refl

  stored_moved : (x : ℕ) (z : ℤ) → Moved (store ahead x z)
  unfolding store
  stored_moved x z = goes_on (store ahead x z) (kept-all ahead.live) refl

  fits_moved : (x : ℕ) (z : ℤ) → After Moved (store_if_fits ahead x z)
  unfolding store_if_fits
  fits_moved x z = go (ltb (mag z) 2147483648)
    where
      go : (t : Bool) → After Moved (elim t [ true ↦ did (store ahead x z) | false ↦ stop ResultTooLarge ])
      go true = stored_moved x z
      go false = tt

  tabled-moved : (e : Effect) → After Moved (as_done ahead e)
  unfolding as_done with_table
  tabled-moved (leaves t) = goes_on (with_table ahead t) (kept-all ahead.live) refl
  tabled-moved (halts c) = tt

  asked-moved : (x : ℕ) (q : Asked) → After Moved (as_stored ahead x q)
  unfolding as_stored
  asked-moved x (gives z) = stored_moved x z
  asked-moved x (refuses c) = tt

  jump-moved : (x : ℕ) → Moved (jump ahead x)
  unfolding jump with_live
  jump-moved x = go (instance ahead x) refl
    where
      go : (o : Option Instance) → instance ahead x ≡ o
          → Moved (elim o [ none ↦ ahead | some i ↦ with_live ahead (take (pred i.number) ahead.live ++ (resume i.home (label_index i.decl) ∷ [])) ])
      go none e = stays_moved
      go (some i) e =
          let f = found_at ahead x i e in
          let before : f.depth ≡ pred i.number = omega (arith, f.number_is) in
          goes_on _ (subst (λ n. Kept ahead.live (take n ahead.live ++ (resume i.home (label_index i.decl) ∷ []))) before
          (subst (λ (m : List Activation). Kept m (take f.depth ahead.live ++ (resume i.home (label_index i.decl) ∷ []))) (sym (live-split ahead x i f))
          (kept-resumed (take f.depth ahead.live) i.home (drop (suc f.depth) ahead.live) (label_index i.decl)))) refl

  branch-moved : (x : ℕ) (t : Bool) → After Moved (elim t [ true ↦ did ahead | false ↦ did (jump ahead x) ])
  branch-moved x true = stays_moved
  branch-moved x false = jump-moved x

  -- An activation is entered

  entered : (formals xs : List ℕ) (b : Block) (encloser : ℕ) (around : List Replacement) → length formals ≡ length xs → Distinct (formals ++ declared_names b) → Hands a xs
      → EntersAnew s (enter ahead formals xs b encloser around) a
  unfolding enter activation advance with_live
  entered formals xs b encloser around as_many once hands =
      let new = activation formals xs s.fresh b encloser around in
      record {
        kept = λ k c h e. kept-ahead k c (sym (get_elem-append ahead.live (new ∷ []) k (omega (arith, deep-ahead))) ∙ e);
        deep = snoc-length ahead.live new ∙ ap suc deep-ahead;
        new = new;
        there = ap (get_elem? (ahead.live ++ (new ∷ []))) (sym deep-ahead) ∙ get_elem-seam ahead.live new [];
        names-are = new-names formals xs s.fresh b encloser around as_many once;
        fresh-is = ap (λ n. s.fresh + n) (new-many formals xs s.fresh b encloser around as_many once);
        arguments-are = hands;
      }

  room_moved : (formals xs : List ℕ) (b : Block) (encloser : ℕ) (around : List Replacement) → length formals ≡ length xs → Distinct (formals ++ declared_names b) → Hands a xs
      → After Moved (enter_if_room l ahead formals xs b encloser around)
  unfolding enter_if_room
  room_moved formals xs b encloser around as_many once hands = go (ltb (length ahead.live) l.activations)
    where
      go : (t : Bool) → After Moved (elim t [ true ↦ did (enter ahead formals xs b encloser around) | false ↦ stop NoActivationLeft ])
      go true = inr (entered formals xs b encloser around as_many once hands)
      go false = tt

  block-moved : (b : Block) → next_stmt a ≡ some (BK b) → After Moved (enter_if_room l ahead [] [] b (length ahead.live) a.reads)
  unfolding InStmt formal_names
  block-moved b n = room_moved [] [] b (length ahead.live) a.reads refl (names-once b [] (live_kinds s.live) (next-closed s a (BK b) inv last n)) (inr (b, n, refl))

  call-moved : (at p : ℕ) (xs : List ℕ) → next_stmt a ≡ some (DO at (CL p xs)) → After Moved (call l ahead p xs)
  unfolding call formal_names
  call-moved at p xs n = go (instance ahead p) refl
    where
      on : (i : Instance) → instance ahead p ≡ some i → (t : Bool) → agree (formal_kinds (decl_formals i.decl)) (map (kind_at ahead) xs) ≡ t
          → After Moved (elim t [ true ↦ enter_if_room l ahead (formal_names (decl_formals i.decl)) xs (decl_body i.decl) i.number i.home.reads | false ↦ stop ArgumentsDiffer ])
      on i e true r =
          let as_many = length-map (decl_formals i.decl) (λ (f : Formal). f.name) ∙ sym (agree-many (kind_at ahead) (decl_formals i.decl) xs r) in
          let h = home-of ahead p i (advanced s a (DO at (CL p xs)) inv last n) (found_at ahead p i e) in
          room_moved (formal_names (decl_formals i.decl)) xs (decl_body i.decl) i.number i.home.reads as_many
          (names-once (decl_body i.decl) (decl_formals i.decl) h.around (body-in i.decl h.around h.declaration)) (inl (at, p, xs, n, refl))
      on i e false r = tt

      go : (o : Option Instance) → instance ahead p ≡ o
          → After Moved (elim o [ none ↦ did ahead | some i ↦ elim (agree (formal_kinds (decl_formals i.decl)) (map (kind_at ahead) xs)) [ true ↦ enter_if_room l ahead (formal_names (decl_formals i.decl)) xs (decl_body i.decl) i.number i.home.reads | false ↦ stop ArgumentsDiffer ] ])
      go none e = stays_moved
      go (some i) e = on i e (agree (formal_kinds (decl_formals i.decl)) (map (kind_at ahead) xs)) refl

  -- So a step does one or the other

  action-moved : (at : ℕ) (x : Action) → next_stmt a ≡ some (DO at x) → After Moved (do_action l ahead x)
  unfolding do_action add_pair remove_pair query_pair
  action-moved at (CL p xs) n = call-moved at p xs n
  action-moved at (GO x) n = jump-moved x
  action-moved at (IF v x) n = branch-moved x (eq_z (value ahead v) (pos 0))
  action-moved at (KN t z) n = stored_moved t z
  action-moved at (AR t o b c) n = fits_moved t (compute o (value ahead b) (value ahead c))
  action-moved at (AD g m) n = tabled-moved (added l.limit (value ahead g) (value ahead m) ahead.table)
  action-moved at (RM g m) n = tabled-moved (removed (value ahead g) (value ahead m) ahead.table)
  action-moved at (QY t g m) n = asked-moved t (queried (value ahead g) (value ahead m) ahead.table)

  step_in-moved : After Moved (step_in l s a)
  unfolding step_in do_stmt
  step_in-moved = go (next_stmt a) refl
    where
      go : (o : Option Stmt) → next_stmt a ≡ o → After Moved (elim o [ none ↦ did (with_live s (but_last s.live)) | some x ↦ do_stmt l ahead a x ])
      go none n = leaves-moved
      go (some (BK b)) n = block-moved b n
      go (some (DO at x)) n = action-moved at x n

  moved : After Moved (step l s)
  unfolding step
  moved = rw (last, step) step_in-moved

pub step-moved : (l : Limits) (s s' : State) (a : Activation) → Invariant s → last? s.live ≡ some a → step l s ≡ did s' → Keeps s s' ⊎ EntersAnew s s' a
step-moved l s s' a inv last e = subst (After (λ (u : State). Keeps s u ⊎ EntersAnew s u a)) e (moved l s a inv last)

-- which of the two, from how many are live
module _ (l : Limits) (s s' : State) (a : Activation) (inv : Invariant s) (last : last? s.live ≡ some a) (e : step l s ≡ did s') where
  pub step_kept : length s'.live ≤ length s.live → Keeps s s'
  step_kept h = go (step-moved l s s' a inv last e)
    where
      go : Keeps s s' ⊎ EntersAnew s s' a → Keeps s s'
      go (inl k) = k
      go (inr n) = absurd (omega (arith, n.deep))

  pub step-entered : length s.live < length s'.live → EntersAnew s s' a
  step-entered h = go (step-moved l s s' a inv last e)
    where
      go : Keeps s s' ⊎ EntersAnew s s' a → EntersAnew s s' a
      go (inl k) = absurd (omega (arith, kept-few s.live s'.live k.kept))
      go (inr n) = n
