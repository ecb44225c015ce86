-- Each stop on its cause and on no other (Causes.antt): `stops-exactly`, a step stops with a cause exactly where it is due; `run-stops-exactly`, and so
-- does a run, before it has done the steps allowed. `step-judged` has the one half, `due-stops` the other.
use Prim.Native.Nat.{ℕ, suc, ◌+◌, ◌≤◌, ◌<◌}
use Rattle.std.proofs.Common.{arith, inl, inr, ◌∙◌, subst}
use Rattle.std.specs.Prelude.{Bool, ◌&&◌, ◌↔◌, ◌⊎◌, ◌≢◌, ◌≡◌, leb, ℤ, pos, length}
use Rattle.std.proofs.Math.Bool.{true, false, and-eq-true_iff}
use mathlib.Core.List.{List, [], ◌∷◌, ◌++◌, map}
use Rattle.std.proofs.Math.Option
use Rattle.std.proofs.Math.Option.{Option, none, some, map-eq-some_iff, none-ne-some}
use Rattle.std.proofs.Math.Path.{refl, sym, ap, fun_ext}
use Rattle.std.proofs.Math.Dec.{ltb}
use Rattle.std.specs.Int.Signed.{mag}
use borrow.Author.Tests.{leb-true, leb-false, le-leb, lt-leb, ltb-false, le-ltb}
use Rattle.language.specs.Basics.{last?, but_last, eq_z}
use Rattle.language.specs.Text.{Kind, Operation, Action, CL, GO, IF, KN, AR, AD, RM, QY, Block, Decl, Stmt, BK, DO, block_decls, decl_kind, decl_formals, decl_body, formal_names, formal_kinds}
use Rattle.language.specs.Scope.{agree}
use Rattle.language.specs.Table.{holds, size, at_least_one, full, added, removed, queried}
use Rattle.language.specs.Copy.{Replacement}
use Rattle.language.specs.Machine.{Activation, State, Limits, Instance, Done, did, stop, with_live, resume, value, declared_at, instance_from, instance, kind_at, store, enter, enter_if_room, call, jump, compute, store_if_fits, as_done, as_stored, add_pair, remove_pair, query_pair, do_action, do_stmt, next_stmt, advance, step_in, step, run}
use Rattle.language.specs.declared.Stop.{Stop}
use Rattle.language.specs.declared.Stop.TheVariants.{ResultTooLarge, NoActivationLeft, NumberBelowOne, GroupFull, TableFull, ArgumentsDiffer}
use Rattle.language.specs.declared.End.TheVariants.{Stopped}
use Rattle.laws.specs.Tests.{split, never, some_inj}
use Rattle.laws.specs.Lists.{last-split}
use Rattle.laws.specs.Kinds.{agree-false, differs_false}
use Rattle.runs.specs.Bounds.{advance-length}
use Rattle.runs.specs.Steps.{stopped-exactly}
use Rattle.runs.specs.Causes.{Next, declared, pair_of, TooLarge, Enters, enters-block, enters-body, NoRoom, BelowOne, Adds, NoMember, NoPlace, Differ, StopDue}

-- The next statement, and what it sees

next-same : (s : State) (x y : Stmt) → Next s x → Next s y → x ≡ y
next-same s x y p q =
    let e : p.innermost ≡ q.innermost = some_inj (sym p.last ∙ q.last) in
    some_inj (sym p.next ∙ ap next_stmt e ∙ q.next)

action-same : (s : State) (at o : ℕ) (a b : Action) → Next s (DO at a) → Next s (DO o b) → a ≡ b
action-same s at o a b p q = let e = next-same s (DO at a) (DO o b) p q in cc

module _ (s : State) (a : Activation) (e : last? s.live ≡ some a) where
  value-advanced : (x : ℕ) → value (advance s a) x ≡ value s x
  unfolding value advance with_live
  value-advanced x = refl

  abbrev decl-of : Instance → Decl
  decl-of i = i.decl

  instance-resumed : (x k n : ℕ) (pre : List Activation) → Option.map decl-of (instance_from x k (pre ++ (resume a n ∷ []))) ≡ Option.map decl-of (instance_from x k (pre ++ (a ∷ [])))
  unfolding instance_from resume
  instance-resumed x k n [] = go (declared_at x (suc (length a.arguments)) (block_decls a.text))
    where
      go : (o : Option (ℕ × Decl)) → Option.map decl-of (elim o as (λ y. Option Instance) [ none ↦ none | some p ↦ some (record { number = k; position = p.0; home = resume a n; decl = p.1 }) ])
          ≡ Option.map decl-of (elim o as (λ y. Option Instance) [ none ↦ none | some p ↦ some (record { number = k; position = p.0; home = a; decl = p.1 }) ])
      go none = refl
      go (some p) = refl
  instance-resumed x k n (b ∷ pre) = go (instance-resumed x (suc k) n pre) (declared_at x (suc (length b.arguments)) (block_decls b.text))
    where
      go : Option.map decl-of (instance_from x (suc k) (pre ++ (resume a n ∷ []))) ≡ Option.map decl-of (instance_from x (suc k) (pre ++ (a ∷ []))) → (o : Option (ℕ × Decl))
          → Option.map decl-of (elim o as (λ y. Option Instance) [ none ↦ instance_from x (suc k) (pre ++ (resume a n ∷ [])) | some p ↦ some (record { number = k; position = p.0; home = b; decl = p.1 }) ])
          ≡ Option.map decl-of (elim o as (λ y. Option Instance) [ none ↦ instance_from x (suc k) (pre ++ (a ∷ [])) | some p ↦ some (record { number = k; position = p.0; home = b; decl = p.1 }) ])
      go r none = r
      go r (some p) = refl

  declared-advanced : (x : ℕ) → declared (advance s a) x ≡ declared s x
  unfolding declared instance advance with_live
  declared-advanced x =
      instance-resumed x 1 (suc a.next) (but_last s.live) ∙ ap (λ (as' : List Activation). Option.map decl-of (instance_from x 1 as')) (sym (last-split s.live a e))

  kind-declared : (t : State) (x : ℕ) → kind_at t x ≡ Option.map decl_kind (declared t x)
  unfolding kind_at declared
  kind-declared t x = go (instance t x)
    where
      go : (o : Option Instance) → elim o as (λ y. Option Kind) [ none ↦ none | some i ↦ some (decl_kind i.decl) ] ≡ Option.map decl_kind (Option.map decl-of o)
      go none = refl
      go (some i) = refl

  kinds-advanced : (xs : List ℕ) → map (kind_at (advance s a)) xs ≡ map (kind_at s) xs
  kinds-advanced xs =
      ap (λ (f : ℕ → Option Kind). map f xs) (fun_ext (λ x. kind-declared (advance s a) x ∙ ap (Option.map decl_kind) (declared-advanced x) ∙ sym (kind-declared s x)))

-- A step that stops does so on its cause

abbrev Judged : Limits → State → Done → Type 0
Judged l s (did s') = Unit {0}
Judged l s (stop c) = StopDue l s c

-- that the pair's numbers are at least 1, and that they are not
numbers-below : (g m : ℤ) → at_least_one g && at_least_one m ≡ false → (at_least_one g ≡ false) ⊎ (at_least_one m ≡ false)
numbers-below g m e =
    split (at_least_one g) (λ t. split (at_least_one m) (λ r. never ((and-eq-true_iff (at_least_one g) (at_least_one m)).1 (t, r)) e) inr) inl

numbers_fit : (g m : ℤ) → at_least_one g && at_least_one m ≡ true → (at_least_one g ≡ false) ⊎ (at_least_one m ≡ false) → ⊥
numbers_fit g m e (inl r) = never ((and-eq-true_iff (at_least_one g) (at_least_one m)).0 e).0 r
numbers_fit g m e (inr r) = never ((and-eq-true_iff (at_least_one g) (at_least_one m)).0 e).1 r

not-below : (s : State) (at : ℕ) (a : Action) (g m : ℕ) → Next s (DO at a) → pair_of a ≡ some (g, m) → at_least_one (value s g) && at_least_one (value s m) ≡ true → BelowOne s → ⊥
not-below s at a g m n p h w =
    let same : a ≡ w.action = action-same s at w.at a w.action n w.next in
    let pair : ◌≡◌ {A = ℕ × ℕ} (w.group, w.member) (g, m) = some_inj (sym w.pair ∙ ap pair_of (sym same) ∙ p) in
    numbers_fit (value s g) (value s m) h
    (subst (λ (x : ℕ × ℕ). (at_least_one (value s x.0) ≡ false) ⊎ (at_least_one (value s x.1) ≡ false)) pair w.below)

-- not 24, where the group has fewer members
not-member : (l : Limits) (s : State) (at g m : ℕ) → Next s (DO at (AD g m)) → size (value s g) s.table < l.limit → NoMember l s → ⊥
not-member l s at g m n h w =
    let same : AD g m ≡ AD w.0.group w.0.member = action-same s at w.0.at (AD g m) (AD w.0.group w.0.member) n w.0.next in
    let group : g ≡ w.0.group = cc in
    let most : l.limit ≤ size (value s g) s.table = subst (λ (x : ℕ). l.limit ≤ size (value s x) s.table) (sym group) w.1 in
    omega arith

-- not 26, where the arguments agree
not-differ : (s : State) (at p : ℕ) (xs : List ℕ) (d : Decl) → Next s (DO at (CL p xs)) → declared s p ≡ some d → agree (formal_kinds (decl_formals d)) (map (kind_at s) xs) ≡ true → Differ s → ⊥
not-differ s at p xs d n q h w =
    let same : CL p xs ≡ CL w.called w.arguments = action-same s at w.at (CL p xs) (CL w.called w.arguments) n w.next in
    let name : p ≡ w.called = cc in
    let arguments : xs ≡ w.arguments = cc in
    let decl : d ≡ w.procedure = some_inj (sym q ∙ ap (declared s) name ∙ w.stands) in
    never h (ap (λ (c : Decl). agree (formal_kinds (decl_formals c)) (map (kind_at s) xs)) decl ∙ ap (λ (ys : List ℕ). agree (formal_kinds (decl_formals w.procedure)) (map (kind_at s) ys)) arguments ∙ differs_false _ _ w.differ)

block-differs : (s : State) (b : Block) → Next s (BK b) → Differ s → ⊥
block-differs s b n w =
    let e = next-same s (BK b) (DO w.at (CL w.called w.arguments)) n w.next in
    let z : ◌≡◌ {A = ℕ} 0 1 = cc in
    omega arith

module _ (l : Limits) (s : State) (a : Activation) (e : last? s.live ≡ some a) where
  abbrev u : State
  u = advance s a

  next-is : (x : Stmt) → next_stmt a ≡ some x → Next s x
  next-is x n = record { innermost = a; last = e; next = n }

  enter-judged : (formals arguments : List ℕ) (b : Block) (encloser : ℕ) (around : List Replacement) → Enters s → (Differ s → ⊥) → Judged l s (enter_if_room l u formals arguments b encloser around)
  unfolding enter_if_room
  enter-judged formals arguments b encloser around h not = go (ltb (length u.live) l.activations) refl
    where
      go : (t : Bool) → ltb (length u.live) l.activations ≡ t → Judged l s (elim t [ true ↦ did (enter u formals arguments b encloser around) | false ↦ stop NoActivationLeft ])
      go true r = tt
      go false r = ((h, omega (arith, ltb-false (length u.live) l.activations r, advance-length s a e)), not)

  declared-found : (p : ℕ) (i : Instance) → instance u p ≡ some i → declared s p ≡ some i.decl
  unfolding declared
  declared-found p i q = sym (declared-advanced s a e p) ∙ ap (Option.map (λ (j : Instance). j.decl)) q

  call-judged : (at p : ℕ) (xs : List ℕ) → next_stmt a ≡ some (DO at (CL p xs)) → Judged l s (call l u p xs)
  unfolding call
  call-judged at p xs n = go (instance u p) refl
    where
      agreed : (i : Instance) (t : Bool) → agree (formal_kinds (decl_formals i.decl)) (map (kind_at u) xs) ≡ t → agree (formal_kinds (decl_formals i.decl)) (map (kind_at s) xs) ≡ t
      agreed i t r = ap (agree (formal_kinds (decl_formals i.decl))) (sym (kinds-advanced s a e xs)) ∙ r

      on : (i : Instance) → instance u p ≡ some i → (t : Bool) → agree (formal_kinds (decl_formals i.decl)) (map (kind_at u) xs) ≡ t
          → Judged l s (elim t [ true ↦ enter_if_room l u (formal_names (decl_formals i.decl)) xs (decl_body i.decl) i.number i.home.reads | false ↦ stop ArgumentsDiffer ])
      on i q true r =
          let d = declared-found p i q in
          enter-judged _ xs (decl_body i.decl) i.number i.home.reads (enters-body at p xs i.decl (next-is _ n) d) (not-differ s at p xs i.decl (next-is _ n) d (agreed i true r))
      on i q false r =
          record { at = at; called = p; arguments = xs; procedure = i.decl; next = next-is _ n; stands = declared-found p i q; differ = agree-false _ _ (agreed i false r) }

      go : (o : Option Instance) → instance u p ≡ o → Judged l s (elim o [ none ↦ did u | some i ↦ elim (agree (formal_kinds (decl_formals i.decl)) (map (kind_at u) xs)) [ true ↦ enter_if_room l u (formal_names (decl_formals i.decl)) xs (decl_body i.decl) i.number i.home.reads | false ↦ stop ArgumentsDiffer ] ])
      go none q = tt
      go (some i) q = on i q (agree (formal_kinds (decl_formals i.decl)) (map (kind_at u) xs)) refl

  compute-judged : (at t : ℕ) (o : Operation) (x y : ℕ) → next_stmt a ≡ some (DO at (AR t o x y)) → Judged l s (store_if_fits u t (compute o (value u x) (value u y)))
  unfolding store_if_fits
  compute-judged at t o x y n = go (ltb (mag (compute o (value u x) (value u y))) 2147483648) refl
    where
      large : 2147483648 ≤ mag (compute o (value u x) (value u y)) → TooLarge s
      large h = record { at = at; target = t; operation = o; left = x; right = y; next = next-is _ n; large = rw (value-advanced s a e x, value-advanced s a e y) at h }

      go : (b : Bool) → ltb (mag (compute o (value u x) (value u y))) 2147483648 ≡ b → Judged l s (elim b [ true ↦ did (store u t (compute o (value u x) (value u y))) | false ↦ stop ResultTooLarge ])
      go true r = tt
      go false r = large (ltb-false (mag (compute o (value u x) (value u y))) 2147483648 r)

  -- AD, RM and QY, whose numbers are read before the step
  below_one : (at : ℕ) (x : Action) (g m : ℕ) → next_stmt a ≡ some (DO at x) → pair_of x ≡ some (g, m) → at_least_one (value s g) && at_least_one (value s m) ≡ false → BelowOne s
  below_one at x g m n p h = record { at = at; action = x; group = g; member = m; next = next-is _ n; pair = p; below = numbers-below (value s g) (value s m) h }

  add-judged : (at g m : ℕ) → next_stmt a ≡ some (DO at (AD g m)) → Judged l s (add_pair l u (value u g) (value u m))
  unfolding add_pair added as_done advance with_live value pair_of
  add-judged at g m n = go (at_least_one (value s g) && at_least_one (value s m)) refl (holds (value s g) (value s m) s.table) refl (leb l.limit (size (value s g) s.table)) refl (full s.table) refl
    where
      fits : at_least_one (value s g) && at_least_one (value s m) ≡ true → BelowOne s → ⊥
      fits = not-below s at (AD g m) g m (next-is _ n) refl

      adds : holds (value s g) (value s m) s.table ≡ false → Adds s
      adds h = record { at = at; group = g; member = m; next = next-is _ n; absent = h }

      go : (p : Bool) → at_least_one (value s g) && at_least_one (value s m) ≡ p → (h : Bool) → holds (value s g) (value s m) s.table ≡ h → (z : Bool) → leb l.limit (size (value s g) s.table) ≡ z → (f : Bool) → full s.table ≡ f → Judged l s (add_pair l u (value s g) (value s m))
      go false p h h' z z' f f' = rw (p, added) (below_one at (AD g m) g m n refl p)
      go true p true h z z' f f' = rw (p, h, added) tt
      go true p false h true z f f' = rw (p, h, z, added) ((adds h, leb-true l.limit (size (value s g) s.table) z), fits p)
      go true p false h false z true f = rw (p, h, z, f, added) ((adds h, f), fits p, not-member l s at g m (next-is _ n) (leb-false l.limit (size (value s g) s.table) z))
      go true p false h false z false f = rw (p, h, z, f, added) tt

  remove-judged : (at g m : ℕ) → next_stmt a ≡ some (DO at (RM g m)) → Judged l s (remove_pair u (value u g) (value u m))
  unfolding remove_pair removed as_done advance with_live value pair_of
  remove-judged at g m n = go (at_least_one (value s g) && at_least_one (value s m)) refl
    where
      go : (p : Bool) → at_least_one (value s g) && at_least_one (value s m) ≡ p → Judged l s (remove_pair u (value s g) (value s m))
      go false p = rw (p, removed) (below_one at (RM g m) g m n refl p)
      go true p = rw (p, removed) tt

  query-judged : (at t g m : ℕ) → next_stmt a ≡ some (DO at (QY t g m)) → Judged l s (query_pair u t (value u g) (value u m))
  unfolding query_pair queried as_stored advance with_live value pair_of
  query-judged at t g m n = go (at_least_one (value s g) && at_least_one (value s m)) refl
    where
      go : (p : Bool) → at_least_one (value s g) && at_least_one (value s m) ≡ p → Judged l s (query_pair u t (value s g) (value s m))
      go false p = rw (p, queried) (below_one at (QY t g m) g m n refl p)
      go true p = rw (p, queried) tt

  if-judged : (x : ℕ) (t : Bool) → Judged l s (elim t [ true ↦ did u | false ↦ did (jump u x) ])
  if-judged x true = tt
  if-judged x false = tt

  action-judged : (at : ℕ) (x : Action) → next_stmt a ≡ some (DO at x) → Judged l s (do_action l u x)
  unfolding do_action
  action-judged at (CL p xs) n = call-judged at p xs n
  action-judged at (GO x) n = tt
  action-judged at (IF v x) n = if-judged x (eq_z (value u v) (pos 0))
  action-judged at (KN t z) n = tt
  action-judged at (AR t o x y) n = compute-judged at t o x y n
  action-judged at (AD g m) n = add-judged at g m n
  action-judged at (RM g m) n = remove-judged at g m n
  action-judged at (QY t g m) n = query-judged at t g m n

  stmt-judged : (x : Stmt) → next_stmt a ≡ some x → Judged l s (do_stmt l u a x)
  unfolding do_stmt
  stmt-judged (BK b) n = enter-judged [] [] b _ a.reads (enters-block b (next-is _ n)) (block-differs s b (next-is _ n))
  stmt-judged (DO at x) n = action-judged at x n

  in-judged : Judged l s (step_in l s a)
  unfolding step_in
  in-judged = go (next_stmt a) refl
    where
      go : (o : Option Stmt) → next_stmt a ≡ o → Judged l s (elim o [ none ↦ did (with_live s (but_last s.live)) | some x ↦ do_stmt l (advance s a) a x ])
      go none n = tt
      go (some x) n = stmt-judged x n

step-judged : (l : Limits) (s : State) → Judged l s (step l s)
unfolding step
step-judged l s = go (last? s.live) refl
  where
    go : (o : Option Activation) → last? s.live ≡ o → Judged l s (elim o [ none ↦ did s | some a ↦ step_in l s a ])
    go none e = tt
    go (some a) e = in-judged l s a e

-- and where a cause is due it stops

step-does : (l : Limits) (s : State) (x : Stmt) (n : Next s x) → step l s ≡ do_stmt l (advance s n.innermost) n.innermost x
unfolding step step_in
step-does l s x n = rw (n.last, step) (rw (n.next, step_in))

does-action : (l : Limits) (s : State) (at : ℕ) (x : Action) (n : Next s (DO at x)) → step l s ≡ do_action l (advance s n.innermost) x
unfolding do_stmt
does-action l s at x n = step-does l s (DO at x) n

no_room_lem : (l : Limits) (u : State) (formals arguments : List ℕ) (b : Block) (encloser : ℕ) (around : List Replacement) → l.activations ≤ length u.live → enter_if_room l u formals arguments b encloser around ≡ stop NoActivationLeft
unfolding enter_if_room
no_room_lem l u formals arguments b encloser around h = rw (le-ltb (length u.live) l.activations h, enter_if_room)

module _ (l : Limits) (s : State) where
  due-21 : TooLarge s → step l s ≡ stop ResultTooLarge
  unfolding do_action store_if_fits
  due-21 w =
      let a = w.next.innermost in
      let u = advance s a in
      let e = w.next.last in
      let z = compute w.operation (value u w.left) (value u w.right) in
      let h : 2147483648 ≤ mag z = rw (value-advanced s a e w.left, value-advanced s a e w.right) w.large in
      does-action l s w.at (AR w.target w.operation w.left w.right) w.next ∙ rw (le-ltb (mag z) 2147483648 h, store_if_fits)

  -- a call by the instance of its name
  call-found : (u : State) (p : ℕ) (xs : List ℕ) (i : Instance) (t : Bool) → instance u p ≡ some i → agree (formal_kinds (decl_formals i.decl)) (map (kind_at u) xs) ≡ t
      → call l u p xs ≡ elim t as (λ x. Done) [ true ↦ enter_if_room l u (formal_names (decl_formals i.decl)) xs (decl_body i.decl) i.number i.home.reads | false ↦ stop ArgumentsDiffer ]
  unfolding call
  call-found u p xs i t q r = rw (q, call) (rw r)

  module _ (at p : ℕ) (xs : List ℕ) (d : Decl) (n : Next s (DO at (CL p xs))) (q : declared s p ≡ some d) where
    abbrev called-in : State
    called-in = advance s n.innermost

    found : (i : Instance) × (instance called-in p ≡ some i) × (i.decl ≡ d)
    unfolding declared
    found = (map-eq-some_iff (λ (i : Instance). i.decl) (instance called-in p)).0 (declared-advanced s n.innermost n.last p ∙ q)

    call-is : (t : Bool) → agree (formal_kinds (decl_formals d)) (map (kind_at s) xs) ≡ t
        → step l s ≡ elim t as (λ x. Done) [ true ↦ enter_if_room l called-in (formal_names (decl_formals found.0.decl)) xs (decl_body found.0.decl) found.0.number found.0.home.reads | false ↦ stop ArgumentsDiffer ]
    unfolding do_action
    call-is t r =
        does-action l s at (CL p xs) n
        ∙ call-found called-in p xs found.0 t found.1
        (ap (λ (c : Decl). agree (formal_kinds (decl_formals c)) (map (kind_at called-in) xs)) found.2 ∙ ap (agree (formal_kinds (decl_formals d))) (kinds-advanced s n.innermost n.last xs) ∙ r)

  due-26 : Differ s → step l s ≡ stop ArgumentsDiffer
  due-26 w = call-is w.at w.called w.arguments w.procedure w.next w.stands false (differs_false _ _ w.differ)

  full-now : (a : Activation) → last? s.live ≡ some a → l.activations ≤ length s.live → l.activations ≤ length (advance s a).live
  full-now a e h = omega (arith, advance-length s a e)

  due-22 : NoRoom l s → (Differ s → ⊥) → step l s ≡ stop NoActivationLeft
  unfolding do_stmt
  due-22 w not = go w.0
    where
      go : Enters s → step l s ≡ stop NoActivationLeft
      go (enters-block b n) = step-does l s (BK b) n ∙ no_room_lem l _ [] [] b _ _ (full-now n.innermost n.last w.1)
      go (enters-body at p xs d n q) =
          split (agree (formal_kinds (decl_formals d)) (map (kind_at s) xs))
          (λ t. call-is at p xs d n q true t ∙ no_room_lem l _ _ xs _ _ _ (full-now n.innermost n.last w.1))
          (λ t. absurd (not (record { at = at; called = p; arguments = xs; procedure = d; next = n; stands = q; differ = agree-false _ _ t })))

-- AD, RM and QY by what they find
module _ (l : Limits) (u : State) (g m : ℤ) where
  add-below : at_least_one g && at_least_one m ≡ false → add_pair l u g m ≡ stop NumberBelowOne
  unfolding add_pair added as_done
  add-below p = rw (p, added)

  add-refused : at_least_one g && at_least_one m ≡ true → holds g m u.table ≡ false → l.limit ≤ size g u.table → add_pair l u g m ≡ stop GroupFull
  unfolding add_pair added as_done
  add-refused p h z = rw (p, h, le-leb l.limit (size g u.table) z, added)

  add-crowded : at_least_one g && at_least_one m ≡ true → holds g m u.table ≡ false → size g u.table < l.limit → full u.table ≡ true → add_pair l u g m ≡ stop TableFull
  unfolding add_pair added as_done
  add-crowded p h z f = rw (p, h, lt-leb l.limit (size g u.table) z, f, added)

  remove-below : at_least_one g && at_least_one m ≡ false → remove_pair u g m ≡ stop NumberBelowOne
  unfolding remove_pair removed as_done
  remove-below p = rw (p, removed)

  query-below : (t : ℕ) → at_least_one g && at_least_one m ≡ false → query_pair u t g m ≡ stop NumberBelowOne
  unfolding query_pair queried as_stored
  query-below t p = rw (p, queried)

numbers-low : (g m : ℤ) → (at_least_one g ≡ false) ⊎ (at_least_one m ≡ false) → at_least_one g && at_least_one m ≡ false
numbers-low g m h = split (at_least_one g && at_least_one m) (λ t. absurd (numbers_fit g m t h)) (λ f. f)

module _ (l : Limits) (s : State) where
  low-stops : (at : ℕ) (x : Action) (g m : ℕ) → Next s (DO at x) → pair_of x ≡ some (g, m) → at_least_one (value s g) && at_least_one (value s m) ≡ false → step l s ≡ stop NumberBelowOne
  unfolding pair_of do_action value advance with_live
  low-stops at (CL p xs) g m n q h = absurd (none-ne-some (g, m) q)
  low-stops at (GO x) g m n q h = absurd (none-ne-some (g, m) q)
  low-stops at (IF v x) g m n q h = absurd (none-ne-some (g, m) q)
  low-stops at (KN t z) g m n q h = absurd (none-ne-some (g, m) q)
  low-stops at (AR t o x y) g m n q h = absurd (none-ne-some (g, m) q)
  low-stops at (AD y z) g m n q h =
      does-action l s at (AD y z) n ∙ add-below l (advance s n.innermost) (value s y) (value s z) (subst (λ (p : ℕ × ℕ). at_least_one (value s p.0) && at_least_one (value s p.1) ≡ false) (sym (some_inj q)) h)
  low-stops at (RM y z) g m n q h =
      does-action l s at (RM y z) n ∙ remove-below l (advance s n.innermost) (value s y) (value s z) (subst (λ (p : ℕ × ℕ). at_least_one (value s p.0) && at_least_one (value s p.1) ≡ false) (sym (some_inj q)) h)
  low-stops at (QY t y z) g m n q h =
      does-action l s at (QY t y z) n ∙ query-below l (advance s n.innermost) (value s y) (value s z) t (subst (λ (p : ℕ × ℕ). at_least_one (value s p.0) && at_least_one (value s p.1) ≡ false) (sym (some_inj q)) h)

  due-23 : BelowOne s → step l s ≡ stop NumberBelowOne
  due-23 w = low-stops w.at w.action w.group w.member w.next w.pair (numbers-low (value s w.group) (value s w.member) w.below)

  -- an AD whose numbers are not below 1
  fitting : (w : Adds s) → (BelowOne s → ⊥) → at_least_one (value s w.group) && at_least_one (value s w.member) ≡ true
  unfolding pair_of
  fitting w not =
      split (at_least_one (value s w.group) && at_least_one (value s w.member)) (λ t. t)
      (λ f. absurd (not (record { at = w.at; action = AD w.group w.member; group = w.group; member = w.member; next = w.next; pair = refl; below = numbers-below (value s w.group) (value s w.member) f })))

  due-24 : NoMember l s → (BelowOne s → ⊥) → step l s ≡ stop GroupFull
  unfolding do_action value advance with_live
  due-24 w not =
      let a = w.0 in
      does-action l s a.at (AD a.group a.member) a.next ∙ add-refused l (advance s a.next.innermost) (value s a.group) (value s a.member) (fitting a not) a.absent w.1

  due-25 : NoPlace s → (BelowOne s → ⊥) → (NoMember l s → ⊥) → step l s ≡ stop TableFull
  unfolding do_action value advance with_live
  due-25 w not room =
      let a = w.0 in
      let less : size (value s a.group) s.table < l.limit = split (leb l.limit (size (value s a.group) s.table)) (λ t. absurd (room (a, leb-true l.limit (size (value s a.group) s.table) t))) (leb-false l.limit (size (value s a.group) s.table)) in
      does-action l s a.at (AD a.group a.member) a.next ∙ add-crowded l (advance s a.next.innermost) (value s a.group) (value s a.member) (fitting a not) a.absent less w.1

  -- The theorems

  due-stops : (c : Stop) → StopDue l s c → step l s ≡ stop c
  due-stops ResultTooLarge h = due-21 l s h
  due-stops NoActivationLeft h = due-22 l s h.0 h.1
  due-stops NumberBelowOne h = due-23 h
  due-stops GroupFull h = due-24 h.0 h.1
  due-stops TableFull h = due-25 h.0 h.1 h.2
  due-stops ArgumentsDiffer h = due-26 l s h

  pub stops-exactly : (c : Stop) → (step l s ≡ stop c) ↔ StopDue l s c
  stops-exactly c = (λ e. subst (Judged l s) e (step-judged l s), due-stops c)

-- where a statement comes next, an activation is live
next-live : (s : State) (x : Stmt) → Next s x → s.live ≢ []
unfolding last?
next-live s x n e = none-ne-some n.innermost (sym (ap last? e) ∙ n.last)

due-live : (l : Limits) (s : State) (c : Stop) → StopDue l s c → s.live ≢ []
due-live l s ResultTooLarge h = next-live s _ h.next
due-live l s NoActivationLeft h = go h.0.0
  where
    go : Enters s → s.live ≢ []
    go (enters-block b n) = next-live s _ n
    go (enters-body at p xs d n q) = next-live s _ n
due-live l s NumberBelowOne h = next-live s _ h.next
due-live l s GroupFull h = next-live s _ h.0.0.next
due-live l s TableFull h = next-live s _ h.0.0.next
due-live l s ArgumentsDiffer h = next-live s _ h.next

pub run-stops-exactly : (l : Limits) (n : ℕ) (s : State) (c : Stop) → ((run l n s).end ≡ Stopped c) ↔ (((run l n s).final.steps < s.steps + n) × StopDue l (run l n s).final c)
run-stops-exactly l n s c =
    let h = stopped-exactly l n s c in
    let t = (run l n s).final in
    (λ e. let q = h.0 e in (q.0, (stops-exactly l t c).0 q.2), λ q. h.1 (q.0, due-live l t c q.1, (stops-exactly l t c).1 q.1))
