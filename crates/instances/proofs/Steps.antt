-- Every step keeps the invariant, so every state that a run comes to has it.
use Rattle.std.specs.Prelude.{ℕ, suc, pred, ◌≤◌, true, List, [], ◌∷◌, ◌++◌, map, ◌≡◌, refl, ℤ, length, take, drop}
use Rattle.std.proofs.Common.{append_assoc, append-nil, sym, ap, subst, ◌∙◌, arith}
use Rattle.std.proofs.Math.Option.{some}
use Rattle.std.proofs.Math.ListN.{get_elem?}
use Rattle.language.specs.Basics.{lookup, last?, but_last}
use Rattle.language.specs.Text.{label, Block, block, Decl, VR, LB, PR, Stmt, BK, DO, decl, decls, stmts, block_decls, block_stmts, decl_kind, label_index, decl_formals, decl_body, formal_names, formal_kinds}
use Rattle.language.specs.Scope.{agree}
use Rattle.language.specs.Table.{Table, add, remove}
use Rattle.language.specs.Machine.{Activation, State, Limits, with_live, with_table, counted, resume, store, Instance, instance, kind_at, did, enter, jump, next_stmt, advance, step, run, start}
use Rattle.laws.specs.Tests.{some_inj}
use Rattle.laws.specs.Lists.{get_elem-bound, get_elem-split, last-split}
use Rattle.laws.specs.Each.{each_at}
use Rattle.laws.specs.Instances.{FoundAt, found_at}
use Rattle.laws.specs.Rising.{Rising, rising-before}
use Rattle.runs.specs.Moves.{Known, After, step-knows, run-after}
use Rattle.instances.specs.Statement.{uses_of}
use Rattle.instances.proofs.Closed.{Kinds, LabelIn, Used, AllUsed, InBlock, InDecl, InStmt}
use Rattle.instances.proofs.Invariant.{kinds_in, live_kinds, CopyIn, AllSeen, Placed, Stacked, Invariant, stacked-before, stacked-at, resumed, live_kinds-append}
use Rattle.instances.proofs.Found.{kind_at-live, instance-of, decl-in, stmt-in}
use Rattle.instances.proofs.Entering.{entered}

-- the start
pub started : (t : Block) (table : Table) → InBlock t [] [] → Invariant (start t table)
unfolding start formal_names formal_kinds agree live_kinds Stacked Rising
started t table h = entered (record { live = []; values = []; fresh = 65536; table = table; steps = 0 }) [] [] t 0 [] [] [] (record { rising = omega arith; stacked = tt }) refl tt refl h

-- what changes neither the live activations nor the next new name
pub stored : (s : State) (x : ℕ) (z : ℤ) → Invariant s → Invariant (store s x z)
unfolding store
stored s x z inv = record { rising = inv.rising; stacked = inv.stacked }

pub retabled : (s : State) (t : Table) → Invariant s → Invariant (with_table s t)
unfolding with_table
retabled s t inv = record { rising = inv.rising; stacked = inv.stacked }

pub counted-invariant : (s s' : State) → Invariant s' → Invariant (counted s s')
unfolding counted
counted-invariant s s' inv = record { rising = inv.rising; stacked = inv.stacked }

-- the innermost activation's next statement is closed
last-kinds : (as' : List Activation) (a : Activation) → last? as' ≡ some a → live_kinds as' ≡ live_kinds (but_last as') ++ kinds_in a.text
unfolding live_kinds
last-kinds as' a e =
    ap live_kinds (last-split as' a e) ∙ live_kinds-append (but_last as') (a ∷ []) ∙
    ap {B = Kinds} (λ r. live_kinds (but_last as') ++ r) (append-nil (kinds_in a.text))

pub last-placed : (s : State) (a : Activation) → Invariant s → last? s.live ≡ some a → Placed (live_kinds (but_last s.live)) a
last-placed s a inv e = stacked-at [] (but_last s.live) a [] (rw (last-split s.live a e) at inv.stacked)

stmt-of-copy : (b : Block) (i : ℕ) (K : Kinds) (x : Stmt) → get_elem? (block_stmts b) i ≡ some x → CopyIn b K → InStmt x K
unfolding block_stmts CopyIn
stmt-of-copy (block at ds ss) i K x e h = stmt-in ss i K x e h.2

pub next-closed : (s : State) (a : Activation) (x : Stmt) → Invariant s → last? s.live ≡ some a → next_stmt a ≡ some x → InStmt x (live_kinds s.live)
unfolding next_stmt
next-closed s a x inv e f =
    let p = last-placed s a inv e in
    rw (last-kinds s.live a e) (stmt-of-copy a.text (pred a.next) (live_kinds (but_last s.live) ++ kinds_in a.text) x f p.closed)

-- leaving
pub left : (s : State) (a : Activation) → Invariant s → last? s.live ≡ some a → Invariant (with_live s (but_last s.live))
unfolding with_live
left s a inv e =
    record {
      rising = rising-before 65536 (but_last s.live) (a ∷ []) s.fresh (rw (last-split s.live a e) at inv.rising);
      stacked = stacked-before [] (but_last s.live) (a ∷ []) (rw (last-split s.live a e) at inv.stacked);
    }

-- going on to the next statement
pub advanced : (s : State) (a : Activation) (x : Stmt) → Invariant s → last? s.live ≡ some a → next_stmt a ≡ some x → Invariant (advance s a)
unfolding advance next_stmt
advanced s a x inv e f =
    let inside = get_elem-bound (block_stmts a.text) (pred a.next) x f in
    resumed s (but_last s.live) a [] (suc a.next) (last-split s.live a e) (omega arith) (omega arith) inv

pub advanced-kinds : (s : State) (a : Activation) → last? s.live ≡ some a → live_kinds (advance s a).live ≡ live_kinds s.live
unfolding advance with_live resume live_kinds
advanced-kinds s a e =
    live_kinds-append (but_last s.live) (resume a (suc a.next) ∷ []) ∙ ap {B = Kinds} (λ r. live_kinds (but_last s.live) ++ r) (append-nil (kinds_in a.text)) ∙
    sym (last-kinds s.live a e)

-- entering a block of the text
entered-block : (s : State) (a : Activation) (b : Block) → Invariant s → last? s.live ≡ some a → next_stmt a ≡ some (BK b) → Invariant (enter (advance s a) [] [] b (length (advance s a).live) a.reads)
unfolding InBlock formal_names formal_kinds agree
entered-block s a b inv e n =
    let K = live_kinds (advance s a).live in
    entered (advance s a) [] [] b (length (advance s a).live) a.reads K [] (advanced s a (BK b) inv e n) (sym (append-nil K)) tt refl (rw (advanced-kinds s a e) (next-closed s a (BK b) inv e n))

-- the declaration of a name's instance, in the copy that has it
pub record Home (s : State) (i : Instance) : Type 0 where
  pub around : Kinds
  pub above : Kinds
  pub part : live_kinds s.live ≡ around ++ above
  pub declaration : InDecl i.decl around
  pub label_inside : LabelIn (length (block_stmts i.home.text)) i.decl

decl-of-copy : (b : Block) (j : ℕ) (K : Kinds) (d : Decl) → get_elem? (block_decls b) j ≡ some d → CopyIn b K → InDecl d K × LabelIn (length (block_stmts b)) d
unfolding block_decls block_stmts CopyIn
decl-of-copy (block at ds ss) j K d e h = (decl-in ds j K d e h.1, each_at (LabelIn (length (stmts ss))) (decls ds) j d e h.0)

-- the activations before an instance's, that one, and those after it
pub live-split : (s : State) (x : ℕ) (i : Instance) (f : FoundAt x 1 s.live i) →
    s.live ≡ take f.depth s.live ++ (i.home ∷ drop (suc f.depth) s.live)
live-split s x i f = get_elem-split s.live f.depth i.home f.home_at

pub home-of : (s : State) (x : ℕ) (i : Instance) → Invariant s → (f : FoundAt x 1 s.live i) → Home s i
unfolding live_kinds
home-of s x i inv f =
    let before = take f.depth s.live in
    let after = drop (suc f.depth) s.live in
    let p = stacked-at [] before i.home after (subst (Stacked []) (live-split s x i f) inv.stacked) in
    let around : Kinds = live_kinds before ++ kinds_in i.home.text in
    let d = decl-of-copy i.home.text f.index around i.decl f.decl-at p.closed in
    record {
      around = around;
      above = live_kinds after;
      part =
          ap live_kinds (live-split s x i f) ∙ live_kinds-append before (i.home ∷ after) ∙
          sym (append_assoc (live_kinds before) (kinds_in i.home.text) (live_kinds after));
      declaration = d.0;
      label_inside = d.1;
    }

pub body-in : (d : Decl) (K : Kinds) → InDecl d K → InBlock (decl_body d) (decl_formals d) K
unfolding InBlock decl_body decl_formals formal_names decls
body-in (VR at n) K h = (record { formals-small = tt; small = tt; once = tt; labels = tt }, tt, tt)
body-in (LB at n i) K h = (record { formals-small = tt; small = tt; once = tt; labels = tt }, tt, tt)
body-in (PR at n fs b) K h = h

kinds-of-arguments : (s : State) (xs : List ℕ) → map (kind_at s) xs ≡ map (λ (x : ℕ). lookup x (live_kinds s.live)) xs
kinds-of-arguments s [] = refl
kinds-of-arguments s (x ∷ xs) =
    let first = kind_at-live s x in
    let rest = kinds-of-arguments s xs in
    cc

called : (s : State) (p : ℕ) (xs : List ℕ) (i : Instance) → Invariant s → AllSeen (live_kinds s.live) xs → instance s p ≡ some i →
    agree (formal_kinds (decl_formals i.decl)) (map (kind_at s) xs) ≡ true → Invariant (enter s (formal_names (decl_formals i.decl)) xs (decl_body i.decl) i.number i.home.reads)
called s p xs i inv seen e agrees =
    let h = home-of s p i inv (found_at s p i e) in
    entered s (decl_formals i.decl) xs (decl_body i.decl) i.number i.home.reads h.around h.above inv h.part seen
    (rw (kinds-of-arguments s xs) at agrees) (body-in i.decl h.around h.declaration)

-- a jump
label-bounds : (d : Decl) (s : ℕ) → decl_kind d ≡ label → LabelIn s d → (1 ≤ label_index d) × (label_index d ≤ s)
unfolding decl_kind label_index LabelIn
label-bounds (VR at n) s e h = (let z : ◌≡◌ {A = ℕ} 0 1 = cc in absurd (omega arith))
label-bounds (LB at n i) s e h = h
label-bounds (PR at n fs b) s e h = (let z : ◌≡◌ {A = ℕ} 0 1 = cc in absurd (omega arith))

label-kind : (s : State) (x : ℕ) (i : Instance) → instance s x ≡ some i → Used (live_kinds s.live) (x, some label) → decl_kind i.decl ≡ label
label-kind s x i e u =
    let j = instance-of s x u.kind u.seen in
    let same : j.0 ≡ i = some_inj (sym j.1 ∙ e) in
    sym (ap (λ (k : Instance). decl_kind k.decl) same) ∙ j.2 ∙ sym u.serves

jumped : (s : State) (x : ℕ) (i : Instance) → Invariant s → Used (live_kinds s.live) (x, some label) → instance s x ≡ some i →
    Invariant (with_live s (take (pred i.number) s.live ++ (resume i.home (label_index i.decl) ∷ [])))
jumped s x i inv u e =
    let f = found_at s x i e in
    let b = label-bounds i.decl (length (block_stmts i.home.text)) (label-kind s x i e u) (home-of s x i inv f).label_inside in
    let below : pred i.number ≡ f.depth = let n = f.number_is in omega arith in
    rw below (resumed s (take f.depth s.live) i.home (drop (suc f.depth) s.live) (label_index i.decl) (live-split s x i f) b.0 (omega arith) inv)

-- So each of the machine's moves keeps the invariant, where the names that the action uses are visible.
known : (l : Limits) → Known l Invariant (λ s a. AllUsed (live_kinds s.live) (uses_of a))
unfolding uses_of InBlock
known l =
    record {
      left = λ s a e inv. left s a inv e;
      advanced = λ s a at x e n inv. (advanced s a (DO at x) inv e n, rw (advanced-kinds s a e) (next-closed s a (DO at x) inv e n));
      stored = stored;
      entered = λ s a b e n room inv. entered-block s a b inv e n;
      called = λ s p xs i u e agrees room inv. called s p xs i inv u.1 e agrees;
      jumped = λ s x i u e inv. jumped s x i inv u.0 e;
      branched = λ s v x u. u.1;
      added = λ s g m ones new below room inv. retabled s (add g m s.table) inv;
      removed = λ s g m inv. retabled s (remove g m s.table) inv;
    }

step-holds : (l : Limits) (s : State) → Invariant s → After Invariant (step l s)
step-holds l s inv = step-knows l Invariant (λ s' a. AllUsed (live_kinds s'.live) (uses_of a)) (known l) s inv

pub step_keeps : (l : Limits) (s s' : State) → Invariant s → step l s ≡ did s' → Invariant s'
step_keeps l s s' inv e = rw e at (step-holds l s inv)

pub run-keeps : (l : Limits) (n : ℕ) (s : State) → Invariant s → Invariant (run l n s).final
run-keeps l n s inv = run-after l Invariant (step-holds l) counted-invariant n s inv
