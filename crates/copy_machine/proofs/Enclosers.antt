-- What encloses what, in the copy-rule machine. `Enclosed`: an activation's text is a block as it stands in the copy of the activation that is its encloser, with
-- the block's own names replaced: a BK's block is the one that the activation below has passed last, a body is that of the procedure which the activation below has
-- called last, and the program stands in no copy. `Enclosing`: so it is of all live activations, and no two of them share a new name; `only-encloser`: then no
-- other activation declares the called name. `step-encloses`: a step keeps it; `run-encloses`: so it holds of what a run comes to, whatever the allowance; `call-encloses`
-- says it of what a call shows on its sheet.
use Prim.Native.Nat.{ℕ, zero, suc, pred, ◌≤◌, ◌<◌}
use Rattle.std.proofs.Common.{arith, ◌∙◌, leb-true, leb-false}
use Rattle.std.specs.Prelude.{true, ◌≡◌, leb, length, take, drop}
use mathlib.Core.List.{List, [], ◌∷◌, ◌++◌, map}
use Rattle.std.proofs.Math.Option.{Option, none, some}
use Rattle.std.proofs.Math.Path.{refl, sym, ap, subst}
use Rattle.std.proofs.Math.ListN.{get_elem?, length-map}
use Rattle.language.specs.Basics.{last?, but_last}
use Rattle.language.specs.Text.{procedure, Action, CL, GO, IF, KN, AR, AD, RM, QY, Formal, Block, Decl, Stmt, BK, DO, block_decls, block_stmts, decl_name, decl_kind, label_index, decl_formals, decl_body, formal_names, formal_kinds}
use Rattle.language.specs.Scope.{agree}
use Rattle.language.specs.Table.{Table}
use Rattle.language.specs.Copy.{Replacement}
use Rattle.language.specs.Machine.{Activation, State, Limits, Instance, Done, did, stop, with_live, with_table, counted, resume, store, activation, enter, instance, kind_at, next_stmt, advance, step, run, start}
use Rattle.language.specs.Call.{Engine, Fed, limits_of, run_of}
use Rattle.laws.specs.Tests.{split, none≢some, some_inj}
use Rattle.laws.specs.Lists.{last-split, last_snoc, snoc-length, get_elem-seam, get_elem-bound}
use Rattle.laws.specs.Kinds.{agree-many}
use Rattle.laws.specs.Instances.{found_at}
use Rattle.laws.specs.Rising.{rising-within, same-declaration}
use Rattle.grammar.specs.Rules.{Bytes}
use Rattle.runs.specs.Moves.{Leads, After, step-leads, run-after}
use Rattle.runs.specs.Admission.{Admitted}
use Rattle.instances.proofs.Accepted.{accepted-closed}
use Rattle.instances.specs.Statement.{uses_of}
use Rattle.instances.proofs.Closed.{AllUsed, InBlock}
use Rattle.instances.proofs.Invariant.{live_kinds, Invariant}
use Rattle.instances.proofs.Steps as invariant
use Rattle.instances.proofs.Steps.{last-placed, live-split, next-closed, advanced-kinds, started}
use Rattle.instances.proofs.Theorems.{stands}
use Rattle.frames.specs.Frame.{numbered}
use Rattle.frames.specs.Numbered.{numbered-low, numbered-index, numbered-bounds, numbered-append, numbered-seam, numbered-suc, last-numbered}
use Rattle.copy_machine.specs.Enclosers.{AllEnclosed, CopyOf, Enclosed, Enclosing, block, body, passed_by, whole}

-- whichever activation declares the name that the one below has called last is the encloser
module _ (t : Block) (s : State) (w : Enclosing t s) (k : ℕ) (a c : Activation) (stands : numbered s.live (suc k) ≡ some a) (below : numbered s.live k ≡ some c)
    (at p : ℕ) (xs : List ℕ) (called : passed_by c ≡ some (DO at (CL p xs))) (m : ℕ) (h : Activation) (there : numbered s.live m ≡ some h)
    (j : ℕ) (d : Decl) (declares : get_elem? (block_decls h.text) j ≡ some d) (name : decl_name d ≡ p) where
  same-call : (o q : ℕ) (ys : List ℕ) → some (DO o (CL q ys)) ≡ some (DO at (CL p xs)) → q ≡ p
  same-call o q ys e = cc

  no_block : (b : Block) → some (BK b) ≡ some (DO at (CL p xs)) → ⊥
  no_block b e = let z : ◌≡◌ {A = ℕ} 0 1 = cc in omega arith

  by-case : Enclosed t s.live (suc k) a → a.encloser ≡ m
  by-case (whole one no_copy copy) = absurd (omega (arith, numbered-low s.live k c below))
  by-case (block g b next inside stmt copy) =
      let same : g ≡ c = some_inj (sym inside ∙ (let e : a.encloser ≡ k = omega arith in ap (numbered s.live) e) ∙ below) in
      absurd (no_block b (sym stmt ∙ ap passed_by same ∙ called))
  by-case (body c' g o q i ys e below' called' out inside decl name' kind copy) =
      let same : c' ≡ c = some_inj (sym below' ∙ below) in
      let q-is : q ≡ p = same-call o q ys (sym called' ∙ ap passed_by same ∙ called) in
      let one = same-declaration 65536 s.live s.fresh (pred a.encloser) i (pred m) j g h e d w.new-names (numbered-index s.live a.encloser g inside) decl (numbered-index s.live m h there) declares (name' ∙ q-is ∙ sym name) in
      omega (arith, one.0, numbered-low s.live a.encloser g inside, numbered-low s.live m h there)

  pub only-encloser : a.encloser ≡ m
  only-encloser = by-case (w.each (suc k) a stands)

module _ (t : Block) where
  -- it depends on the activations below alone
  enclosed-same : (l l' : List Activation) (k : ℕ) (a : Activation) → 1 ≤ k → ((j : ℕ) → j < k → numbered l' j ≡ numbered l j) → Enclosed t l k a → Enclosed t l' k a
  enclosed-same l l' k a low same (whole one no_copy copy) = whole one no_copy copy
  enclosed-same l l' k a low same (block h b next stands stmt copy) = block h b next (same a.encloser (omega arith) ∙ stands) stmt copy
  enclosed-same l l' k a low same (body c h at p j xs d below called out stands decl name kind copy) =
      body c h at p j xs d (same (pred k) (omega arith) ∙ below) called out (same a.encloser out ∙ stands) decl name kind copy

  -- where an activation goes on is no matter
  copy-resumed : {b : Block} {formals arguments : List ℕ} {around : List Replacement} {a : Activation} (n : ℕ) → CopyOf b formals arguments around a → CopyOf b formals arguments around (resume a n)
  unfolding resume
  copy-resumed n c = record { new = c.new; high = c.high; as_many = c.as_many; text-is = c.text-is; arguments-are = c.arguments-are; reads-are = c.reads-are }

  enclosed-resumed : (l : List Activation) (k : ℕ) (a : Activation) (n : ℕ) → Enclosed t l k a → Enclosed t l k (resume a n)
  unfolding resume
  enclosed-resumed l k a n (whole one no_copy copy) = whole one no_copy (copy-resumed n copy)
  enclosed-resumed l k a n (block h b next stands stmt copy) = block h b next stands stmt (copy-resumed n copy)
  enclosed-resumed l k a n (body c h at p j xs d below called out stands decl name kind copy) =
      body c h at p j xs d below called out stands decl name kind (copy-resumed n copy)

  -- Activations that stay, that go on elsewhere, and one more

  all-below : (pre rest : List Activation) → AllEnclosed t (pre ++ rest) → AllEnclosed t pre
  all-below pre rest all k a e =
      let b = numbered-bounds pre k a e in
      enclosed-same (pre ++ rest) pre k a b.0 (λ j h. sym (numbered-append pre rest j (omega arith))) (all k a (numbered-append pre rest k b.1 ∙ e))

  all_more : (l : List Activation) (a : Activation) → AllEnclosed t l → Enclosed t (l ++ (a ∷ [])) (suc (length l)) a → AllEnclosed t (l ++ (a ∷ []))
  all_more l a all new k c e =
      let b = numbered-bounds (l ++ (a ∷ [])) k c e in
      split (leb k (length l))
      (λ q. let low = leb-true k (length l) q in
      enclosed-same l (l ++ (a ∷ [])) k c b.0 (λ j h. numbered-append l (a ∷ []) j (omega arith)) (all k c (sym (numbered-append l (a ∷ []) k low) ∙ e)))
      (λ q. let last : suc (length l) ≡ k = omega (arith, leb-false k (length l) q, snoc-length l a) in
      let own : a ≡ c = some_inj (sym (numbered-seam l a) ∙ ap (numbered (l ++ (a ∷ []))) last ∙ e) in
      subst (λ (T : Type 0). T) (λ i. Enclosed t (l ++ (a ∷ [])) (last i) (own i)) new)

  all-resumed : (pre : List Activation) (a : Activation) (rest : List Activation) (n : ℕ) → AllEnclosed t (pre ++ (a ∷ rest)) → AllEnclosed t (pre ++ (resume a n ∷ []))
  all-resumed pre a rest n all =
      let here = all (suc (length pre)) a (numbered-suc (pre ++ (a ∷ rest)) (length pre) ∙ get_elem-seam pre a rest) in
      all_more pre (resume a n) (all-below pre (a ∷ rest) all)
      (enclosed-resumed (pre ++ (resume a n ∷ [])) (suc (length pre)) a n
      (enclosed-same (pre ++ (a ∷ rest)) (pre ++ (resume a n ∷ [])) (suc (length pre)) a (omega arith)
      (λ j h. numbered-append pre (resume a n ∷ []) j (omega arith) ∙ sym (numbered-append pre (a ∷ rest) j (omega arith))) here))

-- the innermost activation has passed the action, and the names that it uses are visible
record Passing (s : State) (x : Action) : Type 0 where
  innermost : Activation
  at : ℕ
  last : last? s.live ≡ some innermost
  passed : passed_by innermost ≡ some (DO at x)
  used : AllUsed (live_kinds s.live) (uses_of x)

-- so far as it is a CL
unfoldable Calls : State → Action → Type 0
Calls s (CL p xs) = Passing s (CL p xs)
Calls s (GO x) = Unit {0}
Calls s (IF v x) = Unit {0}
Calls s (KN x z) = Unit {0}
Calls s (AR x o a b) = Unit {0}
Calls s (AD g m) = Unit {0}
Calls s (RM g m) = Unit {0}
Calls s (QY x g m) = Unit {0}

calls-if : (s : State) (x : Action) → Passing s x → Calls s x
unfolding Calls
calls-if s (CL p xs) h = h
calls-if s (GO x) h = tt
calls-if s (IF v x) h = tt
calls-if s (KN x z) h = tt
calls-if s (AR x o a b) h = tt
calls-if s (AD g m) h = tt
calls-if s (RM g m) h = tt
calls-if s (QY x g m) h = tt

-- past a statement, that statement is the one passed last
passed-next : (a : Activation) → 1 ≤ a.next → passed_by (resume a (suc a.next)) ≡ next_stmt a
unfolding passed_by next_stmt resume
passed-next a low = go a.next low
  where
    go : (n : ℕ) → 1 ≤ n → ◌≡◌ {A = Option Stmt} (elim n [ zero ↦ none | suc i ↦ get_elem? (block_stmts a.text) i ]) (get_elem? (block_stmts a.text) (pred n))
    go zero h = absurd (omega arith)
    go (suc i) h = refl

-- the instance of a called name is a procedure
called-kind : (s : State) (p : ℕ) (xs : List ℕ) (i : Instance) → Invariant s → AllUsed (live_kinds s.live) (uses_of (CL p xs)) → instance s p ≡ some i → decl_kind i.decl ≡ procedure
unfolding uses_of
called-kind s p xs i inv used e =
    let w = stands s p (some procedure) inv used.0 in
    let same : w.it ≡ i = some_inj (sym w.found ∙ e) in
    sym (ap (λ (y : Instance). decl_kind y.decl) same) ∙ sym w.serves

new-high : (s : State) → Invariant s → 65536 ≤ s.fresh
new-high s inv = rising-within 65536 s.live s.fresh inv.rising

module _ (l : Limits) (t : Block) where
  abbrev All : State → Type 0
  All s = AllEnclosed t s.live

  abbrev Before : State → Type 0
  Before s = Invariant s × All s

  module _ (s : State) (a : Activation) (last : last? s.live ≡ some a) (h : Before s) where
    pieces : AllEnclosed t (but_last s.live ++ (a ∷ []))
    pieces = subst (AllEnclosed t) (last-split s.live a last) h.1

    left : All (with_live s (but_last s.live))
    unfolding with_live
    left = all-below t (but_last s.live) (a ∷ []) pieces

    ahead : All (advance s a)
    unfolding advance with_live
    ahead = all-resumed t (but_last s.live) a [] (suc a.next) pieces

    innermost : last? (advance s a).live ≡ some (resume a (suc a.next))
    unfolding advance with_live
    innermost = last_snoc (but_last s.live) (resume a (suc a.next))

    passed : passed_by (resume a (suc a.next)) ≡ next_stmt a
    passed = passed-next a (last-placed s a h.0 last).begun

    passing : (at : ℕ) (x : Action) → next_stmt a ≡ some (DO at x) → Passing (advance s a) x
    unfolding InBlock
    passing at x n =
        record {
          innermost = resume a (suc a.next);
          at = at;
          last = innermost;
          passed = passed ∙ n;
          used = rw (advanced-kinds s a last) (next-closed s a (DO at x) h.0 last n);
        }

    entered : (b : Block) → next_stmt a ≡ some (BK b) → All (enter (advance s a) [] [] b (length (advance s a).live) a.reads)
    unfolding enter activation resume
    entered b n =
        let m = (advance s a).live in
        let high = new-high (advance s a) (invariant.advanced s a (BK b) h.0 last n) in
        all_more t m _ ahead
        (block (resume a (suc a.next)) b refl (numbered-append m _ (length m) (omega arith) ∙ sym (last-numbered m) ∙ innermost) (passed ∙ n)
        (record { new = (advance s a).fresh; high = high; as_many = refl; text-is = refl; arguments-are = refl; reads-are = refl }))

  called : (s : State) (p : ℕ) (xs : List ℕ) (i : Instance) → Calls s (CL p xs) → instance s p ≡ some i → agree (formal_kinds (decl_formals i.decl)) (map (kind_at s) xs) ≡ true → Before s
      → All (enter s (formal_names (decl_formals i.decl)) xs (decl_body i.decl) i.number i.home.reads)
  unfolding Calls enter activation formal_names
  called s p xs i u e agrees h =
      let f = found_at s p i e in
      let m = s.live in
      let many = length-map (decl_formals i.decl) (λ (y : Formal). y.name) ∙ sym (agree-many (kind_at s) (decl_formals i.decl) xs agrees) in
      let bound = get_elem-bound m f.depth i.home f.home_at in
      let number : i.number ≡ suc f.depth = omega (arith, f.number_is) in
      all_more t m _ h.1
      (body u.innermost i.home u.at p f.index xs i.decl (numbered-append m _ (length m) (omega arith) ∙ sym (last-numbered m) ∙ u.last) u.passed (omega arith)
      (numbered-append m _ i.number (omega arith) ∙ ap (numbered m) number ∙ numbered-suc m f.depth ∙ f.home_at) f.decl-at f.name-is (called-kind s p xs i h.0 u.used e)
      (record { new = s.fresh; high = new-high s h.0; as_many = many; text-is = refl; arguments-are = refl; reads-are = refl }))

  jumped : (s : State) (x : ℕ) (i : Instance) → instance s x ≡ some i → All s → All (with_live s (take (pred i.number) s.live ++ (resume i.home (label_index i.decl) ∷ [])))
  unfolding with_live
  jumped s x i e all =
      let f = found_at s x i e in
      let below : f.depth ≡ pred i.number = omega (arith, f.number_is) in
      subst (λ n. AllEnclosed t (take n s.live ++ (resume i.home (label_index i.decl) ∷ []))) below
      (all-resumed t (take f.depth s.live) i.home (drop (suc f.depth) s.live) (label_index i.decl) (subst (AllEnclosed t) (live-split s x i f) all))

  leads : Leads l Before All Calls
  unfolding store with_table Calls
  leads =
      record {
        left = λ s a e h. left s a e h;
        advanced = λ s a at x e n h.
            ((invariant.advanced s a (DO at x) h.0 e n, ahead s a e h), calls-if (advance s a) x (passing s a e h at x n));
        stays = λ s h. h.1;
        stored = λ s x z h. h.1;
        entered = λ s a b e n room h. entered s a e h b n;
        called = λ s p xs i u e agrees room h. called s p xs i u e agrees h;
        jumped = λ s x i u e h. jumped s x i e h.1;
        branched = λ s v x u. tt;
        added = λ s g m ones new below room h. h.1;
        removed = λ s g m h. h.1;
      }

  step-enclosed : (s s' : State) → Invariant s → AllEnclosed t s.live → step l s ≡ did s' → AllEnclosed t s'.live
  step-enclosed s s' inv all e = subst (After All) e (step-leads l Before All Calls leads s (inv, all))

  pub step-encloses : (s s' : State) → Invariant s → Enclosing t s → step l s ≡ did s' → Enclosing t s'
  step-encloses s s' inv w e = record { each = step-enclosed s s' inv w.each e; new-names = (invariant.step_keeps l s s' inv e).rising }

  step_both : (s : State) → Before s → After Before (step l s)
  step_both s h = go (step l s) refl
    where
      go : (d : Done) → step l s ≡ d → After Before d
      go (did s') e = (invariant.step_keeps l s s' h.0 e, step-enclosed s s' h.0 h.1 e)
      go (stop c) e = tt

  counted-both : (s s' : State) → Before s' → Before (counted s s')
  unfolding counted
  counted-both s s' h = (invariant.counted-invariant s s' h.0, h.1)

  pub run-encloses : (n : ℕ) (s : State) → Invariant s → AllEnclosed t s.live → Enclosing t (run l n s).final
  run-encloses n s inv all = let r = run-after l Before step_both counted-both n s (inv, all) in record { each = r.1; new-names = r.0.rising }

start-enclosed : (t : Block) (table : Table) → AllEnclosed t (start t table).live
unfolding start enter activation numbered
start-enclosed t table =
    all_more t [] _ (λ k a e. none≢some (sym (numbered-none k) ∙ e)) (whole refl refl (record { new = 65536; high = omega arith; as_many = refl; text-is = refl; arguments-are = refl; reads-are = refl }))
  where
    numbered-none : (k : ℕ) → numbered {A = Activation} [] k ≡ none
    numbered-none zero = refl
    numbered-none (suc k) = refl

-- what a call's run leaves, whose activations the sheet shows
pub call-encloses : (e : Engine) (f : Fed) (t : Block) → Bytes f.script → Admitted e f t → Enclosing t (run_of f t).final
unfolding run_of
call-encloses e f t bytes h =
    let table = f.lent.table in
    run-encloses (limits_of f) t f.allowance (start t table) (started t table (accepted-closed f.script t bytes h.script)) (start-enclosed t table)
