-- Reading: whatever the reader gives is a tree whose fields were read, and that keeps the rules of Encoding and Bounds.
use Prim.Native.Nat.{ℕ, zero, suc, ◌+◌, ◌*◌, ◌/◌, ◌%◌, ◌≤◌}
use Rattle.std.specs.Prelude.{false, ◌≡◌, leb, length}
use Rattle.std.proofs.Math.Bool.{and-eq-true_iff}
use mathlib.Core.List.{List, [], ◌∷◌, ◌++◌, map, append_assoc}
use Rattle.std.proofs.Math.Path.{refl, subst}
use Rattle.std.proofs.Common.{sym, ap, ◌∙◌, length-append}
use native.Mathlib.Omega.{arith}
use borrow.Author.Tests.{leb-true, not-true}
use Rattle.std.proofs.Math.ListN.{length-map}
use Rattle.language.specs.Basics.{among}
use Rattle.language.specs.Text.{Kind, variable, label, procedure, Operation, plus, minus, less, Formal, Action, CL, GO, IF, KN, AR, AD, RM, QY, Block, block, Decl, PR, Stmt, Decls, decl, Stmts, stmt, decls, stmts, decl_name, formal_names}
use Rattle.language.specs.Encoding.{signed, kind_field, operation_field, BK-mark, VR-mark, LB-mark, PR-mark, FM-mark, CL-mark, GO-mark, IF-mark, KN-mark, AR-mark, AD-mark, RM-mark, QY-mark, action_fields, formals_fields, block_fields, decl_fields, stmt_fields, decls_fields, stmts_fields}
use Rattle.language.specs.Structure.{Reader, ◌>>=◌, give, fields, is_vR, is_lB, is_pR, is_bK, is_cL, is_gO, is_iF, is_kN, is_aR, is_aD, is_rM, is_qY, block_marks, formal_marks, decl_marks, stmt_marks, take-record, kind, operation, formals, BlockReader, declared, declarations, action, stated, statements, block_with, program}
use Rattle.laws.specs.Each.{Each, each_first, each-second}
use Rattle.laws.specs.Distinct.{Distinct, Fresh, fresh-distinct}
use Rattle.grammar.specs.Rules.{Name, FormedAction, FormedFormals, FormedBlock, FormedDecl, FormedStmt, FormedDecls, FormedStmts}
use Rattle.grammar.specs.Readers.{Yields, yields-bind, yields-part, yields-require, yields-fields, yields-marks}
use Rattle.grammar.specs.Words.{unsigned_signed, mag-signed}

-- from byte `at` and the fields us, the fields xs are read: on from byte o with the fields ws
pub record Step (at : ℕ) (us xs : List ℕ) (o : ℕ) (ws : List ℕ) : Type 0 where
  pub text : us ≡ xs ++ ws
  pub next : o ≡ at + 2 * length xs

join : {at o o' : ℕ} {us xs ws ys vs : List ℕ} → Step at us xs o ws → Step o ws ys o' vs → Step at us (xs ++ ys) o' vs
join {xs = xs} {ys = ys} {vs = vs} a b =
    record { text = a.text ∙ rw append_assoc (ap (λ l. xs ++ l) b.text); next = omega (arith, a.next, b.next, length-append xs ys) }

rest-named : {at o : ℕ} {us xs ws : List ℕ} → Step at us xs o ws → Each Name us → Each Name ws
rest-named {xs = xs} {ws = ws} s h = each-second Name xs ws (subst (Each Name) s.text h)

-- p formals after the names seen
pub record GotFormals (p : ℕ) (seen : List ℕ) (at : ℕ) (us : List ℕ) (fs : List Formal) (o : ℕ) (ws : List ℕ) : Type 0 where
  pub step : Step at us (formals_fields fs) o ws
  pub count : p ≡ length fs
  pub formed : FormedFormals fs at
  pub fresh : Fresh seen (formal_names fs)

module _ {B : Type 0} (r n : ℕ) (Q : B → ℕ → List ℕ → Type 0) (at : ℕ) (ws : List ℕ) where
  yields-kind : (f : Kind → Reader B) → ((k : Kind) → n ≡ kind_field k → Yields Q (f k at ws)) → Yields Q ((kind r n >>= f) at ws)
  unfolding kind give kind_field ◌>>=◌
  yields-kind f h = go n refl
    where
      go : (m : ℕ) → n ≡ m → Yields Q ((kind r n >>= f) at ws)
      go zero e = rw e (h variable e)
      go (suc zero) e = rw e (h label e)
      go (suc (suc zero)) e = rw e (h procedure e)
      go (suc (suc (suc m))) e = rw e tt

  yields-operation : (f : Operation → Reader B) → ((k : Operation) → n ≡ operation_field k → Yields Q (f k at ws)) → Yields Q ((operation r n >>= f) at ws)
  unfolding operation give operation_field ◌>>=◌
  yields-operation f h = go n refl
    where
      go : (m : ℕ) → n ≡ m → Yields Q ((operation r n >>= f) at ws)
      go zero e = rw e (h plus e)
      go (suc zero) e = rw e (h minus e)
      go (suc (suc zero)) e = rw e (h less e)
      go (suc (suc (suc m))) e = rw e tt

module _ (p : ℕ) (seen : List ℕ) (at : ℕ) (us : List ℕ) (h : Each Name us) (n f : ℕ) (vs : List ℕ) (e : us ≡ FM-mark ∷ n ∷ f ∷ vs) where
  got-formal : (k : Kind) → f ≡ kind_field k → among n seen ≡ false → (fs : List Formal) (o : ℕ) (ws : List ℕ) → GotFormals p (n ∷ seen) (at + 6) vs fs o ws
      → GotFormals (suc p) seen at us (record { at = at; name = n; kind = k } ∷ fs) o ws
  unfolding formals_fields FormedFormals formal_names
  got-formal k q a fs o ws g =
      record {
        step = record { text = cc g.step.text; next = omega (arith, g.step.next) };
        count = omega (arith, g.count);
        formed = record { stands = refl; name = (subst (Each Name) e h).1.0; rest = g.formed };
        fresh = (a, g.fresh);
      }

pub read-formals : (p : ℕ) (seen : List ℕ) (at : ℕ) (us : List ℕ) → Each Name us → Yields (GotFormals p seen at us) (formals p seen at us)
unfolding formals give formal_marks formals_fields FormedFormals formal_names
read-formals zero seen at us h = record { step = record { text = refl; next = omega arith }; count = refl; formed = tt; fresh = tt }
read-formals (suc p) seen at us h =
    yields-marks formal_marks _ (GotFormals (suc p) seen at us) at us (
      (λ n f vs e.
          yields-kind at f (GotFormals (suc p) seen at us) (at + 6) vs _ (λ k q.
          yields-require _ _ _ _ _ (at + 6) vs (λ t.
          yields-bind (formals p (n ∷ seen)) _ (GotFormals (suc p) seen at us) (GotFormals p (n ∷ seen) (at + 6) vs) (at + 6) vs
          (read-formals p (n ∷ seen) (at + 6) vs (subst (Each Name) e h).1.1.1)
          (λ fs o ws g. got-formal p seen at us h n f vs e k q (not-true (among n seen) t) fs o ws g)))),
      tt,
    )

-- a block at a level with its formals, its BK among the fields us
pub record GotBlock (level : ℕ) (fs : List Formal) (at : ℕ) (us : List ℕ) (t : Block) (o : ℕ) (ws : List ℕ) : Type 0 where
  pub step : Step at us (block_fields t) o ws
  pub formed : FormedBlock t level fs at

-- what is asked of the reader of the blocks one level below
abbrev pub ReadsBlocks : BlockReader → ℕ → Type 0
ReadsBlocks body level =
    (at d s : ℕ) (fs : List Formal) (us : List ℕ) → Each Name us → Distinct (formal_names fs)
    → Yields (GotBlock level fs at (BK-mark ∷ d ∷ s ∷ us)) (body at d s (formal_names fs) (at + 6) us)

-- a declaration at a level, of a block with s statements
pub record GotDecl (level s : ℕ) (seen : List ℕ) (at : ℕ) (us : List ℕ) (x : Decl) (o : ℕ) (ws : List ℕ) : Type 0 where
  pub step : Step at us (decl_fields x) o ws
  pub formed : FormedDecl x level s at
  pub fresh : among (decl_name x) seen ≡ false

module _ (body : BlockReader) (level : ℕ) (below : ReadsBlocks body (suc level)) (s : ℕ) (seen : List ℕ) (at : ℕ) (us : List ℕ) (h : Each Name us) where
  read-VR : (n : ℕ) (vs : List ℕ) → us ≡ VR-mark ∷ n ∷ vs → Yields (GotDecl level s seen at us) (declared body s seen is_vR at (n ∷ []) (at + 4) vs)
  unfolding declared give decl_fields FormedDecl decl_name
  read-VR n vs e = yields-require _ _ _ _ _ (at + 4) vs (λ t.
      record {
        step = record { text = e; next = refl };
        formed = record { stands = refl; name = (subst (Each Name) e h).1.0 };
        fresh = not-true (among n seen) t;
      })

  read-LB : (n i : ℕ) (vs : List ℕ) → us ≡ LB-mark ∷ n ∷ i ∷ vs → Yields (GotDecl level s seen at us) (declared body s seen is_lB at (n ∷ i ∷ []) (at + 6) vs)
  unfolding declared give decl_fields FormedDecl decl_name
  read-LB n i vs e =
      yields-require _ _ _ _ _ (at + 6) vs (λ r.
      yields-require _ _ _ _ _ (at + 6) vs (λ t.
      let q = (and-eq-true_iff (leb 1 i) (leb i s)).0 r in
      record {
        step = record { text = e; next = refl };
        formed = record { stands = refl; name = (subst (Each Name) e h).1.0; first = leb-true 1 i q.0; last = leb-true i s q.1 };
        fresh = not-true (among n seen) t;
      }))

  got-PR : (n p : ℕ) (vs : List ℕ) → us ≡ PR-mark ∷ n ∷ p ∷ vs → p ≤ 32 → among n seen ≡ false
      → (fs : List Formal) (o : ℕ) (ws : List ℕ) → GotFormals p [] (at + 6) vs fs o ws → (t : Block) (o' : ℕ) (ws' : List ℕ)
      → GotBlock (suc level) fs o ws t o' ws' → GotDecl level s seen at us (PR at n fs t) o' ws'
  unfolding decl_fields FormedDecl decl_name
  got-PR n p vs e few t fs o ws g b o' ws' k =
      let j = join g.step k.step in
      record {
        step = record { text = cc (j.text, g.count); next = omega (arith, j.next) };
        formed =
            record {
              stands = refl;
              name = (subst (Each Name) e h).1.0;
              few = omega (arith, g.count);
              formals = g.formed;
              body = rw g.step.next at k.formed;
            };
        fresh = t;
      }

  read-PR : (n p : ℕ) (vs : List ℕ) → us ≡ PR-mark ∷ n ∷ p ∷ vs → Yields (GotDecl level s seen at us) (declared body s seen is_pR at (n ∷ p ∷ []) (at + 6) vs)
  unfolding declared give block_marks
  read-PR n p vs e =
      yields-require _ _ _ _ _ (at + 6) vs (λ few.
      yields-require _ _ _ _ _ (at + 6) vs (λ t.
      yields-bind (formals p []) _ Q (GotFormals p [] (at + 6) vs) (at + 6) vs (read-formals p [] (at + 6) vs (subst (Each Name) e h).1.1.1) (λ fs o ws g.
      yields-marks block_marks _ Q o ws (
        (λ d c xs q.
            yields-bind (body o d c (formal_names fs)) _ Q (GotBlock (suc level) fs o (BK-mark ∷ d ∷ c ∷ xs)) (o + 6) xs
            (below o d c fs xs (subst (Each Name) q (rest-named g.step (subst (Each Name) e h).1.1.1)).1.1.1 (fresh-distinct [] (formal_names fs) tt g.fresh))
            (λ b o' ws' k. got-PR n p vs e (leb-true p 32 few) (not-true (among n seen) t) fs o ws g b o' ws' (rw q k))),
        tt,
      ))))
    where
      Q : Decl → ℕ → List ℕ → Type 0
      Q = GotDecl level s seen at us

  pub read-decl : Yields (GotDecl level s seen at us) ((take-record decl_marks >>= λ r. declared body s seen r.mark r.at r.fields) at us)
  unfolding decl_marks
  read-decl = yields-marks decl_marks _ _ at us (read-VR, (read-LB, (read-PR, tt)))

pub record GotDecls (level s d : ℕ) (seen : List ℕ) (at : ℕ) (us : List ℕ) (xs : Decls) (o : ℕ) (ws : List ℕ) : Type 0 where
  pub step : Step at us (decls_fields xs) o ws
  pub count : d ≡ length (decls xs)
  pub formed : FormedDecls xs level s at
  pub fresh : Fresh seen (map decl_name (decls xs))

got-decl : (level s d : ℕ) (seen : List ℕ) (at : ℕ) (us : List ℕ) (x : Decl) (o : ℕ) (vs : List ℕ) → GotDecl level s seen at us x o vs
    → (xs : Decls) (o' : ℕ) (ws : List ℕ) → GotDecls level s d (decl_name x ∷ seen) o vs xs o' ws
    → GotDecls level s (suc d) seen at us (decl x xs) o' ws
unfolding decls_fields decls FormedDecls
got-decl level s d seen at us x o vs g xs o' ws k =
    record {
      step = join g.step k.step;
      count = omega (arith, k.count);
      formed = (g.formed, rw g.step.next at k.formed);
      fresh = (g.fresh, k.fresh);
    }

pub read-decls : (body : BlockReader) (level : ℕ) → ReadsBlocks body (suc level) → (s d : ℕ) (seen : List ℕ) (at : ℕ) (us : List ℕ) → Each Name us
    → Yields (GotDecls level s d seen at us) (declarations body s d seen at us)
unfolding declarations give decls_fields decls FormedDecls
read-decls body level below s zero seen at us h = record { step = record { text = refl; next = omega arith }; count = refl; formed = tt; fresh = tt }
read-decls body level below s (suc d) seen at us h =
    yields-part (take-record decl_marks) (λ r. declared body s seen r.mark r.at r.fields) _ (GotDecls level s (suc d) seen at us)
    (GotDecl level s seen at us) at us (read-decl body level below s seen at us h)
    (λ x o vs g.
    yields-bind (declarations body s d (decl_name x ∷ seen)) _ (GotDecls level s (suc d) seen at us) (GotDecls level s d (decl_name x ∷ seen) o vs) o vs
    (read-decls body level below s d (decl_name x ∷ seen) o vs (rest-named g.step h))
    (λ xs o' ws k. got-decl level s d seen at us x o vs g xs o' ws k))

-- a statement at a level
pub record GotStmt (level : ℕ) (at : ℕ) (us : List ℕ) (x : Stmt) (o : ℕ) (ws : List ℕ) : Type 0 where
  pub step : Step at us (stmt_fields x) o ws
  pub formed : FormedStmt x level at

module _ (body : BlockReader) (level : ℕ) (below : ReadsBlocks body (suc level)) (at : ℕ) (us : List ℕ) (h : Each Name us) where
  read-BK : (d c : ℕ) (vs : List ℕ) → us ≡ BK-mark ∷ d ∷ c ∷ vs → Yields (GotStmt level at us) (stated body is_bK at (d ∷ c ∷ []) (at + 6) vs)
  unfolding stated give stmt_fields FormedStmt formal_names
  read-BK d c vs e =
      yields-bind (body at d c []) _ (GotStmt level at us) (GotBlock (suc level) [] at (BK-mark ∷ d ∷ c ∷ vs)) (at + 6) vs
      (below at d c [] vs (subst (Each Name) e h).1.1.1 tt)
      (λ b o ws k. record { step = rw e k.step; formed = k.formed })

  -- an action whose fields are those read
  got-action : (a : Action) (o : ℕ) (vs : List ℕ) → us ≡ action_fields a ++ vs → o ≡ at + 2 * length (action_fields a) → FormedAction a
      → Yields (GotStmt level at us) (action a at o vs)
  unfolding action give stmt_fields FormedStmt
  got-action a o vs e n f = record { step = record { text = e; next = n }; formed = record { stands = refl; action = f } }

  read-CL : (p a : ℕ) (vs : List ℕ) → us ≡ CL-mark ∷ p ∷ a ∷ vs → Yields (GotStmt level at us) (stated body is_cL at (p ∷ a ∷ []) (at + 6) vs)
  unfolding stated action_fields FormedAction
  read-CL p a vs e =
      yields-require _ _ _ _ _ (at + 6) vs (λ few.
      yields-bind (fields at a) _ (GotStmt level at us) Q (at + 6) vs
      (yields-fields at a Q (at + 6) vs (λ xs ws l q.
      let k = subst (Each Name) e h in
      let names : Each Name xs = each_first Name xs ws (subst (Each Name) q k.1.1.1) in
      got-action (CL p xs) (at + 6 + 2 * a) ws (cc) (omega arith) (record { called = k.1.0; arguments = names; few = omega (arith, leb-true a 32 few) })))
      (λ xs o ws y. y))
    where
      Q : List ℕ → ℕ → List ℕ → Type 0
      Q xs o ws = Yields (GotStmt level at us) (action (CL p xs) at o ws)

  read-GO : (l : ℕ) (vs : List ℕ) → us ≡ GO-mark ∷ l ∷ vs → Yields (GotStmt level at us) (stated body is_gO at (l ∷ []) (at + 4) vs)
  unfolding stated action_fields FormedAction
  read-GO l vs e = got-action (GO l) (at + 4) vs e refl (subst (Each Name) e h).1.0

  read-IF : (v l : ℕ) (vs : List ℕ) → us ≡ IF-mark ∷ v ∷ l ∷ vs → Yields (GotStmt level at us) (stated body is_iF at (v ∷ l ∷ []) (at + 6) vs)
  unfolding stated action_fields FormedAction
  read-IF v l vs e = let k = subst (Each Name) e h in got-action (IF v l) (at + 6) vs e refl (k.1.0, k.1.1.0)

  read-KN : (t lo hi : ℕ) (vs : List ℕ) → us ≡ KN-mark ∷ t ∷ lo ∷ hi ∷ vs → Yields (GotStmt level at us) (stated body is_kN at (t ∷ lo ∷ hi ∷ []) (at + 8) vs)
  unfolding stated action_fields FormedAction
  read-KN t lo hi vs e =
      let k = subst (Each Name) e h in
      let n = lo + 65536 * hi in
      let p : n % 65536 ≡ lo = omega arith in
      let q : n / 65536 ≡ hi = omega arith in
      got-action (KN t (signed n)) (at + 8) vs (rw (unsigned_signed n (omega arith), p, q) e) refl
      (record { target = k.1.0; value = mag-signed n (omega arith) })

  read-AR : (t o l r : ℕ) (vs : List ℕ) → us ≡ AR-mark ∷ t ∷ o ∷ l ∷ r ∷ vs → Yields (GotStmt level at us) (stated body is_aR at (t ∷ o ∷ l ∷ r ∷ []) (at + 10) vs)
  unfolding stated action_fields FormedAction
  read-AR t o l r vs e =
      let k = subst (Each Name) e h in
      yields-operation at o (GotStmt level at us) (at + 10) vs _ (λ p q. got-action (AR t p l r) (at + 10) vs (cc) refl (k.1.0, k.1.1.1.0, k.1.1.1.1.0))

  read-AD : (g m : ℕ) (vs : List ℕ) → us ≡ AD-mark ∷ g ∷ m ∷ vs → Yields (GotStmt level at us) (stated body is_aD at (g ∷ m ∷ []) (at + 6) vs)
  unfolding stated action_fields FormedAction
  read-AD g m vs e = let k = subst (Each Name) e h in got-action (AD g m) (at + 6) vs e refl (k.1.0, k.1.1.0)

  read-RM : (g m : ℕ) (vs : List ℕ) → us ≡ RM-mark ∷ g ∷ m ∷ vs → Yields (GotStmt level at us) (stated body is_rM at (g ∷ m ∷ []) (at + 6) vs)
  unfolding stated action_fields FormedAction
  read-RM g m vs e = let k = subst (Each Name) e h in got-action (RM g m) (at + 6) vs e refl (k.1.0, k.1.1.0)

  read-QY : (t g m : ℕ) (vs : List ℕ) → us ≡ QY-mark ∷ t ∷ g ∷ m ∷ vs → Yields (GotStmt level at us) (stated body is_qY at (t ∷ g ∷ m ∷ []) (at + 8) vs)
  unfolding stated action_fields FormedAction
  read-QY t g m vs e = let k = subst (Each Name) e h in got-action (QY t g m) (at + 8) vs e refl (k.1.0, k.1.1.0, k.1.1.1.0)

  pub read-stmt : Yields (GotStmt level at us) ((take-record stmt_marks >>= λ r. stated body r.mark r.at r.fields) at us)
  unfolding stmt_marks
  read-stmt =
      yields-marks stmt_marks _ _ at us
      (read-BK, (read-CL, (read-GO, (read-IF, (read-KN, (read-AR, (read-AD, (read-RM, (read-QY, tt)))))))))

pub record GotStmts (level s : ℕ) (at : ℕ) (us : List ℕ) (xs : Stmts) (o : ℕ) (ws : List ℕ) : Type 0 where
  pub step : Step at us (stmts_fields xs) o ws
  pub count : s ≡ length (stmts xs)
  pub formed : FormedStmts xs level at

got-stmt : (level s : ℕ) (at : ℕ) (us : List ℕ) (x : Stmt) (o : ℕ) (vs : List ℕ) → GotStmt level at us x o vs
    → (xs : Stmts) (o' : ℕ) (ws : List ℕ) → GotStmts level s o vs xs o' ws → GotStmts level (suc s) at us (stmt x xs) o' ws
unfolding stmts_fields stmts FormedStmts
got-stmt level s at us x o vs g xs o' ws k =
    record { step = join g.step k.step; count = omega (arith, k.count); formed = (g.formed, rw g.step.next at k.formed) }

read-stmts : (body : BlockReader) (level : ℕ) → ReadsBlocks body (suc level) → (s : ℕ) (at : ℕ) (us : List ℕ) → Each Name us
    → Yields (GotStmts level s at us) (statements body s at us)
unfolding statements give stmts_fields stmts FormedStmts
read-stmts body level below zero at us h = record { step = record { text = refl; next = omega arith }; count = refl; formed = tt }
read-stmts body level below (suc s) at us h =
    yields-part (take-record stmt_marks) (λ r. stated body r.mark r.at r.fields) _ (GotStmts level (suc s) at us)
    (GotStmt level at us) at us (read-stmt body level below at us h)
    (λ x o vs g.
    yields-bind (statements body s) _ (GotStmts level (suc s) at us) (GotStmts level s o vs) o vs
    (read-stmts body level below s o vs (rest-named g.step h))
    (λ xs o' ws k. got-stmt level s at us x o vs g xs o' ws k))

-- a block whose BK is taken, at a level, with so many levels left
module _ (level k : ℕ) (below : ReadsBlocks (block_with k) (suc level)) (deep : level ≤ 16) (at d s : ℕ) (fs : List Formal) (us : List ℕ)
    (h : Each Name us) (once : Distinct (formal_names fs)) where
  got-block : length (formal_names fs) + d ≤ 32 → (ds : Decls) (o : ℕ) (vs : List ℕ) → GotDecls level s d (formal_names fs) (at + 6) us ds o vs
      → (ss : Stmts) (o' : ℕ) (ws : List ℕ) → GotStmts level s o vs ss o' ws → GotBlock level fs at (BK-mark ∷ d ∷ s ∷ us) (block at ds ss) o' ws
  unfolding block_fields FormedBlock formal_names
  got-block few ds o vs g ss o' ws m =
      let j = join g.step m.step in
      record {
        step = record { text = cc (j.text, g.count, m.count); next = omega (arith, j.next) };
        formed =
            record {
              stands = refl;
              nesting = deep;
              few = omega (arith, g.count, length-map fs (λ (f : Formal). f.name));
              once = fresh-distinct (formal_names fs) (map decl_name (decls ds)) once g.fresh;
              declarations = rw m.count at g.formed;
              statements = rw g.step.next at m.formed;
            };
      }

  read-block : Yields (GotBlock level fs at (BK-mark ∷ d ∷ s ∷ us)) (block_with (suc k) at d s (formal_names fs) (at + 6) us)
  unfolding block_with give
  read-block =
      yields-require _ _ _ _ _ (at + 6) us (λ few.
      yields-bind (declarations (block_with k) s d (formal_names fs)) _ Q (GotDecls level s d (formal_names fs) (at + 6) us) (at + 6) us
      (read-decls (block_with k) level below s d (formal_names fs) (at + 6) us h)
      (λ ds o vs g.
      yields-bind (statements (block_with k) s) _ Q (GotStmts level s o vs) o vs
      (read-stmts (block_with k) level below s o vs (rest-named g.step h))
      (λ ss o' ws m. got-block (leb-true (length (formal_names fs) + d) 32 few) ds o vs g ss o' ws m)))
    where
      Q : Block → ℕ → List ℕ → Type 0
      Q = GotBlock level fs at (BK-mark ∷ d ∷ s ∷ us)

pub read-blocks : (k level : ℕ) → level + k ≡ 17 → ReadsBlocks (block_with k) level
unfolding block_with
read-blocks zero level e at d s fs us h once = tt
read-blocks (suc k) level e at d s fs us h once = read-block level k (read-blocks k (suc level) (omega arith)) (omega arith) at d s fs us h once

pub read-program : (us : List ℕ) → Each Name us → Yields (GotBlock 1 [] 0 us) (program 0 us)
unfolding program block_marks formal_names
read-program us h =
    yields-marks block_marks _ (GotBlock 1 [] 0 us) 0 us (
      (λ d s vs e. subst (λ (l : List ℕ). Yields (GotBlock 1 [] 0 l) (block_with 16 0 d s [] 6 vs)) (sym e)
          (read-blocks 16 1 refl 0 d s [] vs (subst (Each Name) e h).1.1.1 tt)),
      tt,
    )
