-- Writing: the fields of a tree that keeps the rules of Encoding and Bounds are read as that tree.
use Rattle.std.specs.Prelude.{ℕ, zero, suc, ◌+◌, ◌*◌, ◌/◌, ◌%◌, ◌≤◌, true, false, not, ◌≡◌, leb, ℤ, get_or}
use Rattle.std.proofs.Math.Bool.{and-eq-true_iff}
use mathlib.Core.List.{List, [], ◌∷◌, ◌++◌, map, append_assoc, append-nil}
use Rattle.std.proofs.Math.Path.{refl, ap}
use Rattle.std.proofs.Common.{sym, ◌∙◌, arith, length-append}
use borrow.Author.Tests.{le-leb}
use Rattle.std.proofs.Math.ListN.{length}
use Rattle.std.proofs.lemmas.List.{length-map}
use Rattle.language.specs.Basics.{among}
use Rattle.language.specs.Text.{Kind, variable, label, procedure, Operation, plus, minus, less, Formal, Action, CL, GO, IF, KN, AR, AD, RM, QY, Block, block, Decl, VR, LB, PR, Stmt, BK, DO, Decls, no-decl, decl, Stmts, no-stmt, stmt, decls, stmts, block_decls, block_stmts, decl_name, formal_names}
use Rattle.language.specs.Encoding.{signed, unsigned, kind_field, operation_field, BK-mark, VR-mark, LB-mark, PR-mark, FM-mark, CL-mark, GO-mark, IF-mark, KN-mark, AR-mark, AD-mark, RM-mark, QY-mark, action_fields, formals_fields, block_fields, decl_fields, stmt_fields, decls_fields, stmts_fields}
use Rattle.language.specs.Structure.{read, Reader, ◌>>=◌, give, fields, Row, is_vR, is_lB, is_pR, is_bK, is_cL, is_gO, is_iF, is_kN, is_aR, is_aD, is_rM, is_qY, block_marks, formal_marks, decl_marks, stmt_marks, fit, Record, take-record, kind, operation, formals, declared, declarations, action, stated, statements, block_with, program}
use Rattle.laws.specs.Distinct.{Distinct, Fresh, distinct-fresh, distinct-first}
use Rattle.laws.specs.Readers.{bind-read, passes}
use Rattle.grammar.specs.Rules.{FormedAction, FormedFormals, FormedBlock, FormedDecl, FormedStmt, FormedDecls, FormedStmts}
use Rattle.grammar.specs.Readers.{bind_assoc, fields_read, take-read}
use Rattle.grammar.specs.Words.{low-high, signed-unsigned}

moved : {A : Type 0} (a : A) (ws : List ℕ) {o o' : ℕ} → o ≡ o' → read a o ws ≡ read a o' ws
moved a ws e = ap (λ (p : ℕ). read a p ws) e

-- two runs of fields end where both together do, also after a mark with two fields
both_end : (o : ℕ) (xs ys : List ℕ) → o + 2 * length xs + 2 * length ys ≡ o + 2 * length (xs ++ ys)
both_end o xs ys = omega (arith, length-append xs ys)

marked-end : (o : ℕ) (xs ys : List ℕ) → o + 6 + 2 * length xs + 2 * length ys ≡ o + 2 * suc (suc (suc (length (xs ++ ys))))
marked-end o xs ys = omega (arith, length-append xs ys)

abbrev pub row : {M : Type 0} → ℕ → ℕ → M → Row M
row l c m = record { letters = l; count = c; mark = m }

-- a mark that may stand there, with its fields
pub marked : {M B : Type 0} (rows : List (Row M)) (f : Record M → Reader B) (x : Row M) (at : ℕ) (fs ws : List ℕ) → length fs ≡ x.count
    → fit at x.letters rows ≡ give x
    → (take-record rows >>= f) at (x.letters ∷ (fs ++ ws)) ≡ f (record { at = at; mark = x.mark; fields = fs }) (at + 2 * suc x.count) ws
marked rows f x at fs ws l e =
    bind-read (take-record rows) f at _ (take-read rows x at fs ws l e)

-- formals
pub kind-read : {B : Type 0} (r : ℕ) (k : Kind) (f : Kind → Reader B) (at : ℕ) (ws : List ℕ) → (kind r (kind_field k) >>= f) at ws ≡ f k at ws
unfolding kind kind_field give ◌>>=◌
kind-read r variable f at ws = refl
kind-read r label f at ws = refl
kind-read r procedure f at ws = refl

operation-read : {B : Type 0} (r : ℕ) (o : Operation) (f : Operation → Reader B) (at : ℕ) (ws : List ℕ) → (operation r (operation_field o) >>= f) at ws ≡ f o at ws
unfolding operation operation_field give ◌>>=◌
operation-read r plus f at ws = refl
operation-read r minus f at ws = refl
operation-read r less f at ws = refl

-- a name that is new passes
pub new : (n : ℕ) (seen : List ℕ) → among n seen ≡ false → not (among n seen) ≡ true
new n seen e = rw e

pub write-formals : (fs : List Formal) (seen : List ℕ) (at : ℕ) (ws : List ℕ) → FormedFormals fs at → Fresh seen (formal_names fs)
    → formals (length fs) seen at (formals_fields fs ++ ws) ≡ read fs (at + 2 * length (formals_fields fs)) ws
unfolding formals formals_fields FormedFormals formal_names give fit formal_marks
write-formals [] seen at ws h n = moved [] ws (omega arith)
write-formals (f ∷ fs) seen at ws h n =
    let k = write-formals fs (f.name ∷ seen) (at + 6) ws h.rest n.1 in
    marked formal_marks _ (row FM-mark 2 true) at (f.name ∷ kind_field f.kind ∷ []) (formals_fields fs ++ ws) refl refl
    ∙ kind-read at f.kind _ (at + 6) (formals_fields fs ++ ws)
    ∙ passes _ _ at _ (at + 6) (formals_fields fs ++ ws) (new f.name seen n.0)
    ∙ bind-read (formals (length fs) (f.name ∷ seen)) _ (at + 6) _ k
    ∙ moved _ ws (omega arith)
    ∙ ap (λ (p : ℕ). read (record { at = p; name = f.name; kind = f.kind } ∷ fs) (at + 2 * length (formals_fields (f ∷ fs))) ws) (sym h.stands)

-- a block's fields after its BK
abbrev pub within : Block → List ℕ
within (block at ds ss) = decls_fields ds ++ stmts_fields ss

pub within-is : (b : Block) → block_fields b ≡ BK-mark ∷ length (block_decls b) ∷ length (block_stmts b) ∷ within b
unfolding block_fields block_decls block_stmts
within-is (block at ds ss) = refl

-- what is asked of a block: the reader of its level reads it
abbrev pub Reads : ℕ → Block → List Formal → ℕ → Type 0
Reads k b fs at =
    (ws : List ℕ) → block_with k at (length (block_decls b)) (length (block_stmts b)) (formal_names fs) (at + 6) (within b ++ ws)
    ≡ read b (at + 2 * length (block_fields b)) ws

-- the same with its BK, and what follows
abbrev body-then : {B : Type 0} → ℕ → List Formal → (Block → Reader B) → Reader B
body-then k fs f = take-record block_marks >>= λ r. block_with k r.at (get_or r.fields 0 0) (get_or r.fields 1 0) (formal_names fs) >>= f

taken-block : {B : Type 0} (k : ℕ) (b : Block) (fs : List Formal) (at : ℕ) → Reads k b fs at → (f : Block → Reader B) (ws : List ℕ)
    → body-then k fs f at (block_fields b ++ ws) ≡ f b (at + 2 * length (block_fields b)) ws
unfolding fit block_marks give
taken-block k b fs at h f ws =
    ap (λ (l : List ℕ). body-then k fs f at (l ++ ws)) (within-is b)
    ∙ marked block_marks _ (row BK-mark 2 true) at (length (block_decls b) ∷ length (block_stmts b) ∷ []) (within b ++ ws) refl refl
    ∙ bind-read (block_with k at (length (block_decls b)) (length (block_stmts b)) (formal_names fs)) f (at + 6) _ (h ws)

-- declarations
abbrev pub one-decl : ℕ → ℕ → List ℕ → Reader Decl
one-decl k s seen = take-record decl_marks >>= λ r. declared (block_with k) s seen r.mark r.at r.fields

module _ (k s : ℕ) (seen : List ℕ) (at n : ℕ) (ws : List ℕ) (new-name : among n seen ≡ false) where
  write-VR : one-decl k s seen at (decl_fields (VR at n) ++ ws) ≡ read (VR at n) (at + 4) ws
  unfolding decl_fields fit decl_marks give declared
  write-VR =
      marked decl_marks _ (row VR-mark 1 is_vR) at (n ∷ []) ws refl refl ∙ passes _ _ at _ (at + 4) ws (new n seen new-name)

  write-LB : (i : ℕ) → 1 ≤ i → i ≤ s → one-decl k s seen at (decl_fields (LB at n i) ++ ws) ≡ read (LB at n i) (at + 6) ws
  unfolding decl_fields fit decl_marks give declared
  write-LB i p q =
      marked decl_marks _ (row LB-mark 2 is_lB) at (n ∷ i ∷ []) ws refl refl
      ∙ passes _ _ at _ (at + 6) ws ((and-eq-true_iff (leb 1 i) (leb i s)).1 (le-leb 1 i p, le-leb i s q))
      ∙ passes _ _ at _ (at + 6) ws (new n seen new-name)

  write-PR : (fs : List Formal) (b : Block) → length fs ≤ 32 → FormedFormals fs (at + 6) → Distinct (formal_names fs)
      → Reads k b fs (at + 6 + 2 * length (formals_fields fs))
      → one-decl k s seen at (decl_fields (PR at n fs b) ++ ws) ≡ read (PR at n fs b) (at + 2 * length (decl_fields (PR at n fs b))) ws
  unfolding decl_fields fit decl_marks give declared
  write-PR fs b few h once below =
      ap (λ (l : List ℕ). one-decl k s seen at (PR-mark ∷ n ∷ length fs ∷ l)) (append_assoc (formals_fields fs) (block_fields b) ws)
      ∙ marked decl_marks _ (row PR-mark 2 is_pR) at (n ∷ length fs ∷ []) (formals_fields fs ++ (block_fields b ++ ws)) refl refl
      ∙ passes _ _ at _ (at + 6) _ (le-leb (length fs) 32 few)
      ∙ passes _ _ at _ (at + 6) _ (new n seen new-name)
      ∙ bind-read (formals (length fs) []) _ (at + 6) _
      (write-formals fs [] (at + 6) (block_fields b ++ ws) h (distinct-fresh [] (formal_names fs) once))
      ∙ taken-block k b fs (at + 6 + 2 * length (formals_fields fs)) below _ ws
      ∙ moved _ ws (marked-end at (formals_fields fs) (block_fields b))

-- statements
abbrev pub one-stmt : ℕ → Reader Stmt
one-stmt k = take-record stmt_marks >>= λ r. stated (block_with k) r.mark r.at r.fields

write-BK : (k : ℕ) (b : Block) (at : ℕ) (ws : List ℕ) → Reads k b [] at → one-stmt k at (block_fields b ++ ws) ≡ read (BK b) (at + 2 * length (block_fields b)) ws
unfolding fit stmt_marks give stated formal_names
write-BK k b at ws h =
    ap (λ (l : List ℕ). one-stmt k at (l ++ ws)) (within-is b)
    ∙ marked stmt_marks _ (row BK-mark 2 is_bK) at (length (block_decls b) ∷ length (block_stmts b) ∷ []) (within b ++ ws) refl refl
    ∙ bind-read (block_with k at (length (block_decls b)) (length (block_stmts b)) []) _ (at + 6) _ (h ws)

write-CL : (k p : ℕ) (xs : List ℕ) (at : ℕ) (ws : List ℕ) → length xs ≤ 32
    → one-stmt k at (action_fields (CL p xs) ++ ws) ≡ read (DO at (CL p xs)) (at + 2 * length (action_fields (CL p xs))) ws
unfolding fit stmt_marks give stated action action_fields
write-CL k p xs at ws few =
    marked stmt_marks _ (row CL-mark 2 is_cL) at (p ∷ length xs ∷ []) (xs ++ ws) refl refl
    ∙ passes _ _ at _ (at + 6) _ (le-leb (length xs) 32 few)
    ∙ bind-read (fields at (length xs)) _ (at + 6) _ (fields_read at (at + 6) xs ws (length xs) refl)
    ∙ moved _ ws (omega arith)

write-action : (k : ℕ) (a : Action) (at : ℕ) (ws : List ℕ) → FormedAction a
    → one-stmt k at (action_fields a ++ ws) ≡ read (DO at a) (at + 2 * length (action_fields a)) ws
unfolding fit stmt_marks give stated action action_fields FormedAction
write-action k (CL p xs) at ws h = write-CL k p xs at ws h.few
write-action k (GO l) at ws h = marked stmt_marks _ (row GO-mark 1 is_gO) at (l ∷ []) ws refl refl
write-action k (IF v l) at ws h = marked stmt_marks _ (row IF-mark 2 is_iF) at (v ∷ l ∷ []) ws refl refl
write-action k (KN t z) at ws h =
    marked stmt_marks _ (row KN-mark 3 is_kN) at (t ∷ unsigned z % 65536 ∷ unsigned z / 65536 ∷ []) ws refl refl
    ∙ ap (λ (v : ℤ). read (DO at (KN t v)) (at + 8) ws) (ap signed (low-high (unsigned z)) ∙ signed-unsigned z h.value)
write-action k (AR t o l r) at ws h =
    marked stmt_marks _ (row AR-mark 4 is_aR) at (t ∷ operation_field o ∷ l ∷ r ∷ []) ws refl refl ∙ operation-read at o _ (at + 10) ws
write-action k (AD g m) at ws h = marked stmt_marks _ (row AD-mark 2 is_aD) at (g ∷ m ∷ []) ws refl refl
write-action k (RM g m) at ws h = marked stmt_marks _ (row RM-mark 2 is_rM) at (g ∷ m ∷ []) ws refl refl
write-action k (QY t g m) at ws h = marked stmt_marks _ (row QY-mark 3 is_qY) at (t ∷ g ∷ m ∷ []) ws refl refl

-- one after the other
add-decl : (k s d : ℕ) (seen : List ℕ) (at : ℕ) (x : Decl) (xs : Decls) (ws : List ℕ)
    → one-decl k s seen at (decl_fields x ++ (decls_fields xs ++ ws)) ≡ read x (at + 2 * length (decl_fields x)) (decls_fields xs ++ ws)
    → declarations (block_with k) s d (decl_name x ∷ seen) (at + 2 * length (decl_fields x)) (decls_fields xs ++ ws)
    ≡ read xs (at + 2 * length (decl_fields x) + 2 * length (decls_fields xs)) ws
    → declarations (block_with k) s (suc d) seen at ((decl_fields x ++ decls_fields xs) ++ ws)
    ≡ read (decl x xs) (at + 2 * length (decl_fields x ++ decls_fields xs)) ws
unfolding declarations give
add-decl k s d seen at x xs ws a b =
    ap (λ (l : List ℕ). declarations (block_with k) s (suc d) seen at l) (append_assoc (decl_fields x) (decls_fields xs) ws)
    ∙ bind_assoc (take-record decl_marks) (λ r. declared (block_with k) s seen r.mark r.at r.fields) _ at _
    ∙ bind-read (one-decl k s seen) _ at _ a
    ∙ bind-read (declarations (block_with k) s d (decl_name x ∷ seen)) _ _ _ b
    ∙ moved _ ws (both_end at (decl_fields x) (decls_fields xs))

add-stmt : (k s : ℕ) (at : ℕ) (x : Stmt) (xs : Stmts) (ws : List ℕ)
    → one-stmt k at (stmt_fields x ++ (stmts_fields xs ++ ws)) ≡ read x (at + 2 * length (stmt_fields x)) (stmts_fields xs ++ ws)
    → statements (block_with k) s (at + 2 * length (stmt_fields x)) (stmts_fields xs ++ ws)
    ≡ read xs (at + 2 * length (stmt_fields x) + 2 * length (stmts_fields xs)) ws
    → statements (block_with k) (suc s) at ((stmt_fields x ++ stmts_fields xs) ++ ws) ≡ read (stmt x xs) (at + 2 * length (stmt_fields x ++ stmts_fields xs)) ws
unfolding statements give
add-stmt k s at x xs ws a b =
    ap (λ (l : List ℕ). statements (block_with k) (suc s) at l) (append_assoc (stmt_fields x) (stmts_fields xs) ws)
    ∙ bind_assoc (take-record stmt_marks) (λ r. stated (block_with k) r.mark r.at r.fields) _ at _
    ∙ bind-read (one-stmt k) _ at _ a
    ∙ bind-read (statements (block_with k) s) _ _ _ b
    ∙ moved _ ws (both_end at (stmt_fields x) (stmts_fields xs))

-- a block of its declarations and statements
whole-block : (k : ℕ) (at : ℕ) (ds : Decls) (ss : Stmts) (ns : List ℕ) (ws : List ℕ) → length ns + length (decls ds) ≤ 32
    → declarations (block_with k) (length (stmts ss)) (length (decls ds)) ns (at + 6) (decls_fields ds ++ (stmts_fields ss ++ ws))
    ≡ read ds (at + 6 + 2 * length (decls_fields ds)) (stmts_fields ss ++ ws)
    → statements (block_with k) (length (stmts ss)) (at + 6 + 2 * length (decls_fields ds)) (stmts_fields ss ++ ws)
    ≡ read ss (at + 6 + 2 * length (decls_fields ds) + 2 * length (stmts_fields ss)) ws
    → block_with (suc k) at (length (decls ds)) (length (stmts ss)) ns (at + 6) ((decls_fields ds ++ stmts_fields ss) ++ ws)
    ≡ read (block at ds ss) (at + 2 * length (block_fields (block at ds ss))) ws
unfolding block_with give block_fields
whole-block k at ds ss ns ws few a b =
    ap (λ (l : List ℕ). block_with (suc k) at (length (decls ds)) (length (stmts ss)) ns (at + 6) l) (append_assoc (decls_fields ds) (stmts_fields ss) ws)
    ∙ passes _ _ at _ (at + 6) _ (le-leb (length ns + length (decls ds)) 32 few)
    ∙ bind-read (declarations (block_with k) (length (stmts ss)) (length (decls ds)) ns) _ (at + 6) _ a
    ∙ bind-read (statements (block_with k) (length (stmts ss))) _ _ _ b
    ∙ moved _ ws (marked-end at (decls_fields ds) (stmts_fields ss))

few-names : (fs : List Formal) (d : ℕ) → length fs + d ≤ 32 → length (formal_names fs) + d ≤ 32
unfolding formal_names
few-names fs d h = omega (arith, length-map fs (λ (f : Formal). f.name))

formals-once : (b : Block) (level : ℕ) (fs : List Formal) (at : ℕ) → FormedBlock b level fs at → Distinct (formal_names fs)
unfolding FormedBlock
formals-once (block at ds ss) level fs o h = distinct-first (formal_names fs) (map decl_name (decls ds)) h.once

mutual
  unfolding FormedBlock block_fields block_decls block_stmts decls stmts declarations statements decl_name give

  pub write-block : (t : Block) (k level : ℕ) (fs : List Formal) (at : ℕ) → level + k ≡ 17 → FormedBlock t level fs at → Reads k t fs at
  write-block (block at ds ss) zero level fs o e h ws = absurd (omega (arith, h.nesting))
  write-block (block at ds ss) (suc k) level fs o e h ws =
      whole-block k o ds ss (formal_names fs) ws (few-names fs (length (decls ds)) h.few)
      (write-decls ds k level (length (stmts ss)) (formal_names fs) (o + 6) (stmts_fields ss ++ ws) (omega arith) h.declarations
      (distinct-fresh (formal_names fs) (map decl_name (decls ds)) h.once))
      (write-stmts ss k level (o + 6 + 2 * length (decls_fields ds)) ws (omega arith) h.statements)
      ∙ ap (λ (p : ℕ). read (block p ds ss) (o + 2 * length (block_fields (block at ds ss))) ws) (sym h.stands)

  pub write-decl : (d : Decl) (k level s : ℕ) (seen : List ℕ) (at : ℕ) (ws : List ℕ) → suc level + k ≡ 17 → FormedDecl d level s at
      → among (decl_name d) seen ≡ false → one-decl k s seen at (decl_fields d ++ ws) ≡ read d (at + 2 * length (decl_fields d)) ws
  write-decl (VR at n) k level s seen o ws e h q =
      write-VR k s seen o n ws q ∙ ap (λ (p : ℕ). read (VR p n) (o + 4) ws) (sym h.stands)
  write-decl (LB at n i) k level s seen o ws e h q =
      write-LB k s seen o n ws q i h.first h.last ∙ ap (λ (p : ℕ). read (LB p n i) (o + 6) ws) (sym h.stands)
  write-decl (PR at n fs b) k level s seen o ws e h q =
      write-PR k s seen o n ws q fs b h.few h.formals (formals-once b (suc level) fs (o + 6 + 2 * length (formals_fields fs)) h.body)
      (λ vs. write-block b k (suc level) fs (o + 6 + 2 * length (formals_fields fs)) e h.body vs)
      ∙ ap (λ (p : ℕ). read (PR p n fs b) (o + 2 * length (decl_fields (PR at n fs b))) ws) (sym h.stands)

  pub write-stmt : (s : Stmt) (k level : ℕ) (at : ℕ) (ws : List ℕ) → suc level + k ≡ 17 → FormedStmt s level at
      → one-stmt k at (stmt_fields s ++ ws) ≡ read s (at + 2 * length (stmt_fields s)) ws
  write-stmt (BK b) k level o ws e h = write-BK k b o ws (λ vs. write-block b k (suc level) [] o e h vs)
  write-stmt (DO at a) k level o ws e h =
      write-action k a o ws h.action ∙ ap (λ (p : ℕ). read (DO p a) (o + 2 * length (action_fields a)) ws) (sym h.stands)

  pub write-decls : (ds : Decls) (k level s : ℕ) (seen : List ℕ) (at : ℕ) (ws : List ℕ) → suc level + k ≡ 17 → FormedDecls ds level s at
      → Fresh seen (map decl_name (decls ds)) → declarations (block_with k) s (length (decls ds)) seen at (decls_fields ds ++ ws) ≡ read ds (at + 2 * length (decls_fields ds)) ws
  write-decls no-decl k level s seen at ws e h n = moved no-decl ws (omega arith)
  write-decls (decl d ds) k level s seen at ws e h n =
      add-decl k s (length (decls ds)) seen at d ds ws (write-decl d k level s seen at (decls_fields ds ++ ws) e h.0 n.0)
      (write-decls ds k level s (decl_name d ∷ seen) (at + 2 * length (decl_fields d)) ws e h.1 n.1)

  write-stmts : (ss : Stmts) (k level : ℕ) (at : ℕ) (ws : List ℕ) → suc level + k ≡ 17 → FormedStmts ss level at
      → statements (block_with k) (length (stmts ss)) at (stmts_fields ss ++ ws) ≡ read ss (at + 2 * length (stmts_fields ss)) ws
  write-stmts no-stmt k level at ws e h = moved no-stmt ws (omega arith)
  write-stmts (stmt s ss) k level at ws e h =
      add-stmt k (length (stmts ss)) at s ss ws (write-stmt s k level at (stmts_fields ss ++ ws) e h.0)
      (write-stmts ss k level (at + 2 * length (stmt_fields s)) ws e h.1)

pub write-program : (t : Block) → FormedBlock t 1 [] 0 → program 0 (block_fields t) ≡ read t (2 * length (block_fields t)) []
unfolding program fit block_marks give formal_names
write-program t h =
    ap (λ (l : List ℕ). program 0 l) (within-is t ∙ ap (λ (l : List ℕ). BK-mark ∷ length (block_decls t) ∷ length (block_stmts t) ∷ l) (sym (append-nil (within t))))
    ∙ marked block_marks _ (row BK-mark 2 true) 0 (length (block_decls t) ∷ length (block_stmts t) ∷ []) (within t ++ []) refl refl
    ∙ write-block t 16 1 [] 0 refl h []
    ∙ moved t [] (omega arith)
