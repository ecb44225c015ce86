-- Every block of an accepted script has at most 32 names, formals included: `accepted-fits`.
-- Read `Gives P m` as: whatever the reader m reads, from any place, has the property P.
use Rattle.std.specs.Prelude.{ℕ, zero, suc, ◌+◌, ◌*◌, ◌≡◌, refl, Bool, true, List, [], ◌∷◌, leb, length, get_or}
use Rattle.std.proofs.Common.{arith, ap, subst, leb-true}
use Rattle.std.proofs.lemmas.List.{length-map}
use Rattle.language.specs.Text.{Formal, Action, CL, GO, IF, KN, AR, AD, RM, QY, Block, block, VR, LB, PR, BK, DO, Decls, no-decl, decl, no-stmt, stmt, decls, decl_name, formal_names}
use Rattle.language.specs.Encoding.{fields_of, signed}
use Rattle.language.specs.Structure.{Reading, read, refuse, Reader, ◌>>=◌, ◌>>◌, give, require, fields, DeclMark, is_vR, is_lB, is_pR, StmtMark, is_bK, is_cL, is_gO, is_iF, is_kN, is_aR, is_aD, is_rM, is_qY, block_marks, decl_marks, stmt_marks, take-record, operation, formals, BlockReader, declared, declarations, action, stated, statements, block_with, program}
use Rattle.language.specs.Check.{accepted, check}
use Rattle.language.specs.declared.Refusal.{Refusal}
use Rattle.language.specs.declared.Refusal.TheVariants.{TooManyNames}
use Rattle.grammar.specs.Readers.{Yields, yields-bind, yields-require}
use Rattle.grammar.proofs.Accepting.{accepted-read}
use Rattle.runs.specs.Names.{FitsBlock, FitsDecl, FitsStmt, FitsDecls, FitsStmts}

abbrev pub Gives : {A : Type 0} → (A → Type 0) → Reader A → Type 0
Gives P m = (at : ℕ) (ws : List ℕ) → Yields (λ a o vs. P a) (m at ws)

module _ {A : Type 0} where
  anything : (m : Reader A) → Gives (λ a. Unit {0}) m
  anything m at ws = go (m at ws)
    where
      go : (r : Reading A) → Yields (λ a o vs. Unit {0}) r
      go (read a o vs) = tt
      go (refuse c o) = tt

  gives : (P : A → Type 0) (a : A) → P a → Gives P (give a)
  unfolding give
  gives P a h at ws = h

  module _ {B : Type 0} where
    gives_then : (P : A → Type 0) (Q : B → Type 0) (m : Reader A) (f : A → Reader B) → Gives P m → ((a : A) → P a → Gives Q (f a)) → Gives Q (m >>= f)
    gives_then P Q m f h k at ws = yields-bind m f (λ b o vs. Q b) (λ a o vs. P a) at ws (h at ws) (λ a o vs p. k a p o vs)

    -- a record's reading whose value does not matter
    gives-any : (Q : B → Type 0) (m : Reader A) (f : A → Reader B) → ((a : A) → Gives Q (f a)) → Gives Q (m >>= f)
    gives-any Q m f k = gives_then (λ a. Unit {0}) Q m f (anything m) (λ a p. k a)

    gives_after : (Q : B → Type 0) (m : Reader A) (n : Reader B) → Gives Q n → Gives Q (m >> n)
    unfolding ◌>>◌
    gives_after Q m n h = gives-any Q m (λ a. n) (λ a. h)

-- what is read after a test is read where it holds
gives-required : {B : Type 0} (Q : B → Type 0) (t : Bool) (c : Refusal) (o : ℕ) (n : Reader B) → (t ≡ true → Gives Q n) → Gives Q (require t c o >> n)
gives-required Q t c o n h at ws = yields-require n t c o (λ b r vs. Q b) at ws (λ e. h e at ws)

-- a reader of blocks that gives blocks that fit
abbrev FitsReader : BlockReader → Type 0
FitsReader body = (at d s : ℕ) (fs : List ℕ) → Gives (λ b. FitsBlock b (length fs)) (body at d s fs)

names-length : (ps : List Formal) → length (formal_names ps) ≡ length ps
unfolding formal_names
names-length ps = length-map ps (λ (f : Formal). f.name)

declared-fit : (body : BlockReader) → FitsReader body → (s : ℕ) (seen : List ℕ) (k : DeclMark) (at : ℕ) (fs : List ℕ) → Gives FitsDecl (declared body s seen k at fs)
unfolding declared FitsBlock
declared-fit body h s seen is_vR at fs = gives_after FitsDecl _ _ (gives FitsDecl (VR at (get_or fs 0 0)) tt)
declared-fit body h s seen is_lB at fs = gives_after FitsDecl _ _ (gives_after FitsDecl _ _ (gives FitsDecl (LB at (get_or fs 0 0) (get_or fs 1 0)) tt))
declared-fit body h s seen is_pR at fs =
    gives_after FitsDecl _ _ (gives_after FitsDecl _ _
    (gives-any FitsDecl (formals (get_or fs 1 0) []) _ (λ ps.
    gives-any FitsDecl (take-record block_marks) _ (λ b.
    gives_then (λ t. FitsBlock t (length (formal_names ps))) FitsDecl (body b.at (get_or b.fields 0 0) (get_or b.fields 1 0) (formal_names ps)) _ (h b.at (get_or b.fields 0 0) (get_or b.fields 1 0) (formal_names ps)) (λ t p.
    gives FitsDecl (PR at (get_or fs 0 0) ps t) (subst (FitsBlock t) (names-length ps) p))))))

-- as many declarations as were announced, each of which fits
abbrev FitsAll : ℕ → Decls → Type 0
FitsAll d ds = (length (decls ds) ≡ d) × FitsDecls ds

declarations-fit : (body : BlockReader) → FitsReader body → (s d : ℕ) (seen : List ℕ) → Gives (FitsAll d) (declarations body s d seen)
unfolding declarations FitsBlock decls
declarations-fit body h s zero seen = gives (FitsAll 0) no-decl (refl, tt)
declarations-fit body h s (suc d) seen =
    gives-any (FitsAll (suc d)) (take-record decl_marks) _ (λ r.
    gives_then FitsDecl (FitsAll (suc d)) (declared body s seen r.mark r.at r.fields) _ (declared-fit body h s seen r.mark r.at r.fields) (λ x p.
    gives_then (FitsAll d) (FitsAll (suc d)) (declarations body s d (decl_name x ∷ seen)) _ (declarations-fit body h s d (decl_name x ∷ seen)) (λ xs q.
    gives (FitsAll (suc d)) (decl x xs) (ap suc q.0, (p, q.1)))))

action-fits : (a : Action) (at : ℕ) → Gives FitsStmt (action a at)
unfolding action FitsBlock
action-fits a at = gives FitsStmt (DO at a) tt

stated-fit : (body : BlockReader) → FitsReader body → (k : StmtMark) (at : ℕ) (fs : List ℕ) → Gives FitsStmt (stated body k at fs)
unfolding stated FitsBlock
stated-fit body h is_bK at fs = gives_then (λ b. FitsBlock b 0) FitsStmt (body at (get_or fs 0 0) (get_or fs 1 0) []) _ (h at (get_or fs 0 0) (get_or fs 1 0) []) (λ b p. gives FitsStmt (BK b) p)
stated-fit body h is_cL at fs = gives_after FitsStmt _ _ (gives-any FitsStmt (fields at (get_or fs 1 0)) _ (λ xs. action-fits (CL (get_or fs 0 0) xs) at))
stated-fit body h is_gO at fs = action-fits (GO (get_or fs 0 0)) at
stated-fit body h is_iF at fs = action-fits (IF (get_or fs 0 0) (get_or fs 1 0)) at
stated-fit body h is_kN at fs = action-fits (KN (get_or fs 0 0) (signed (get_or fs 1 0 + 65536 * get_or fs 2 0))) at
stated-fit body h is_aR at fs = gives-any FitsStmt (operation at (get_or fs 1 0)) _ (λ o. action-fits (AR (get_or fs 0 0) o (get_or fs 2 0) (get_or fs 3 0)) at)
stated-fit body h is_aD at fs = action-fits (AD (get_or fs 0 0) (get_or fs 1 0)) at
stated-fit body h is_rM at fs = action-fits (RM (get_or fs 0 0) (get_or fs 1 0)) at
stated-fit body h is_qY at fs = action-fits (QY (get_or fs 0 0) (get_or fs 1 0) (get_or fs 2 0)) at

statements-fit : (body : BlockReader) → FitsReader body → (s : ℕ) → Gives FitsStmts (statements body s)
unfolding statements FitsBlock
statements-fit body h zero = gives FitsStmts no-stmt tt
statements-fit body h (suc s) =
    gives-any FitsStmts (take-record stmt_marks) _ (λ r.
    gives_then FitsStmt FitsStmts (stated body r.mark r.at r.fields) _ (stated-fit body h r.mark r.at r.fields) (λ x p.
    gives_then FitsStmts FitsStmts (statements body s) _ (statements-fit body h s) (λ xs q. gives FitsStmts (stmt x xs) (p, q))))

block_with-fits : (k : ℕ) → FitsReader (block_with k)
unfolding block_with FitsBlock
block_with-fits zero at d s fs = λ o ws. tt
block_with-fits (suc k) at d s fs =
    gives-required (λ b. FitsBlock b (length fs)) (leb (length fs + d) 32) TooManyNames at _ (λ e.
    gives_then (FitsAll d) (λ b. FitsBlock b (length fs)) (declarations (block_with k) s d fs) _ (declarations-fit (block_with k) (block_with-fits k) s d fs) (λ ds p.
    gives_then FitsStmts (λ b. FitsBlock b (length fs)) (statements (block_with k) s) _ (statements-fit (block_with k) (block_with-fits k) s) (λ ss q.
    gives (λ b. FitsBlock b (length fs)) (block at ds ss) (omega (arith, leb-true (length fs + d) 32 e, p.0), p.1, q))))

program-fits : Gives (λ b. FitsBlock b 0) program
unfolding program
program-fits = gives-any (λ b. FitsBlock b 0) (take-record block_marks) _ (λ b. block_with-fits 16 b.at (get_or b.fields 0 0) (get_or b.fields 1 0) [])

pub accepted-fits : (bs : List ℕ) (t : Block) → check bs ≡ accepted t → FitsBlock t 0
accepted-fits bs t e = (accepted-read (λ b o ws. FitsBlock b 0) bs t e (program-fits 0 (fields_of bs))).1
