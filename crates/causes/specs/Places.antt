-- Encoding: where in a script a record is due, and what the fields before it must be. `LeadsUp ws p`: the fields ws, from the script's start on, lead
-- up to a record that is due at the place p, and no rule that is judged in file order (2 to 4 and 6 to 8) is broken in them. Of the blocks that are still open
-- there, each holds whole declarations and statements, which keep the rules of `grammar`'s Rules.antt.
use Rattle.std.specs.Prelude.{ℕ, suc, ◌+◌, ◌*◌, ◌≤◌, ◌<◌, false, List, [], ◌∷◌, ◌++◌, map, ◌≡◌, length}
use Rattle.std.proofs.Math.Option.{Option, none, some}
use Rattle.language.specs.Basics.{among}
use Rattle.language.specs.Text.{Formal, Decl, Decls, Stmts, decls, stmts, decl_name, formal_names}
use Rattle.language.specs.Encoding.{BK-mark, VR-mark, LB-mark, PR-mark, FM-mark, CL-mark, GO-mark, IF-mark, KN-mark, AR-mark, AD-mark, RM-mark, QY-mark, formals_fields, decls_fields, stmts_fields}
use Rattle.laws.specs.Distinct.{Distinct}
use Rattle.grammar.specs.Rules.{FormedFormals, FormedDecls, FormedStmts}

pub data Place : Type 0 where
  -- a block of this level with these formals: the program, or a body
  block-due : (level : ℕ) (fs : List Formal) → Place
  -- an FM after these of its PR
  formal-due : (fs : List Formal) → Place
  -- a declaration of a block of this level with s statements and these formals, after these declarations
  decl-due : (level s : ℕ) (fs : List Formal) (ds : List Decl) → Place
  -- a statement of a block of this level
  stmt-due : (level : ℕ) → Place

-- the block that a BK opens at a place: its level and its formals
unfoldable pub opens : Place → Option (ℕ × List Formal)
opens (block-due level fs) = some (level, fs)
opens (formal-due fs) = none
opens (decl-due level s fs ds) = none
opens (stmt-due level) = some (suc level, [])

-- the marks that may stand at a place, each with its number of fields; CL's argument names come after its two
unfoldable pub marks_at : Place → List (ℕ × ℕ)
marks_at (block-due level fs) = (BK-mark, 2) ∷ []
marks_at (formal-due fs) = (FM-mark, 2) ∷ []
marks_at (decl-due level s fs ds) = (VR-mark, 1) ∷ (LB-mark, 2) ∷ (PR-mark, 2) ∷ []
marks_at (stmt-due level) =
    (BK-mark, 2) ∷ (CL-mark, 2) ∷ (GO-mark, 1) ∷ (IF-mark, 2) ∷ (KN-mark, 3) ∷ (AR-mark, 4) ∷ (AD-mark, 2) ∷ (RM-mark, 2) ∷ (QY-mark, 3) ∷ []

-- the names of a block so far: its formals, and then those of its declarations
unfoldable pub names : List Formal → List Decl → List ℕ
names fs ds = formal_names fs ++ map decl_name ds

-- A block with d declarations, of which ds are there: its level and its names are within Bounds, and each declaration keeps the rules.
pub record Opened (level d s : ℕ) (fs : List Formal) (here : ℕ) (ds : Decls) : Type 0 where
  pub nesting : level ≤ 16
  pub few : length fs + d ≤ 32
  pub once : Distinct (names fs (decls ds))
  pub formed : FormedDecls ds level s (here + 6)

-- A PR with the name n and p formals, of which gs are there, after the declarations ds of a block with the formals fs.
pub record Heads (fs : List Formal) (ds : List Decl) (n p : ℕ) (here : ℕ) (gs : List Formal) : Type 0 where
  pub few : p ≤ 32
  pub new : among n (names fs ds) ≡ false
  pub once : Distinct (formal_names gs)
  pub formed : FormedFormals gs (here + 6)

pub data LeadsUp : List ℕ → Place → Type 0 where
  at-start : LeadsUp [] (block-due 1 [])
  at-declaration : {ws : List ℕ} {place : Place} {level : ℕ} {fs : List Formal} (d s : ℕ) (ds : Decls) → LeadsUp ws place → opens place ≡ some (level, fs)
      → Opened level d s fs (2 * length ws) ds → length (decls ds) < d
      → LeadsUp (ws ++ (BK-mark ∷ d ∷ s ∷ decls_fields ds)) (decl-due level s fs (decls ds))
  at-statement : {ws : List ℕ} {place : Place} {level : ℕ} {fs : List Formal} (d s : ℕ) (ds : Decls) (ss : Stmts) → LeadsUp ws place → opens place ≡ some (level, fs)
      → Opened level d s fs (2 * length ws) ds → length (decls ds) ≡ d
      → FormedStmts ss level (2 * length ws + 6 + 2 * length (decls_fields ds)) → length (stmts ss) < s
      → LeadsUp (ws ++ (BK-mark ∷ d ∷ s ∷ (decls_fields ds ++ stmts_fields ss))) (stmt-due level)
  at-formal : {ws : List ℕ} {level s : ℕ} {fs : List Formal} {ds : List Decl} (n p : ℕ) (gs : List Formal) → LeadsUp ws (decl-due level s fs ds)
      → Heads fs ds n p (2 * length ws) gs → length gs < p
      → LeadsUp (ws ++ (PR-mark ∷ n ∷ p ∷ formals_fields gs)) (formal-due gs)
  at_body : {ws : List ℕ} {level s : ℕ} {fs : List Formal} {ds : List Decl} (n p : ℕ) (gs : List Formal) → LeadsUp ws (decl-due level s fs ds)
      → Heads fs ds n p (2 * length ws) gs → length gs ≡ p
      → LeadsUp (ws ++ (PR-mark ∷ n ∷ p ∷ formals_fields gs)) (block-due (suc level) gs)
