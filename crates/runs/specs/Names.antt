-- Every block of an accepted script has at most 32 names, its formals with them, and so has every activation of a run of it.
-- Read `FitsBlock b p` as: the block b, with p formals, has at most 32 names, and so has every block and body within. `run_fits` is
-- the theorem, `start_fits` where a run begins.
use Rattle.std.specs.Prelude.{ℕ, suc, pred, ◌+◌, ◌-◌, ◌≤◌, ◌≡◌, true, List, [], ◌∷◌, ◌++◌, map, length, take}
use Rattle.std.proofs.Common.{arith, sym, ◌∙◌, subst}
use Rattle.std.proofs.Math.Option.{some}
use Rattle.std.proofs.lemmas.List.{length-map}
use Rattle.language.specs.Basics.{last?, but_last}
use Rattle.language.specs.Text.{Formal, Block, block, Decl, VR, LB, PR, Stmt, BK, DO, Decls, no-decl, decl, Stmts, no-stmt, stmt, decls, stmts, block_decls, block_stmts, label_index, decl_formals, decl_body, formal_names, formal_kinds, declared_names}
use Rattle.language.specs.Scope.{agree}
use Rattle.language.specs.Copy.{Replacement, rename_block, rename_decl, rename_stmt, rename_decls, rename_stmts, without}
use Rattle.language.specs.Table.{Table}
use Rattle.language.specs.Machine.{Activation, State, Instance, Limits, with_live, with_table, counted, resume, store, own_names, activation, enter, advance, instance, kind_at, next_stmt, run, start}
use Rattle.laws.specs.Kinds.{agree-length}
use Rattle.laws.specs.Each.{Each, each_append, each_take, each-but_last, each_last, each_at}
use Rattle.laws.specs.Renaming.{decls-length}
use Rattle.laws.specs.Instances.{found_at}
use Rattle.runs.specs.Moves.{Kept, run-keeps}

unfoldable mutual
  pub FitsBlock : Block → ℕ → Type 0
  FitsBlock (block at ds ss) p = (p + length (decls ds) ≤ 32) × FitsDecls ds × FitsStmts ss

  pub FitsDecl : Decl → Type 0
  FitsDecl (VR at n) = Unit {0}
  FitsDecl (LB at n i) = Unit {0}
  FitsDecl (PR at n fs b) = FitsBlock b (length fs)

  pub FitsStmt : Stmt → Type 0
  FitsStmt (BK b) = FitsBlock b 0
  FitsStmt (DO at a) = Unit {0}

  pub FitsDecls : Decls → Type 0
  FitsDecls no-decl = Unit {0}
  FitsDecls (decl d ds) = FitsDecl d × FitsDecls ds

  pub FitsStmts : Stmts → Type 0
  FitsStmts no-stmt = Unit {0}
  FitsStmts (stmt s ss) = FitsStmt s × FitsStmts ss

-- renaming changes no number of names
mutual
  unfolding FitsBlock rename_block

  pub renamed-fits : (b : Block) (σ : Replacement) (p : ℕ) → FitsBlock b p → FitsBlock (rename_block b σ) p
  renamed-fits (block at ds ss) σ p h = (omega (arith, h.0, decls-length ds σ), decls-fit ds σ h.1, stmts-fit ss σ h.2)

  decl-fits : (d : Decl) (σ : Replacement) → FitsDecl d → FitsDecl (rename_decl d σ)
  decl-fits (VR at n) σ h = tt
  decl-fits (LB at n i) σ h = tt
  decl-fits (PR at n fs b) σ h = renamed-fits b (without (formal_names fs ++ declared_names b) σ) (length fs) h

  stmt-fits : (s : Stmt) (σ : Replacement) → FitsStmt s → FitsStmt (rename_stmt s σ)
  stmt-fits (BK b) σ h = renamed-fits b (without (declared_names b) σ) 0 h
  stmt-fits (DO at a) σ h = tt

  decls-fit : (ds : Decls) (σ : Replacement) → FitsDecls ds → FitsDecls (rename_decls ds σ)
  decls-fit no-decl σ h = tt
  decls-fit (decl d ds) σ h = (decl-fits d σ h.0, decls-fit ds σ h.1)

  stmts-fit : (ss : Stmts) (σ : Replacement) → FitsStmts ss → FitsStmts (rename_stmts ss σ)
  stmts-fit no-stmt σ h = tt
  stmts-fit (stmt s ss) σ h = (stmt-fits s σ h.0, stmts-fit ss σ h.1)

-- the declarations and the statements of a block that fits
fits-decls : (ds : Decls) → FitsDecls ds → Each FitsDecl (decls ds)
unfolding FitsBlock decls
fits-decls no-decl h = tt
fits-decls (decl d ds) h = (h.0, fits-decls ds h.1)

fits-stmts : (ss : Stmts) → FitsStmts ss → Each FitsStmt (stmts ss)
unfolding FitsBlock stmts
fits-stmts no-stmt h = tt
fits-stmts (stmt s ss) h = (h.0, fits-stmts ss h.1)

block-decls : (b : Block) (p : ℕ) → FitsBlock b p → Each FitsDecl (block_decls b)
unfolding FitsBlock block_decls
block-decls (block at ds ss) p h = fits-decls ds h.1

block-stmts : (b : Block) (p : ℕ) → FitsBlock b p → Each FitsStmt (block_stmts b)
unfolding FitsBlock block_stmts
block-stmts (block at ds ss) p h = fits-stmts ss h.2

pub block-names : (b : Block) (p : ℕ) → FitsBlock b p → p + length (block_decls b) ≤ 32
unfolding FitsBlock block_decls
block-names (block at ds ss) p h = h.0

-- a declaration's body fits with its formals; what is no procedure has an empty one
body-fits : (d : Decl) → FitsDecl d → FitsBlock (decl_body d) (length (decl_formals d))
unfolding FitsBlock decl_body decl_formals decls
body-fits (VR at n) h = (omega arith, tt, tt)
body-fits (LB at n i) h = (omega arith, tt, tt)
body-fits (PR at n fs b) h = h

-- an activation has as many formals as arguments
abbrev pub FitsActivation : Activation → Type 0
FitsActivation a = FitsBlock a.text (length a.arguments)

abbrev pub FitsState : State → Type 0
FitsState s = Each FitsActivation s.live

pub instance-home : (s : State) (x : ℕ) (i : Instance) → instance s x ≡ some i → FitsState s → FitsActivation i.home
instance-home s x i e h = let f = found_at s x i e in each_at FitsActivation s.live f.depth i.home f.home_at h

pub instance-decl : (s : State) (x : ℕ) (i : Instance) → instance s x ≡ some i → FitsState s → FitsDecl i.decl
instance-decl s x i e h =
    let f = found_at s x i e in
    each_at FitsDecl (block_decls i.home.text) f.index i.decl f.decl-at (block-decls i.home.text (length i.home.arguments) (instance-home s x i e h))

pub enter-fits : (s : State) (formals arguments : List ℕ) (b : Block) (encloser : ℕ) (around : List Replacement) → FitsBlock b (length arguments) → FitsState s → FitsState (enter s formals arguments b encloser around)
unfolding enter activation
enter-fits s formals arguments b encloser around h k =
    each_append FitsActivation s.live (activation formals arguments s.fresh b encloser around ∷ []) k (renamed-fits b (own_names formals arguments s.fresh b) (length arguments) h, tt)

pub advance-fits : (s : State) (a : Activation) → last? s.live ≡ some a → FitsState s → FitsState (advance s a)
unfolding advance with_live resume
advance-fits s a e h = each_append FitsActivation (but_last s.live) (resume a (suc a.next) ∷ []) (each-but_last FitsActivation s.live h) (each_last FitsActivation s.live a e h, tt)

jump_fits : (s : State) (x : ℕ) (i : Instance) → instance s x ≡ some i → FitsState s → FitsState (with_live s (take (pred i.number) s.live ++ (resume i.home (label_index i.decl) ∷ [])))
unfolding with_live resume
jump_fits s x i e h =
    each_append FitsActivation (take (pred i.number) s.live) (resume i.home (label_index i.decl) ∷ []) (each_take FitsActivation (pred i.number) s.live h) (instance-home s x i e h, tt)

stmt-entered : (b : Block) → FitsStmt (BK b) → FitsBlock b 0
unfolding FitsBlock
stmt-entered b h = h

pub entered-fits : (s : State) (a : Activation) (b : Block) → last? s.live ≡ some a → next_stmt a ≡ some (BK b) → FitsState s → FitsBlock b 0
unfolding next_stmt
entered-fits s a b e n h =
    stmt-entered b (each_at FitsStmt (block_stmts a.text) (pred a.next) (BK b) n (block-stmts a.text (length a.arguments) (each_last FitsActivation s.live a e h)))

pub called-fits : (s : State) (p : ℕ) (xs : List ℕ) (i : Instance) → instance s p ≡ some i → agree (formal_kinds (decl_formals i.decl)) (map (kind_at s) xs) ≡ true → FitsState s → FitsBlock (decl_body i.decl) (length xs)
unfolding formal_kinds
called-fits s p xs i e g h =
    let q : length xs ≡ length (decl_formals i.decl) = sym (length-map xs (kind_at s)) ∙ agree-length (formal_kinds (decl_formals i.decl)) (map (kind_at s) xs) g ∙ length-map (decl_formals i.decl) (λ (f : Formal). f.kind) in
    subst (FitsBlock (decl_body i.decl)) (sym q) (body-fits i.decl (instance-decl s p i e h))

pub fits_kept : (l : Limits) → Kept l FitsState
unfolding with_live with_table store
fits_kept l =
    record { left = λ s h. each-but_last FitsActivation s.live h; advanced = advance-fits; stored = λ s x z h. h; entered = λ s a b e n r h. enter-fits (advance s a) [] [] b (length (advance s a).live) a.reads (entered-fits s a b e n h) (advance-fits s a e h); called = λ s p xs i e g r h. enter-fits s (formal_names (decl_formals i.decl)) xs (decl_body i.decl) i.number i.home.reads (called-fits s p xs i e g h) h; jumped = jump_fits; added = λ s g m n a z f h. h; removed = λ s g m h. h }

pub run_fits : (l : Limits) (n : ℕ) (s : State) → FitsState s → FitsState (run l n s).final
unfolding counted
run_fits l n s h = run-keeps l FitsState (fits_kept l) (λ x y q. q) n s h

pub start_fits : (program : Block) (t : Table) → FitsBlock program 0 → FitsState (start program t)
unfolding start
start_fits program t h = enter-fits (record { live = []; values = []; fresh = 65536; table = t; steps = 0 }) [] [] program 0 [] h tt
