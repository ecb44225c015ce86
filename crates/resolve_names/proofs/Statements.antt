-- Where a block's statements stand, from the offsets of its records.
-- Assumes nothing.
use mathlib.Core.Path.{◌≡◌, refl, sym, ◌∙◌, ap}
use mathlib.Core.List.{List, [], map}
use mathlib.Core.Option.{some}
use Prim.Native.Nat.{ℕ, zero, suc, ◌+◌, ◌*◌, ◌-◌, ◌/◌, ◌≤◌}
use native.Mathlib.Omega.{arith}
use lib.ListN.{length, get_or, take, drop, get_elem?, length-append}
use lib.Seq.{get_or-take, get_or-drop}
use Rattle.language.specs.Text.{Action, CL, GO, IF, KN, AR, AD, RM, QY, Block, block, Decl, VR, LB, PR, Stmt, BK, DO, Decls, no-decl, decl, Stmts, no-stmt, stmt, decls, stmts, block_at, block_stmts, stmt_at}
use Rattle.language.specs.Encoding.{action_fields, block_fields, decl_fields, stmt_fields, decls_fields, stmts_fields}
use Rattle.laws.specs.Tests.{none≢some, some_inj}
use Rattle.laws.specs.Lists.{get_elem-in}
use Rattle.grammar.specs.Rules.{FormedStmt, FormedStmts}
use Rattle.resolved.specs.Resolved.{end_place, stmt_place}
use Rattle.resolved.proofs.Places.{stmt-place, place-past}
use Rattle.check_extents.specs.Items.{stated, item_fields}
use Rattle.resolve_names.specs.Declared.{starts_of, Stated}

-- every record has two fields
action-two : (a : Action) → 2 ≤ length (action_fields a)
unfolding action_fields
action-two (CL p xs) = omega arith
action-two (GO l) = omega arith
action-two (IF v l) = omega arith
action-two (KN t z) = omega arith
action-two (AR t o l r) = omega arith
action-two (AD g m) = omega arith
action-two (RM g m) = omega arith
action-two (QY t g m) = omega arith

block-two : (b : Block) → 2 ≤ length (block_fields b)
unfolding block_fields
block-two (block at ds ss) = omega arith

stmt-two : (x : Stmt) → 2 ≤ length (stmt_fields x)
unfolding stmt_fields
stmt-two (BK b) = block-two b
stmt-two (DO at a) = action-two a

decl-two : (x : Decl) → 2 ≤ length (decl_fields x)
unfolding decl_fields
decl-two (VR at n) = omega arith
decl-two (LB at n i) = omega arith
decl-two (PR at n fs b) = omega arith

pub stmts-two : (ss : Stmts) → 2 * length (stmts ss) ≤ length (stmts_fields ss)
unfolding stmts stmts_fields
stmts-two no-stmt = omega arith
stmts-two (stmt x ss) = omega (arith, stmt-two x, stmts-two ss, length-append (stmt_fields x) (stmts_fields ss))

pub decls-two : (ds : Decls) → 2 * length (decls ds) ≤ length (decls_fields ds)
unfolding decls decls_fields
decls-two no-decl = omega arith
decls-two (decl x ds) = omega (arith, decl-two x, decls-two ds, length-append (decl_fields x) (decls_fields ds))

stmt-here : (x : Stmt) (level here : ℕ) → FormedStmt x level here → stmt_at x ≡ here
unfolding FormedStmt stmt_at block_at
stmt-here (BK (block o ds ss)) level here h = h.stands
stmt-here (DO o a) level here h = h.stands

started-at :
    (ss : Stmts) (level here : ℕ) → FormedStmts ss level here → (k : ℕ) (x : Stmt) → get_elem? (stmts ss) k ≡ some x →
    (get_or (starts_of (map stated (stmts ss)) here) k 0 ≡ stmt_at x) × (stmt_at x ≤ here + 2 * length (stmts_fields ss))
unfolding FormedStmts stmts starts_of item_fields stmts_fields
started-at no-stmt level here h k x e = none≢some e
started-at (stmt y ss) level here h zero x e =
    let q = stmt-here y level here h.0 in
    let p : stmt_at y ≡ stmt_at x = ap stmt_at (some_inj e) in
    (sym q ∙ p, omega arith)
started-at (stmt y ss) level here h (suc k) x e =
    let r = started-at ss level (here + 2 * length (stmt_fields y)) h.1 k x e in
    (r.0, omega (arith, r.1, length-append (stmt_fields y) (stmts_fields ss)))

module _ (o : ℕ) (ds : Decls) (ss : Stmts) (level first : ℕ) (formed : FormedStmts ss level first) where
  -- the statements' offsets lead to their places
  pub stated-there : (d : ℕ) (st : List ℕ) → take (length (stmts ss)) (drop d st) ≡ starts_of (map stated (stmts ss)) first → Stated (block o ds ss) d st
  unfolding block_stmts
  stated-there d st t zero some-decl one last = absurd (omega arith)
  stated-there d st t (suc k) some-decl one last =
      let x = get_elem-in (stmts ss) k (omega arith) in
      let r = started-at ss level first formed k x.0 x.1 in
      let p = stmt-place (block o ds ss) k x.0 x.1 in
      let i : d - 1 + suc k ≡ d + k = omega arith in
      ap (λ (j : ℕ). get_or st j 0 / 2) i
      ∙ ap (λ (y : ℕ). y / 2)
      (sym (get_or-drop d st k 0) ∙ sym (get_or-take (length (stmts ss)) (drop d st) k 0 (omega arith)) ∙ ap (λ (l : List ℕ). get_or l k 0) t ∙ r.0)
      ∙ sym p

  pub place-near : first + 2 * length (stmts_fields ss) ≤ 8192 → (i : ℕ) → 1 ≤ i → i ≤ length (stmts ss) → stmt_place (block o ds ss) i ≤ 4096
  unfolding block_stmts
  place-near near zero one last = absurd (omega arith)
  place-near near (suc k) one last =
      let x = get_elem-in (stmts ss) k (omega arith) in
      let r = started-at ss level first formed k x.0 x.1 in
      let p = stmt-place (block o ds ss) k x.0 x.1 in
      omega (arith, r.1)

pub first-place : (o : ℕ) (ds : Decls) (ss : Stmts) (level : ℕ) → FormedStmts ss level (o + 6 + 2 * length (decls_fields ds)) → (o + 6 + 2 * length (decls_fields ds)) / 2 ≡ stmt_place (block o ds ss) 1
unfolding FormedStmts block_stmts block_at block_fields end_place stmts
first-place o ds no-stmt level h =
    let p = place-past (block o ds no-stmt) 0 (omega arith) in
    let l = length-append (decls_fields ds) [] in
    omega arith
first-place o ds (stmt x ss) level h =
    let p = stmt-place (block o ds (stmt x ss)) 0 x refl in
    let q = stmt-here x level (o + 6 + 2 * length (decls_fields ds)) h.0 in
    omega arith
