-- Which operation stands at a statement's place. `OpIs es x o`: what is known of the statement x, whose enclosure is es, where its operation is o;
-- `op-is`: it holds of the operation that the resolved script has there.
use Rattle.std.specs.Prelude.{ℕ, suc, ◌+◌, ◌%◌, Bool, ◌&&◌, List, [], ◌≡◌, ℤ, length}
use native.Mathlib.Omega.{arith}
use Rattle.std.proofs.Math.Bool.{true, false}
use Rattle.std.proofs.Math.Path.{refl, ap}
use Rattle.std.proofs.Common.{sym, subst}
use Rattle.std.proofs.Math.ListN.{get_or}
use Rattle.language.specs.Text.{Operation, plus, minus, less, Action, CL, GO, IF, KN, AR, AD, RM, QY, Block, block, Stmt, BK, DO}
use Rattle.language.specs.Encoding.{operation_field}
use Rattle.coordinates.specs.Enclosure.{Enclosing, enclosed, Enclosure}
use Rattle.resolved.specs.Resolved.{name_word, direct, chosen, head_word, header, resolved_action, resolved_stmt, Covers}
use Rattle.run_moves.specs.Acting.{Op, constant-op, add-op, subtract-op, compare-op, branch-op, goto-op, block-op, call-op, pair-op, unpair-op, query-op, constant-formal-op, arithmetic-formal-op, branch-formal-op, goto-formal-op, call-formal-op, operations, op_of}

module _ (es : Enclosure) where
  -- no name of the three is a formal
  abbrev pub AllDirect : ℕ → ℕ → ℕ → Bool
  AllDirect t a b = direct (name_word es t) && direct (name_word es a) && direct (name_word es b)

  abbrev pub Computes : Operation → Stmt → Type 0
  Computes o x = (at t a b : ℕ) × (x ≡ DO at (AR t o a b)) × (AllDirect t a b ≡ true)

  abbrev pub OpIs : Stmt → Op → Type 0
  OpIs x constant-op = (at t : ℕ) × (z : ℤ) × (x ≡ DO at (KN t z)) × (direct (name_word es t) ≡ true)
  OpIs x add-op = Computes plus x
  OpIs x subtract-op = Computes minus x
  OpIs x compare-op = Computes less x
  OpIs x branch-op = (at v n : ℕ) × (x ≡ DO at (IF v n)) × (direct (name_word es v) && direct (name_word es n) ≡ true)
  OpIs x goto-op = (at n : ℕ) × (x ≡ DO at (GO n)) × (direct (name_word es n) ≡ true)
  OpIs x block-op = (b : Block) × (x ≡ BK b)
  OpIs x call-op = (at p : ℕ) × (xs : List ℕ) × (x ≡ DO at (CL p xs)) × (direct (name_word es p) ≡ true)
  OpIs x pair-op = (at g m : ℕ) × (x ≡ DO at (AD g m))
  OpIs x unpair-op = (at g m : ℕ) × (x ≡ DO at (RM g m))
  OpIs x query-op = (at t g m : ℕ) × (x ≡ DO at (QY t g m))
  OpIs x constant-formal-op = (at t : ℕ) × (z : ℤ) × (x ≡ DO at (KN t z)) × (direct (name_word es t) ≡ false)
  OpIs x arithmetic-formal-op = (at t a b : ℕ) × (o : Operation) × (x ≡ DO at (AR t o a b)) × (AllDirect t a b ≡ false)
  OpIs x branch-formal-op = (at v n : ℕ) × (x ≡ DO at (IF v n)) × (direct (name_word es v) && direct (name_word es n) ≡ false)
  OpIs x goto-formal-op = (at n : ℕ) × (x ≡ DO at (GO n)) × (direct (name_word es n) ≡ false)
  OpIs x call-formal-op = (at p : ℕ) × (xs : List ℕ) × (x ≡ DO at (CL p xs)) × (direct (name_word es p) ≡ false)

  by_field : (x : Stmt) (v u : ℕ) → v ≡ u → OpIs x (op_of u) → OpIs x (op_of v)
  by_field x v u e h = subst (λ n. OpIs x (op_of n)) (sym e) h

  -- one operation or another, by a test
  by-test : (x : Stmt) (t : Bool) (a b : ℕ) → (t ≡ true → OpIs x (op_of a)) → (t ≡ false → OpIs x (op_of b)) → OpIs x (op_of (chosen t a b))
  unfolding chosen
  by-test x true a b h k = h refl
  by-test x false a b h k = k refl

  of-arithmetic : (at t : ℕ) (o : Operation) (a b : ℕ) → AllDirect t a b ≡ true → OpIs (DO at (AR t o a b)) (op_of (1 + operation_field o))
  unfolding op_of operations operation_field
  of-arithmetic at t plus a b q = (at, t, a, b, refl, q)
  of-arithmetic at t minus a b q = (at, t, a, b, refl, q)
  of-arithmetic at t less a b q = (at, t, a, b, refl, q)

  of-action : (at : ℕ) (c : Action) (v : ℕ) → v ≡ get_or (resolved_action es c) 0 0 → OpIs (DO at c) (op_of v)
  unfolding op_of operations resolved_action
  of-action at (KN t z) v e =
      by_field _ v _ e (by-test (DO at (KN t z)) (direct (name_word es t)) 0 11 (λ q. (at, t, z, refl, q)) (λ q. (at, t, z, refl, q)))
  of-action at (AR t o a b) v e =
      by_field _ v _ e (by-test (DO at (AR t o a b)) (AllDirect t a b) (1 + operation_field o) 12 (of-arithmetic at t o a b) (λ q. (at, t, a, b, o, refl, q)))
  of-action at (IF c n) v e =
      by_field _ v _ e (by-test (DO at (IF c n)) (direct (name_word es c) && direct (name_word es n)) 4 13 (λ q. (at, c, n, refl, q)) (λ q. (at, c, n, refl, q)))
  of-action at (GO n) v e = by_field _ v _ e (by-test (DO at (GO n)) (direct (name_word es n)) 5 14 (λ q. (at, n, refl, q)) (λ q. (at, n, refl, q)))
  of-action at (CL p xs) v e =
      by_field _ v _ e (by-test (DO at (CL p xs)) (direct (name_word es p)) 7 15 (λ q. (at, p, xs, refl, q)) (λ q. (at, p, xs, refl, q)))
  of-action at (AD g m) v e = by_field _ v _ e (at, g, m, refl)
  of-action at (RM g m) v e = by_field _ v _ e (at, g, m, refl)
  of-action at (QY t g m) v e = by_field _ v _ e (at, t, g, m, refl)

  of-head : (e : Enclosing) (level v : ℕ) → v ≡ head_word e level → op_of v ≡ block-op
  unfolding op_of operations head_word
  of-head e level v q =
      let s : v % 16 ≡ 6 = omega arith in
      ap (λ i. get_or operations i constant-op) s

  head_of : (code : List ℕ) (p name : ℕ) (b : Block) → Covers code p (resolved_stmt name (BK b) es) → get_or code p 0 ≡ head_word (enclosed [] b) (suc (length es))
  unfolding resolved_stmt header
  head_of code p name (block at ds ss) h = h.0

  action-of : (code : List ℕ) (p name at : ℕ) (c : Action) → Covers code p (resolved_stmt name (DO at c) es) → get_or code p 0 ≡ get_or (resolved_action es c) 0 0
  unfolding resolved_stmt resolved_action
  action-of code p name at (KN t z) h = h.0
  action-of code p name at (AR t o a b) h = h.0
  action-of code p name at (IF c n) h = h.0
  action-of code p name at (GO n) h = h.0
  action-of code p name at (CL q xs) h = h.0
  action-of code p name at (AD g m) h = h.0
  action-of code p name at (RM g m) h = h.0
  action-of code p name at (QY t g m) h = h.0

  pub op-is : (code : List ℕ) (p name : ℕ) (x : Stmt) → Covers code p (resolved_stmt name x es) → OpIs x (op_of (get_or code p 0))
  op-is code p name (BK b) h =
      subst (OpIs (BK b)) (sym (of-head (enclosed [] b) (suc (length es)) (get_or code p 0) (head_of code p name b h))) (b, refl)
  op-is code p name (DO at c) h = of-action at c (get_or code p 0) (action-of code p name at c h)
