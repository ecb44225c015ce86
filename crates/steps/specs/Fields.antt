-- What an engine may rely on as it does the next statement, by the statement's operation alone: `fields-stand`. Its fields are in the script,
-- and those that are names' words are words of names that the innermost activation sees (`FieldName`).
use Rattle.std.specs.Prelude.{ℕ, ◌+◌, ◌*◌, ◌/◌, ◌%◌, ◌≤◌, ◌<◌, Bool, ◌&&◌, List, ◌≡◌, ℤ, length, get_or}
use Rattle.std.proofs.Common.{arith, ◌∙◌}
use Rattle.std.proofs.Math.Bool.{true, false}
use Rattle.std.proofs.Math.Option.{some}
use Rattle.std.proofs.Math.Path.{ap}
use Rattle.language.specs.Text.{Operation, Stmt, BK, Action, CL, GO, IF, KN, AR, AD, RM, QY, DO}
use Rattle.language.specs.Encoding.{action_fields, stmt_fields}
use Rattle.language.specs.Machine.{Limits}
use Rattle.laws.specs.Tests.{both}
use Rattle.laws.specs.Lists.{get_elem-in}
use Rattle.laws.specs.Each.{each_at}
use Rattle.frames.specs.Frame.{frame_stmt}
use Rattle.coordinates.specs.Chain.{enclosure_of}
use Rattle.coordinates.proofs.Visible.{action_names}
use Rattle.coordinates.proofs.Next.{Resolved, NextAction, next-action}
use Rattle.resolved.specs.Resolved.{direct, name_word, resolved_action, resolved_stmt}
use Rattle.resolved.proofs.Places.{block-fields}
use Rattle.resolved.specs.Layout.{formals_in}
use Rattle.run_moves.specs.Acting.{Finding, Op, constant-op, add-op, subtract-op, compare-op, branch-op, goto-op, block-op, call-op, pair-op, unpair-op, query-op, constant-formal-op, arithmetic-formal-op, branch-formal-op, goto-formal-op, call-formal-op, op_of}
use Rattle.steps.specs.Standing.{Standing, Finds}
use Rattle.steps.specs.Here.{last-is, next-stmt, covered}
use Rattle.steps.specs.Ops.{AllDirect, OpIs, op-is}
use Rattle.steps.specs.Reads.{fields_within}
use Rattle.steps.specs.Calls.{few, count-is, argument_is, body-bounds}

module _ {code : List ℕ} {l : Limits} {cells : List ℤ} {blocks nexts links : List ℕ} {table : List ℤ} {pairs live at end : ℕ} (w : Standing code l cells blocks nexts links table pairs live at end) where
  pub record FieldName (i : ℕ) : Type 0 where
    pub name : ℕ
    pub resolved : Resolved w.stack.frames name
    pub word : get_or code (at + i) 0 ≡ name_word (enclosure_of w.stack.frames (length w.stack.frames)) name

  abbrev pub Direct : ℕ → Type 0
  Direct i = FieldName i × (direct (get_or code (at + i) 0) ≡ true)

  abbrev pub ThroughFormal : ℕ → Type 0
  ThroughFormal i = FieldName i × (direct (get_or code (at + i) 0) ≡ false)

  abbrev pub Within : ℕ → Type 0
  Within n = at + n ≤ 4096

  pub record Arguments : Type 0 where
    pub many : get_or code (at + 2) 0 ≤ 32
    pub there : at + 3 + get_or code (at + 2) 0 ≤ 4096
    pub each : (i : ℕ) → i < get_or code (at + 2) 0 → FieldName (3 + i)

  -- a body that a formal leads to stands in the script, after its formals
  abbrev pub BodyStands : Type 0
  BodyStands = (F : Finding) → Finds w.stack.frames F → (F.target (get_or code (at + 1) 0) < 4096) × (3 * (formals_in (get_or code (F.target (get_or code (at + 1) 0)) 0)) ≤ F.target (get_or code (at + 1) 0))

  abbrev pub Fields : Op → Type 0
  Fields constant-op = Within 4 × Direct 1
  Fields add-op = Within 5 × Direct 1 × Direct 3 × Direct 4
  Fields subtract-op = Within 5 × Direct 1 × Direct 3 × Direct 4
  Fields compare-op = Within 5 × Direct 1 × Direct 3 × Direct 4
  Fields branch-op = Within 3 × Direct 1 × Direct 2
  Fields goto-op = Within 2 × Direct 1
  Fields block-op = Within 3
  Fields call-op = Arguments × Direct 1
  Fields pair-op = Within 3 × FieldName 1 × FieldName 2
  Fields unpair-op = Within 3 × FieldName 1 × FieldName 2
  Fields query-op = Within 4 × FieldName 1 × FieldName 2 × FieldName 3
  Fields constant-formal-op = Within 4 × ThroughFormal 1
  Fields arithmetic-formal-op = Within 5 × FieldName 1 × FieldName 3 × FieldName 4
  Fields branch-formal-op = Within 3 × FieldName 1 × FieldName 2
  Fields goto-formal-op = Within 2 × ThroughFormal 1
  Fields call-formal-op = Arguments × ThroughFormal 1 × BodyStands

  -- a statement has two words at least
  pub two-words : (o : Op) → Fields o → at + 1 < 4096
  two-words constant-op f = omega (arith, f.0)
  two-words add-op f = omega (arith, f.0)
  two-words subtract-op f = omega (arith, f.0)
  two-words compare-op f = omega (arith, f.0)
  two-words branch-op f = omega (arith, f.0)
  two-words goto-op f = omega (arith, f.0)
  two-words block-op f = omega (arith, f)
  two-words call-op f = omega (arith, f.0.there)
  two-words pair-op f = omega (arith, f.0)
  two-words unpair-op f = omega (arith, f.0)
  two-words query-op f = omega (arith, f.0)
  two-words constant-formal-op f = omega (arith, f.0)
  two-words arithmetic-formal-op f = omega (arith, f.0)
  two-words branch-formal-op f = omega (arith, f.0)
  two-words goto-formal-op f = omega (arith, f.0)
  two-words call-formal-op f = omega (arith, f.0.there)

  abbrev names-of : (o : ℕ) (a : Action) → frame_stmt w.frame ≡ some (DO o a) → NextAction w.program w.stack.frames w.frame o a
  names-of o a q = next-action l w.program w.keeps w.stack w.sound w.frame (last-is w) o a q

  -- at a place some fields on
  moved : (i j : ℕ) (v : ℕ) → at + i ≡ j → get_or code j 0 ≡ v → get_or code (at + i) 0 ≡ v
  moved i j v e h = ap (λ k. get_or code k 0) e ∙ h

  with-test : {i : ℕ} (f : FieldName i) (t : Bool) → direct (name_word (enclosure_of w.stack.frames (length w.stack.frames)) f.name) ≡ t → direct (get_or code (at + i) 0) ≡ t
  with-test f t d = ap direct f.word ∙ d

  -- The names of each statement

  constant-name : (o t : ℕ) (z : ℤ) → frame_stmt w.frame ≡ some (DO o (KN t z)) → FieldName 1
  unfolding resolved_stmt resolved_action action_names
  constant-name o t z q = record { name = t; resolved = (names-of o (KN t z) q).names.0; word = (covered w (DO o (KN t z)) q).1.0 }

  arithmetic-names : (o t : ℕ) (p : Operation) (a b : ℕ) → frame_stmt w.frame ≡ some (DO o (AR t p a b)) → FieldName 1 × FieldName 3 × FieldName 4
  unfolding resolved_stmt resolved_action action_names
  arithmetic-names o t p a b q =
      let c = covered w (DO o (AR t p a b)) q in
      let n = (names-of o (AR t p a b) q).names in
      (record { name = t; resolved = n.0; word = c.1.0 }, record { name = a; resolved = n.1.0; word = moved 3 _ _ (omega arith) c.1.1.1.0 }, record { name = b; resolved = n.1.1.0; word = moved 4 _ _ (omega arith) c.1.1.1.1.0 })

  branch-names : (o v n : ℕ) → frame_stmt w.frame ≡ some (DO o (IF v n)) → FieldName 1 × FieldName 2
  unfolding resolved_stmt resolved_action action_names
  branch-names o v n q =
      let c = covered w (DO o (IF v n)) q in
      let r = (names-of o (IF v n) q).names in
      (record { name = n; resolved = r.1.0; word = c.1.0 }, record { name = v; resolved = r.0; word = moved 2 _ _ (omega arith) c.1.1.0 })

  goto-name : (o n : ℕ) → frame_stmt w.frame ≡ some (DO o (GO n)) → FieldName 1
  unfolding resolved_stmt resolved_action action_names
  goto-name o n q = record { name = n; resolved = (names-of o (GO n) q).names.0; word = (covered w (DO o (GO n)) q).1.0 }

  call-name : (o p : ℕ) (xs : List ℕ) → frame_stmt w.frame ≡ some (DO o (CL p xs)) → FieldName 1
  unfolding resolved_stmt resolved_action action_names
  call-name o p xs q = record { name = p; resolved = (names-of o (CL p xs) q).names.0; word = (covered w (DO o (CL p xs)) q).1.0 }

  add-names : (o g m : ℕ) → frame_stmt w.frame ≡ some (DO o (AD g m)) → FieldName 1 × FieldName 2
  unfolding resolved_stmt resolved_action action_names
  add-names o g m q =
      let c = covered w (DO o (AD g m)) q in
      let r = (names-of o (AD g m) q).names in
      (record { name = g; resolved = r.0; word = c.1.0 }, record { name = m; resolved = r.1.0; word = moved 2 _ _ (omega arith) c.1.1.0 })

  remove-names : (o g m : ℕ) → frame_stmt w.frame ≡ some (DO o (RM g m)) → FieldName 1 × FieldName 2
  unfolding resolved_stmt resolved_action action_names
  remove-names o g m q =
      let c = covered w (DO o (RM g m)) q in
      let r = (names-of o (RM g m) q).names in
      (record { name = g; resolved = r.0; word = c.1.0 }, record { name = m; resolved = r.1.0; word = moved 2 _ _ (omega arith) c.1.1.0 })

  query-names : (o t g m : ℕ) → frame_stmt w.frame ≡ some (DO o (QY t g m)) → FieldName 1 × FieldName 2 × FieldName 3
  unfolding resolved_stmt resolved_action action_names
  query-names o t g m q =
      let c = covered w (DO o (QY t g m)) q in
      let r = (names-of o (QY t g m) q).names in
      (record { name = t; resolved = r.0; word = c.1.0 }, record { name = g; resolved = r.1.0; word = moved 2 _ _ (omega arith) c.1.1.0 }, record { name = m; resolved = r.1.1.0; word = moved 3 _ _ (omega arith) c.1.1.1.0 })

  arguments-stand : (o p : ℕ) (xs : List ℕ) → frame_stmt w.frame ≡ some (DO o (CL p xs)) → Arguments
  unfolding action_names stmt_fields action_fields
  arguments-stand o p xs q =
      let n = count-is w o p xs q in
      record {
        many = omega (arith, few w o p xs q);
        there = omega (arith, fields_within w (DO o (CL p xs)) q);
        each = λ i h.
            let a = get_elem-in xs i (omega arith) in
            record { name = a.0; resolved = each_at (Resolved w.stack.frames) xs i a.0 a.1 (names-of o (CL p xs) q).names.1; word = moved (3 + i) _ _ (omega arith) (argument_is w o p xs q i a.0 a.1) };
      }

  -- By the operation

  three-direct : (o t : ℕ) (p : Operation) (a b : ℕ) (q : frame_stmt w.frame ≡ some (DO o (AR t p a b)))
      → AllDirect (enclosure_of w.stack.frames (length w.stack.frames)) t a b ≡ true → Within 5 × Direct 1 × Direct 3 × Direct 4
  unfolding stmt_fields action_fields arithmetic-names
  three-direct o t p a b q d =
      let es = enclosure_of w.stack.frames (length w.stack.frames) in
      let n = arithmetic-names o t p a b q in
      let u = both (direct (name_word es t) && direct (name_word es a)) (direct (name_word es b)) d in
      let v = both (direct (name_word es t)) (direct (name_word es a)) u.0 in
      (fields_within w (DO o (AR t p a b)) q, (n.0, with-test n.0 true v.0), (n.1, with-test n.1 true v.1), (n.2, with-test n.2 true u.1))

  by-op : (x : Stmt) → frame_stmt w.frame ≡ some x → (p : Op) → OpIs (enclosure_of w.stack.frames (length w.stack.frames)) x p → Fields p
  unfolding stmt_fields action_fields constant-name branch-names goto-name call-name
  by-op x q constant-op k =
      let e = q ∙ ap some k.3 in
      let n = constant-name k.0 k.1 k.2 e in
      (fields_within w _ e, (n, with-test n true k.4))
  by-op x q add-op k = three-direct k.0 k.1 _ k.2 k.3 (q ∙ ap some k.4) k.5
  by-op x q subtract-op k = three-direct k.0 k.1 _ k.2 k.3 (q ∙ ap some k.4) k.5
  by-op x q compare-op k = three-direct k.0 k.1 _ k.2 k.3 (q ∙ ap some k.4) k.5
  by-op x q branch-op k =
      let e = q ∙ ap some k.3 in
      let n = branch-names k.0 k.1 k.2 e in
      let d = both _ _ k.4 in
      (fields_within w _ e, (n.0, with-test n.0 true d.1), (n.1, with-test n.1 true d.0))
  by-op x q goto-op k =
      let e = q ∙ ap some k.2 in
      let n = goto-name k.0 k.1 e in
      (fields_within w _ e, (n, with-test n true k.3))
  by-op x q block-op k = omega (arith, fields_within w (BK k.0) (q ∙ ap some k.1), block-fields k.0)
  by-op x q call-op k =
      let e = q ∙ ap some k.3 in
      let n = call-name k.0 k.1 k.2 e in
      (arguments-stand k.0 k.1 k.2 e, (n, with-test n true k.4))
  by-op x q pair-op k =
      let e = q ∙ ap some k.3 in
      let n = add-names k.0 k.1 k.2 e in
      (fields_within w _ e, n.0, n.1)
  by-op x q unpair-op k =
      let e = q ∙ ap some k.3 in
      let n = remove-names k.0 k.1 k.2 e in
      (fields_within w _ e, n.0, n.1)
  by-op x q query-op k =
      let e = q ∙ ap some k.4 in
      let n = query-names k.0 k.1 k.2 k.3 e in
      (fields_within w _ e, n.0, n.1, n.2)
  by-op x q constant-formal-op k =
      let e = q ∙ ap some k.3 in
      let n = constant-name k.0 k.1 k.2 e in
      (fields_within w _ e, (n, with-test n false k.4))
  by-op x q arithmetic-formal-op k =
      let e = q ∙ ap some k.5 in
      let n = arithmetic-names k.0 k.1 k.4 k.2 k.3 e in
      (fields_within w _ e, n.0, n.1, n.2)
  by-op x q branch-formal-op k =
      let e = q ∙ ap some k.3 in
      let n = branch-names k.0 k.1 k.2 e in
      (fields_within w _ e, n.0, n.1)
  by-op x q goto-formal-op k =
      let e = q ∙ ap some k.2 in
      let n = goto-name k.0 k.1 e in
      (fields_within w _ e, (n, with-test n false k.3))
  by-op x q call-formal-op k =
      let e = q ∙ ap some k.3 in
      let n = call-name k.0 k.1 k.2 e in
      (arguments-stand k.0 k.1 k.2 e, (n, with-test n false k.4), λ F finds. body-bounds w k.0 k.1 k.2 e F finds)

  pub fields-stand : (at ≡ end → ⊥) → Fields (op_of (get_or code at 0))
  fields-stand d =
      let x = next-stmt w d in
      by-op x.0 x.1 (op_of (get_or code at 0)) (op-is (enclosure_of w.stack.frames (length w.stack.frames)) code at w.name x.0 (covered w x.0 x.1))
