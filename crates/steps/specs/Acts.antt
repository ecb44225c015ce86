-- The theorem on statements: `acting-means`. Before the end of its text, an engine whose way of finding names is right does what the frame
-- machine does: whatever the statement at its place comes to (`acting`) means a step of that machine.
use Rattle.std.specs.Prelude.{ℕ, ◌+◌, List, ◌≡◌, ℤ, length}
use native.Mathlib.Omega.{arith}
use Rattle.std.proofs.Math.Option.{some}
use Rattle.std.proofs.Common.{sym, ◌∙◌}
use Rattle.std.proofs.Math.Path.{ap, subst}
use Rattle.std.proofs.Math.ListN.{get_or}
use Rattle.language.specs.Text.{Stmt, Operation, AR, DO}
use Rattle.language.specs.Machine.{Limits}
use Rattle.frames.specs.Frame.{frame_stmt}
use Rattle.coordinates.specs.Chain.{enclosure_of}
use Rattle.resolved.specs.Resolved.{resolved_action, resolved_stmt}
use Rattle.run_moves.specs.Acting.{Finding, operation_of, do_arithmetic, Op, constant-op, add-op, subtract-op, compare-op, branch-op, goto-op, block-op, call-op, pair-op, unpair-op, query-op, constant-formal-op, arithmetic-formal-op, branch-formal-op, goto-formal-op, call-formal-op, op_of, happens, acting}
use Rattle.steps.specs.Standing.{Standing, Finds}
use Rattle.steps.specs.Means.{Means}
use Rattle.steps.specs.Here.{next-stmt, covered}
use Rattle.steps.specs.Ops.{OpIs, op-is}
use Rattle.steps.specs.Going.{scene_of}
use Rattle.steps.specs.Values.{operation-of, constant-means, arithmetic-means}
use Rattle.steps.specs.Pairs.{add-means, remove-means, query-means}
use Rattle.steps.specs.Jumps.{goto-means, branch-means}
use Rattle.steps.specs.Entries.{block-means}
use Rattle.steps.specs.Calls.{call-means, call-formal-means}

module _ {code : List ℕ} {l : Limits} {cells : List ℤ} {blocks nexts links : List ℕ} {table : List ℤ} {pairs live at end : ℕ} (w : Standing code l cells blocks nexts links table pairs live at end)
    (F : Finding) (finds : Finds w.stack.frames F) where
  -- AR's operation by its field
  by-operation : (o t : ℕ) (p : Operation) (a b : ℕ) → frame_stmt w.frame ≡ some (DO o (AR t p a b)) → Means w (do_arithmetic F (scene_of w) (operation_of (get_or code (at + 2) 0)))
  unfolding resolved_stmt resolved_action
  by-operation o t p a b q =
      let two : at + 2 ≡ at + 1 + 1 = omega arith in
      let e : operation_of (get_or code (at + 2) 0) ≡ p = ap operation_of (ap (λ i. get_or code i 0) two ∙ (covered w (DO o (AR t p a b)) q).1.1.0) ∙ operation-of p in
      subst (λ (r : Operation). Means w (do_arithmetic F (scene_of w) r)) (sym e) (arithmetic-means w F finds o t p a b q)

  -- by the statement's operation
  by-op : (x : Stmt) → frame_stmt w.frame ≡ some x → (p : Op) → OpIs (enclosure_of w.stack.frames (length w.stack.frames)) x p → Means w (happens F (scene_of w) p)
  unfolding happens
  by-op x q constant-op k = constant-means w F finds k.0 k.1 k.2 (q ∙ ap some k.3)
  by-op x q add-op k = arithmetic-means w F finds k.0 k.1 _ k.2 k.3 (q ∙ ap some k.4)
  by-op x q subtract-op k = arithmetic-means w F finds k.0 k.1 _ k.2 k.3 (q ∙ ap some k.4)
  by-op x q compare-op k = arithmetic-means w F finds k.0 k.1 _ k.2 k.3 (q ∙ ap some k.4)
  by-op x q branch-op k = branch-means w F finds k.0 k.1 k.2 (q ∙ ap some k.3)
  by-op x q goto-op k = goto-means w F finds k.0 k.1 (q ∙ ap some k.2)
  by-op x q block-op k = block-means w F k.0 (q ∙ ap some k.1)
  by-op x q call-op k = call-means w k.0 k.1 k.2 (q ∙ ap some k.3) F finds k.4
  by-op x q pair-op k = add-means w F finds k.0 k.1 k.2 (q ∙ ap some k.3)
  by-op x q unpair-op k = remove-means w F finds k.0 k.1 k.2 (q ∙ ap some k.3)
  by-op x q query-op k = query-means w F finds k.0 k.1 k.2 k.3 (q ∙ ap some k.4)
  by-op x q constant-formal-op k = constant-means w F finds k.0 k.1 k.2 (q ∙ ap some k.3)
  by-op x q arithmetic-formal-op k = by-operation k.0 k.1 k.4 k.2 k.3 (q ∙ ap some k.5)
  by-op x q branch-formal-op k = branch-means w F finds k.0 k.1 k.2 (q ∙ ap some k.3)
  by-op x q goto-formal-op k = goto-means w F finds k.0 k.1 (q ∙ ap some k.2)
  by-op x q call-formal-op k = call-formal-means w k.0 k.1 k.2 (q ∙ ap some k.3) F finds

  pub acting-means : (at ≡ end → ⊥) → Means w (acting F (scene_of w))
  unfolding acting
  acting-means d =
      let x = next-stmt w d in
      let z : at ≡ at + 0 = omega arith in
      by-op x.0 x.1 (op_of (get_or code (at + 0) 0))
      (subst (λ i. OpIs (enclosure_of w.stack.frames (length w.stack.frames)) x.0 (op_of (get_or code i 0))) z
      (op-is (enclosure_of w.stack.frames (length w.stack.frames)) code at w.name x.0 (covered w x.0 x.1)))
