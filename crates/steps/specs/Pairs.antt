-- AD, RM and QY: what the arrays come to is what the frame machine does (`add-means`, `remove-means`, `query-means`).
use Rattle.std.specs.Prelude.{ℕ, ◌+◌, List, ◌≡◌, ℤ, length, set}
use native.Mathlib.Omega.{arith}
use Rattle.std.proofs.Math.Option.{some}
use Rattle.std.proofs.Math.Path.{refl, subst}
use Rattle.std.proofs.Common.{sym, ap, ◌∙◌}
use Rattle.std.proofs.Math.ListN.{get_or}
use Rattle.language.specs.Text.{variable, Stmt, AD, RM, QY, DO}
use Rattle.language.specs.Encoding.{action_fields, stmt_fields}
use Rattle.language.specs.Table.{Table, Effect, leaves, halts, Asked, gives, refuses, added, removed, queried}
use Rattle.language.specs.Machine.{Limits}
use Rattle.frames.specs.Frame.{designates, map_action, with_frames, put, as_acted, as_put, add_to, remove_from, ask, act, frame_stmt, frame_step}
use Rattle.frame_laws.specs.Bounds.{Points}
use Rattle.frame_laws.specs.Continuing.{step-acts}
use Rattle.coordinates.proofs.Visible.{action_names}
use Rattle.coordinates.proofs.Next.{next-action}
use Rattle.resolved.specs.Resolved.{resolved_action, resolved_stmt}
use Rattle.arrays.specs.Holds.{cell_of}
use Rattle.run_moves.specs.declared.Ask.TheVariants.{Add, Remove}
use Rattle.run_moves.specs.Acting.{Finding, field, value_of, moves, do_change, do_query, stored, answer}
use Rattle.steps.specs.Standing.{Standing, Finds}
use Rattle.steps.specs.Means.{GoesOn, EffectMeans, AnswerMeans, Means}
use Rattle.steps.specs.Here.{last-is, covered}
use Rattle.steps.specs.Going.{scene_of, ahead_stack, stays_on, stores-on, cell-found, points-found, cell-there, value_found}

module _ {code : List ℕ} {l : Limits} {cells : List ℤ} {blocks nexts links : List ℕ} {table : List ℤ} {pairs live at end : ℕ} (w : Standing code l cells blocks nexts links table pairs live at end)
    (F : Finding) (finds : Finds w.stack.frames F) where
  abbrev lent : Table
  lent = record { words = table; used = pairs }

  module _ (x : Stmt) (q : frame_stmt w.frame ≡ some x) where
    -- whatever the table's change comes to
    changed : length (stmt_fields x) ≡ 3 → (e : Effect) → frame_step l w.stack ≡ as_acted (ahead_stack w) e → EffectMeans w (at + 3) cells e
    unfolding as_acted
    changed three (leaves t) step = subst (λ i. GoesOn w cells t.words t.used (at + i)) three (stays_on w x q t step)
    changed three (halts c) step = (step, refl)

    answered : length (stmt_fields x) ≡ 4 → (y : ℕ) → Points w.stack.frames (length w.stack.frames) y → (group member target : ℕ) → target ≡ cell_of y → (a : Asked)
        → frame_step l w.stack ≡ as_put (ahead_stack w) y a → AnswerMeans w (at + 4) (stored l.limit cells lent group member target a)
    unfolding stored as_put put with_frames
    answered four y p group member target cell (gives z) step =
        subst (λ c. GoesOn w (set cells c z) table pairs (at + 4)) (sym cell) (subst (λ i. GoesOn w (set cells (cell_of y) z) table pairs (at + i)) four (stores-on w x q y z p step))
    answered four y p group member target cell (refuses c) step = (step, refl)

  pub add-means : (o g m : ℕ) → frame_stmt w.frame ≡ some (DO o (AD g m)) → Means w (do_change F (scene_of w) Add)
  unfolding do_change moves answer resolved_stmt resolved_action action_names map_action stmt_fields action_fields act add_to with_frames
  add-means o g m q =
      let s = scene_of w in
      let c = covered w (DO o (AD g m)) q in
      let n = next-action l w.program w.keeps w.stack w.sound w.frame (last-is w) o (AD g m) q in
      let two : at + 1 + 1 ≡ at + 2 = omega arith in
      let group = value_found w F finds g n.names.0 1 c.1.0 variable n.kinds.0 in
      let member = value_found w F finds m n.names.1.0 2 (ap (λ i. get_or code i 0) (sym two) ∙ c.1.1.0) variable n.kinds.1 in (
        changed (DO o (AD g m)) q refl (added l.limit (value_of F s (field s 1)) (value_of F s (field s 2)) lent)
            (step-acts l w.stack w.below w.frame o (AD g m) w.frames-are q ∙ (λ i. as_acted (ahead_stack w) (added l.limit (group i) (member i) (w.table_is i)))),
        refl,
        (
          cell-there w F finds g n.names.0 1 c.1.0 variable n.kinds.0,
          (cell-there w F finds m n.names.1.0 2 (ap (λ i. get_or code i 0) (sym two) ∙ c.1.1.0) variable n.kinds.1, omega arith),
        ),
      )

  pub remove-means : (o g m : ℕ) → frame_stmt w.frame ≡ some (DO o (RM g m)) → Means w (do_change F (scene_of w) Remove)
  unfolding do_change moves answer resolved_stmt resolved_action action_names map_action stmt_fields action_fields act remove_from with_frames
  remove-means o g m q =
      let s = scene_of w in
      let c = covered w (DO o (RM g m)) q in
      let n = next-action l w.program w.keeps w.stack w.sound w.frame (last-is w) o (RM g m) q in
      let two : at + 1 + 1 ≡ at + 2 = omega arith in
      let group = value_found w F finds g n.names.0 1 c.1.0 variable n.kinds.0 in
      let member = value_found w F finds m n.names.1.0 2 (ap (λ i. get_or code i 0) (sym two) ∙ c.1.1.0) variable n.kinds.1 in (
        changed (DO o (RM g m)) q refl (removed (value_of F s (field s 1)) (value_of F s (field s 2)) lent)
            (step-acts l w.stack w.below w.frame o (RM g m) w.frames-are q ∙ (λ i. as_acted (ahead_stack w) (removed (group i) (member i) (w.table_is i)))),
        refl,
        (
          cell-there w F finds g n.names.0 1 c.1.0 variable n.kinds.0,
          (cell-there w F finds m n.names.1.0 2 (ap (λ i. get_or code i 0) (sym two) ∙ c.1.1.0) variable n.kinds.1, omega arith),
        ),
      )

  pub query-means : (o t g m : ℕ) → frame_stmt w.frame ≡ some (DO o (QY t g m)) → Means w (do_query F (scene_of w))
  unfolding do_query moves answer resolved_stmt resolved_action action_names map_action stmt_fields action_fields act ask with_frames
  query-means o t g m q =
      let s = scene_of w in
      let fs = w.stack.frames in
      let c = covered w (DO o (QY t g m)) q in
      let n = next-action l w.program w.keeps w.stack w.sound w.frame (last-is w) o (QY t g m) q in
      let two : at + 1 + 1 ≡ at + 2 = omega arith in
      let three : at + 1 + 1 + 1 ≡ at + 3 = omega arith in
      let group = value_found w F finds g n.names.1.0 2 (ap (λ i. get_or code i 0) (sym two) ∙ c.1.1.0) variable n.kinds.1 in
      let member = value_found w F finds m n.names.1.1.0 3 (ap (λ i. get_or code i 0) (sym three) ∙ c.1.1.1.0) variable n.kinds.2 in (
        answered (DO o (QY t g m)) q refl (designates fs t) (points-found w F finds t n.names.0 1 c.1.0 variable n.kinds.0) _ _ _ (cell-found w F finds t n.names.0 1 c.1.0)
            (queried (value_of F s (field s 2)) (value_of F s (field s 3)) lent)
            (step-acts l w.stack w.below w.frame o (QY t g m) w.frames-are q ∙ (λ i. as_put (ahead_stack w) (designates fs t) (queried (group i) (member i) (w.table_is i)))),
        refl,
        (
          cell-there w F finds g n.names.1.0 2 (ap (λ i. get_or code i 0) (sym two) ∙ c.1.1.0) variable n.kinds.1,
          (cell-there w F finds m n.names.1.1.0 3 (ap (λ i. get_or code i 0) (sym three) ∙ c.1.1.1.0) variable n.kinds.2, cell-there w F finds t n.names.0 1 c.1.0 variable n.kinds.0),
        ),
      )
