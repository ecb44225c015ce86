-- KN and AR: what the arrays come to is what the frame machine does (`constant-means`, `arithmetic-means`).
use Rattle.std.specs.Prelude.{ℕ, ◌+◌, true, false, ◌≡◌, ltb, ℤ}
use native.Mathlib.Omega.{arith}
use mathlib.Core.List.{List}
use Rattle.std.proofs.Math.Option.{some}
use Rattle.std.proofs.Math.Path.{refl, ap, subst}
use Rattle.std.proofs.Common.{sym, ◌∙◌}
use Rattle.std.proofs.Math.ListN.{get_or, set}
use Rattle.std.specs.Int.Signed.{mag}
use Rattle.language.specs.Text.{Operation, plus, minus, less, variable, KN, AR, DO}
use Rattle.language.specs.Encoding.{operation_field, signed, action_fields, stmt_fields}
use Rattle.language.specs.Machine.{Limits, compute}
use Rattle.language.specs.declared.Stop.TheVariants.{ResultTooLarge}
use Rattle.laws.specs.Tests.{split}
use Rattle.grammar.specs.Rules.{FormedAction}
use Rattle.grammar.specs.Words.{signed-unsigned}
use Rattle.frames.specs.Frame.{designates, map_action, with_frames, frame_stmt}
use Rattle.frame_laws.specs.Actions.{stores, computes, computes-past}
use Rattle.frame_laws.specs.Continuing.{step-acts}
use Rattle.coordinates.proofs.Visible.{action_names}
use Rattle.coordinates.proofs.Next.{next-action}
use Rattle.resolved.specs.Resolved.{resolved_action, resolved_stmt}
use Rattle.std.specs.Prelude.{Ok, Err}
use Rattle.run_moves.specs.declared.Move.TheVariants.{On, Stop}
use Rattle.run_moves.specs.Effects.{effect_of, cells_of}
use Rattle.run_moves.specs.Acting.{Finding, Scene, rewrites, operation_of, value_of, field, do_constant, arithmetic_move, do_arithmetic}
use Rattle.steps.specs.Standing.{Standing, Finds}
use Rattle.steps.specs.Means.{GoesOn, Means}
use Rattle.steps.specs.Here.{last-is, covered}
use Rattle.steps.specs.Going.{scene_of, ahead_stack, stores-on, cell-found, points-found, value_found}

-- A result that fits, and one that does not

module _ (F : Finding) (s : Scene) (o : Operation) where
  abbrev result : ℤ
  result = compute o (value_of F s (field s 3)) (value_of F s (field s 4))

  fitting : ltb (mag result) 2147483648 ≡ true → do_arithmetic F s o ≡ rewrites s (On (s.at + 5)) (set s.cells (F.cell (field s 1)) result)
  unfolding do_arithmetic arithmetic_move effect_of cells_of
  fitting e =
      let p : effect_of result ≡ Ok tt = rw (e, effect_of) in
      let q : cells_of s.cells (F.cell (field s 1)) result ≡ set s.cells (F.cell (field s 1)) result = rw (e, cells_of) in
      λ i. rewrites s (arithmetic_move F s (p i)) (q i)

  not-fitting : ltb (mag result) 2147483648 ≡ false → do_arithmetic F s o ≡ rewrites s (Stop ResultTooLarge) s.cells
  unfolding do_arithmetic arithmetic_move effect_of cells_of
  not-fitting e =
      let p : effect_of result ≡ Err ResultTooLarge = rw (e, effect_of) in
      let q : cells_of s.cells (F.cell (field s 1)) result ≡ s.cells = rw (e, cells_of) in
      λ i. rewrites s (arithmetic_move F s (p i)) (q i)

pub operation-of : (o : Operation) → operation_of (operation_field o) ≡ o
unfolding operation_of operation_field
operation-of plus = refl
operation-of minus = refl
operation-of less = refl

module _ {code : List ℕ} {l : Limits} {cells : List ℤ} {blocks nexts links : List ℕ} {table : List ℤ} {pairs live at end : ℕ} (w : Standing code l cells blocks nexts links table pairs live at end)
    (F : Finding) (finds : Finds w.stack.frames F) where
  -- a word stored at a name's cell
  stored : (cells' cells'' : List ℤ) (at' at'' : ℕ) → cells' ≡ cells'' → at' ≡ at'' → GoesOn w cells' table pairs at' → Means w (rewrites (scene_of w) (On at'') cells'')
  unfolding rewrites
  stored cells' cells'' at' at'' p q g = subst (λ i. GoesOn w cells'' table pairs i) q (subst (λ (ws : List ℤ). GoesOn w ws table pairs at') p g)

  -- KN

  pub constant-means : (o t : ℕ) (z : ℤ) → frame_stmt w.frame ≡ some (DO o (KN t z)) → Means w (do_constant F (scene_of w))
  unfolding do_constant resolved_stmt resolved_action action_names FormedAction map_action stmt_fields action_fields with_frames
  constant-means o t z q =
      let fs = w.stack.frames in
      let c = covered w (DO o (KN t z)) q in
      let a = next-action l w.program w.keeps w.stack w.sound w.frame (last-is w) o (KN t z) q in
      let two : at + 1 + 1 ≡ at + 2 = omega arith in
      let cell = cell-found w F finds t a.names.0 1 c.1.0 in
      let value : signed (get_or code (at + 2) 0) ≡ z = ap (λ i. signed (get_or code i 0)) (sym two) ∙ ap signed c.1.1.0 ∙ signed-unsigned z a.formed.value in
      let step = step-acts l w.stack w.below w.frame o (KN t z) w.frames-are q ∙ stores l (ahead_stack w) (designates fs t) z in
      stored _ _ (at + 4) (at + 4) (λ i. set cells (sym cell i) (sym value i)) refl
      (stores-on w (DO o (KN t z)) q (designates fs t) z (points-found w F finds t a.names.0 1 c.1.0 variable a.kinds) step)

  -- AR

  pub arithmetic-means : (at' t : ℕ) (o : Operation) (a b : ℕ) → frame_stmt w.frame ≡ some (DO at' (AR t o a b)) → Means w (do_arithmetic F (scene_of w) o)
  unfolding rewrites resolved_stmt resolved_action action_names map_action stmt_fields action_fields with_frames
  arithmetic-means at' t o a b q =
      let fs = w.stack.frames in
      let s = scene_of w in
      let c = covered w (DO at' (AR t o a b)) q in
      let n = next-action l w.program w.keeps w.stack w.sound w.frame (last-is w) at' (AR t o a b) q in
      let three : at + 1 + 1 + 1 ≡ at + 3 = omega arith in
      let four : at + 1 + 1 + 1 + 1 ≡ at + 4 = omega arith in
      let word-a = ap (λ i. get_or code i 0) (sym three) ∙ c.1.1.1.0 in
      let word-b = ap (λ i. get_or code i 0) (sym four) ∙ c.1.1.1.1.0 in
      let cell = cell-found w F finds t n.names.0 1 c.1.0 in
      let left = value_found w F finds a n.names.1.0 3 word-a variable n.kinds.1 in
      let right = value_found w F finds b n.names.1.1.0 4 word-b variable n.kinds.2 in
      let acts = step-acts l w.stack w.below w.frame at' (AR t o a b) w.frames-are q in
      split (ltb (mag (result F s o)) 2147483648)
      (λ e. subst (Means w) (sym (fitting F s o e))
      (stored _ _ (at + 5) (at + 5) (λ i. set cells (sym cell i) (result F s o)) refl
      (stores-on w (DO at' (AR t o a b)) q (designates fs t) (result F s o) (points-found w F finds t n.names.0 1 c.1.0 variable n.kinds.0)
      (acts ∙ computes l (ahead_stack w) (designates fs t) o (designates fs a) (designates fs b) _ _ left right e))))
      (λ e. subst (Means w) (sym (not-fitting F s o e)) (acts ∙ computes-past l (ahead_stack w) (designates fs t) o (designates fs a) (designates fs b) _ _ left right e, refl))
