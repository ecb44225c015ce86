-- GO and IF: what the arrays come to is what the frame machine does (`goto-means`, `branch-means`). `jumps_to`: a jump to what a name designates, a
-- label, leads to the label's activation and to the place of its statement.
use Prim.Native.Nat.{ℕ, suc, pred, ◌+◌, ◌≤◌}
use native.Mathlib.Omega.{arith}
use Rattle.std.specs.Prelude.{true, false, ◌≡◌, refl, leb, ℤ, pos, take}
use mathlib.Core.List.{List, [], ◌∷◌, ◌++◌}
use Rattle.std.proofs.Math.Option.{some}
use Rattle.std.proofs.Math.Path.{sym, ap, subst}
use Rattle.std.proofs.Common.{◌∙◌}
use borrow.Author.Tests.{leb-true, leb-false}
use Rattle.std.proofs.Math.ListN.{length, get_or}
use Rattle.std.proofs.lemmas.List.{take-append-le}
use Rattle.language.specs.Basics.{eq_z}
use Rattle.language.specs.Text.{variable, label, Block, Decl, VR, LB, PR, GO, IF, DO, decl_kind, label_index}
use Rattle.language.specs.Encoding.{action_fields, stmt_fields}
use Rattle.language.specs.Machine.{Limits}
use Rattle.laws.specs.Tests.{split, some_inj}
use Rattle.frames.specs.Frame.{Frame, acted, numbered, designates, frame_number, decl_of, continue, map_action, with_frames, act, frame_stmt, frame_step}
use Rattle.frames.specs.Numbered.{numbered-low, numbered-high, numbered-append, numbered-seam}
use Rattle.frame_laws.specs.Actions.{goes, passes, jumps}
use Rattle.frame_laws.specs.Continuing.{decl_of-advanced, step-acts}
use Rattle.coordinates.proofs.Designated.{Designated}
use Rattle.coordinates.proofs.Visible.{action_names}
use Rattle.coordinates.proofs.Next.{next-action}
use Rattle.resolved.specs.Resolved.{stmt_place, decl_target, resolved_action, resolved_stmt}
use Rattle.arrays.specs.Holds.{target_of}
use Rattle.arrays.proofs.Cells as celled
use Rattle.run_moves.specs.declared.Move.TheVariants.{On, Jump}
use Rattle.run_moves.specs.Acting.{Finding, Scene, value_of, field, moves, do_goto, do_branch}
use Rattle.steps.specs.Standing.{Standing, Finds}
use Rattle.steps.specs.Means.{JumpsTo, Means}
use Rattle.steps.specs.Here.{many, last-is, covered}
use Rattle.steps.specs.Going.{scene_of, ahead, ahead_stack, passes_on, home_found, target_found, value_found}

-- a label leads to the statement with its index
label-target : (b : Block) (d : Decl) → decl_kind d ≡ label → decl_target b d ≡ stmt_place b (label_index d)
unfolding decl_kind decl_target label_index
label-target b (VR at n) e = let z : ◌≡◌ {A = ℕ} 0 1 = cc in absurd (omega arith)
label-target b (LB at n i) e = refl
label-target b (PR at n fs c) e = let z : ◌≡◌ {A = ℕ} 0 1 = cc in absurd (omega arith)

branches-on : (F : Finding) (s : Scene) → eq_z (value_of F s (field s 2)) (pos 0) ≡ true → do_branch F s ≡ moves s (On (s.at + 3))
unfolding do_branch
branches-on F s e = rw (e, do_branch)

branches-off : (F : Finding) (s : Scene) → eq_z (value_of F s (field s 2)) (pos 0) ≡ false → do_branch F s ≡ do_goto F s
unfolding do_branch
branches-off F s e = rw (e, do_branch)

module _ {code : List ℕ} {l : Limits} {cells : List ℤ} {blocks nexts links : List ℕ} {table : List ℤ} {pairs live at end : ℕ} (w : Standing code l cells blocks nexts links table pairs live at end) where
  -- a frame of the stack, found in the frames that the statement acts on
  ahead-numbered : (k : ℕ) (f : Frame) → numbered w.stack.frames k ≡ some f → (g : Frame) × (numbered (ahead w) k ≡ some g) × ((i : ℕ) → continue g i ≡ continue f i)
  unfolding continue
  ahead-numbered k f e =
      let q : numbered (w.below ++ (w.frame ∷ [])) k ≡ some f = ap (λ (fs : List Frame). numbered fs k) (sym w.frames-are) ∙ e in
      split (leb k (length w.below))
      (λ t. let h : k ≤ length w.below = leb-true k (length w.below) t in
      (f, numbered-append w.below (continue w.frame (suc w.frame.next) ∷ []) k h ∙ sym (numbered-append w.below (w.frame ∷ []) k h) ∙ q, λ i. refl))
      (λ t. let c : suc (length w.below) ≡ k = omega (arith, leb-false k (length w.below) t, numbered-high w.stack.frames k f e, many w, w.depth) in
      let same : w.frame ≡ f = some_inj (sym (numbered-seam w.below w.frame) ∙ ap (numbered (w.below ++ (w.frame ∷ []))) c ∙ q) in
      (continue w.frame (suc w.frame.next), ap (numbered (ahead w)) (sym c) ∙ numbered-seam w.below (continue w.frame (suc w.frame.next)), λ i. ap (λ (g : Frame). continue g i) same))

  -- the frames up to one of them
  ahead-taken : (n : ℕ) → n ≤ live → take n (ahead w) ≡ take n w.stack.frames
  ahead-taken n h =
      let k : n ≤ length w.below = omega (arith, w.depth) in
      take-append-le n w.below (continue w.frame (suc w.frame.next) ∷ []) k
      ∙ sym (ap (take n) w.frames-are ∙ take-append-le n w.below (w.frame ∷ []) k)

  pub jumps_to : (x : ℕ) → Designated w.stack.frames x label → frame_step l w.stack ≡ act l (ahead_stack w) (GO x) → JumpsTo w (pred (frame_number x)) (target_of w.stack.frames x)
  unfolding with_frames
  jumps_to x d step =
      let fs = w.stack.frames in
      let home = pred (frame_number x) in
      let low = numbered-low fs (frame_number x) d.home d.stands in
      let number : frame_number x ≡ suc home = omega arith in
      let high : home ≤ live = omega (arith, numbered-high fs (frame_number x) d.home d.stands, many w) in
      let g = ahead-numbered (frame_number x) d.home d.stands in
      let declared : decl_of (ahead w) x ≡ some d.decl = decl_of-advanced w.stack w.below w.frame (suc w.frame.next) w.frames-are x ∙ d.declared in
      record {
        frame = d.home;
        index = label_index d.decl;
        stands = ap (numbered fs) (sym number) ∙ d.stands;
        place_is = celled.target_found fs x d.home d.decl d.stands d.declared ∙ label-target d.home.text d.decl d.kind;
        steps = step ∙ goes l (ahead_stack w) x g.0 d.decl g.1 declared
            ∙ (λ i. acted (with_frames w.stack (ahead-taken home high i ++ (g.2 (label_index d.decl) i ∷ []))));
      }

  module _ (F : Finding) (finds : Finds w.stack.frames F) where
    jump-means : (home place home' place' : ℕ) → home ≡ home' → place ≡ place' → JumpsTo w home place → Means w (moves (scene_of w) (Jump home' place'))
    unfolding moves
    jump-means home place home' place' p q j = (subst (JumpsTo w home') q (subst (λ h. JumpsTo w h place) p j), refl)

    pub goto-means : (o n : ℕ) → frame_stmt w.frame ≡ some (DO o (GO n)) → Means w (do_goto F (scene_of w))
    unfolding do_goto resolved_stmt resolved_action action_names map_action
    goto-means o n q =
        let c = covered w (DO o (GO n)) q in
        let a = next-action l w.program w.keeps w.stack w.sound w.frame (last-is w) o (GO n) q in
        jump-means _ _ _ _ (sym (home_found w F finds n a.names.0 1 c.1.0)) (sym (target_found w F finds n a.names.0 1 c.1.0))
        (jumps_to (designates w.stack.frames n) a.kinds (step-acts l w.stack w.below w.frame o (GO n) w.frames-are q))

    pub branch-means : (o v n : ℕ) → frame_stmt w.frame ≡ some (DO o (IF v n)) → Means w (do_branch F (scene_of w))
    unfolding do_goto moves resolved_stmt resolved_action action_names map_action stmt_fields action_fields
    branch-means o v n q =
        let s = scene_of w in
        let fs = w.stack.frames in
        let c = covered w (DO o (IF v n)) q in
        let a = next-action l w.program w.keeps w.stack w.sound w.frame (last-is w) o (IF v n) q in
        let two : at + 1 + 1 ≡ at + 2 = omega arith in
        let value = value_found w F finds v a.names.0 2 (ap (λ i. get_or code i 0) (sym two) ∙ c.1.1.0) variable a.kinds.0 in
        let acts = step-acts l w.stack w.below w.frame o (IF v n) w.frames-are q in
        split (eq_z (value_of F s (field s 2)) (pos 0))
        (λ t. subst (Means w) (sym (branches-on F s t)) (passes_on w (DO o (IF v n)) q (acts ∙ passes l (ahead_stack w) (designates fs v) (designates fs n) _ value t)))
        (λ t. subst (Means w) (sym (branches-off F s t))
        (jump-means _ _ _ _ (sym (home_found w F finds n a.names.1.0 1 c.1.0)) (sym (target_found w F finds n a.names.1.0 1 c.1.0))
        (jumps_to (designates fs n) a.kinds.1 (acts ∙ jumps l (ahead_stack w) (designates fs v) (designates fs n) _ value t))))
