-- One step, and a whole run: from related states both machines come to related states, or stop for one cause at one offset.
use Rattle.std.specs.Prelude.{ℕ, suc, pred, ◌<◌, Bool, ℤ, pos, length}
use native.Mathlib.Omega.{arith}
use Rattle.std.proofs.Math.Bool.{true, false}
use Rattle.std.proofs.Math.Path.{◌≡◌, refl, sym, ap, subst, subst₂}
use Rattle.std.proofs.Common.{ap₂, ◌∙◌}
use mathlib.Core.List.{List, [], ◌∷◌, ◌++◌, map}
use Rattle.std.proofs.Math.Option
use Rattle.std.proofs.Math.Option.{Option, none, some}
use Rattle.std.proofs.Math.ListN.{get_elem?, length-append}
use Rattle.language.specs.Basics.{eq_z, last?, but_last}
use Rattle.language.specs.Text.{Kind, variable, label, procedure, Action, CL, GO, IF, KN, AR, AD, RM, QY, Block, Stmt, BK, DO, block_stmts, stmt_at, formal_names, declared_names}
use Rattle.language.specs.Copy.{Replacement, renamed, rename_action, rename_block, rename_stmt, without}
use Rattle.language.specs.Machine.{Activation, State, Limits, with_live, resume, value, compute, do_action, do_stmt, enter_if_room, next_stmt, advance, step_in, step, next_offset}
use Rattle.laws.specs.Lists.{last_snoc, but_last-snoc, last-split, get_elem-seam, get_elem?-map}
use Rattle.laws.specs.Lookup.{AllBelow}
use Rattle.laws.specs.Renaming.{block_stmts-renamed, stmt_at-renamed}
use Rattle.grammar.specs.Rules.{FormedAction, FormedBlock}
use Rattle.grammar.specs.Formed.{stmt-at}
use Rattle.instances.specs.Statement.{uses_of, Stands}
use Rattle.instances.proofs.Closed.{Kinds, Used, AllUsed, InStmt}
use Rattle.instances.proofs.Invariant.{live_kinds, Invariant}
use Rattle.instances.proofs.Theorems.{stands}
use Rattle.instances.proofs.Steps.{next-closed, advanced, advanced-kinds}
use Rattle.frames.specs.Frame.{Frame, Stack, continue, with_frames, word_at, designates, map_action, act, act_stmt, push_frame, frame_stmt, advance_frame, act_in, frame_step, frame_offset}
use Rattle.frames.specs.Related.{reads_at, joined, designator_at, Twin, Related, as-deep}
use Rattle.frames.specs.Fine.{Fine, fine-block}
use Rattle.frames.proofs.Cuts.{Top, top_of, related-pop, related-resume}
use Rattle.frames.proofs.Find.{designates-name}
use Rattle.frames.proofs.Actions.{Alike, word-is-value, store-alike, fits-alike, add-alike, remove-alike, query-alike}
use Rattle.frames.proofs.Transfers.{jump-related, AllStand, call-alike, enter-alike, reads_of}

-- an action whose names are used as the text around it allows
module _ (s : State) (t : Stack) (r : Related s t) (inv : Invariant s) where
  abbrev Use : ℕ → Option Kind → Type 0
  Use x w = Used (live_kinds s.live) (x, w)

  abbrev δ : ℕ → ℕ
  δ x = designator_at s.live x

  live : (x : ℕ) (w : Option Kind) → Use x w → Stands s x w
  live x w u = stands s x w inv u

  word : (x : ℕ) → Use x (some variable) → word_at t.frames (δ x) ≡ value s x
  word x u = word-is-value s t r x (live x (some variable) u)

  all-stand : (xs : List ℕ) → AllUsed (live_kinds s.live) (map (λ (x : ℕ). (x, none)) xs) → AllStand s xs
  all-stand [] u = tt
  all-stand (x ∷ xs) u = (live x none u.0, all-stand xs u.1)

  branch-alike : (l : Limits) (v x : ℕ) → Use v (some variable) → Use x (some label) → (b : Bool) → eq_z (value s v) (pos 0) ≡ b → Alike (do_action l s (IF v x)) (act l t (map_action δ (IF v x)))
  unfolding do_action act map_action Alike
  branch-alike l v x u u' true e = rw (e, ap (λ (z : ℤ). eq_z z (pos 0)) (word v u) ∙ e, do_action, act) r
  branch-alike l v x u u' false e = rw (e, ap (λ (z : ℤ). eq_z z (pos 0)) (word v u) ∙ e, do_action, act) (jump-related s t r x (some label) (live x (some label) u'))

  pub action-alike : (l : Limits) (x : Action) → AllUsed (live_kinds s.live) (uses_of x) → Alike (do_action l s x) (act l t (map_action δ x))
  unfolding do_action act map_action uses_of Alike
  action-alike l (CL p xs) u = call-alike s t r l p (some procedure) xs (live p (some procedure) u.0) (all-stand xs u.1)
  action-alike l (GO x) u = jump-related s t r x (some label) (live x (some label) u.0)
  action-alike l (IF v x) u = branch-alike l v x u.0 u.1.0 (eq_z (value s v) (pos 0)) refl
  action-alike l (KN x z) u = store-alike s t r x z (live x (some variable) u.0)
  action-alike l (AR x o a b) u = rw (word a u.1.0, word b u.1.1.0) (fits-alike s t r x (compute o (value s a) (value s b)) (live x (some variable) u.0))
  action-alike l (AD g m) u = rw (word g u.0, word m u.1.0) (add-alike s t r l (value s g) (value s m))
  action-alike l (RM g m) u = rw (word g u.0, word m u.1.0) (remove-alike s t r (value s g) (value s m))
  action-alike l (QY x g m) u = rw (word g u.1.0, word m u.1.1.0) (query-alike s t r x (value s g) (value s m) (live x (some variable) u.0))

-- Names in the innermost frame's text, and in the copy.

names_same : (s : State) (t : Stack) (σ : Replacement) → ((n : ℕ) → n < 65536 → designates t.frames n ≡ designator_at s.live (renamed σ n)) → (xs : List ℕ) → AllBelow xs → map (designates t.frames) xs ≡ map (designator_at s.live) (map (renamed σ) xs)
names_same s t σ h [] b = refl
names_same s t σ h (x ∷ xs) b = ap₂ ◌∷◌ (h x b.0) (names_same s t σ h xs b.1)

found-same : (s : State) (t : Stack) (σ : Replacement) → ((n : ℕ) → n < 65536 → designates t.frames n ≡ designator_at s.live (renamed σ n)) → (x : Action) → FormedAction x → map_action (designates t.frames) x ≡ map_action (designator_at s.live) (rename_action σ x)
unfolding map_action rename_action FormedAction
found-same s t σ h (CL p xs) b = ap₂ CL (h p b.called) (names_same s t σ h xs b.arguments)
found-same s t σ h (GO x) b = ap GO (h x b)
found-same s t σ h (IF v x) b = ap₂ IF (h v b.0) (h x b.1)
found-same s t σ h (KN x z) b = ap (λ (y : ℕ). KN y z) (h x b.target)
found-same s t σ h (AR x o c d) b = λ i. AR (h x b.0 i) o (h c b.1 i) (h d b.2 i)
found-same s t σ h (AD g m) b = ap₂ AD (h g b.0) (h m b.1)
found-same s t σ h (RM g m) b = ap₂ RM (h g b.0) (h m b.1)
found-same s t σ h (QY x g m) b = λ i. QY (h x b.0 i) (h g b.1 i) (h m b.2 i)

-- the next statements are one, renamed
pub next-renamed : (l : List Activation) (vs : List (ℕ × ℤ)) (k : ℕ) (a : Activation) (f : Frame) → Twin l vs k a f → next_stmt a ≡ Option.map (λ (x : Stmt). rename_stmt x (joined a.reads)) (frame_stmt f)
unfolding next_stmt frame_stmt
next-renamed l vs k a f w =
    ap₂ (λ (xs : List Stmt) (n : ℕ). get_elem? xs (pred n)) (ap block_stmts w.text-is ∙ block_stmts-renamed f.text (joined a.reads)) w.next-is ∙
    get_elem?-map (λ (x : Stmt). rename_stmt x (joined a.reads)) (block_stmts f.text) (pred f.next)

-- One step from an innermost activation, whose frame is the innermost one.
module _ (l : Limits) (s : State) (t : Stack) (r : Related s t) (inv : Invariant s) (a : Activation) (last : last? s.live ≡ some a) where
  top : Top s t
  top = top_of s t r (but_last s.live) a (last-split s.live a last)

  abbrev f : Frame
  f = top.frame

  last_frame : last? t.frames ≡ some f
  last_frame = ap last? top.frames-are ∙ last_snoc top.below-frames f

  before-frame : but_last t.frames ≡ top.below-frames
  before-frame = ap but_last top.frames-are ∙ but_last-snoc top.below-frames f

  next-is : a.next ≡ f.next
  unfolding top top_of
  next-is = top.twin.next-is

  σ : Replacement
  σ = joined a.reads

  next-stmt : next_stmt a ≡ Option.map (λ (x : Stmt). rename_stmt x (joined a.reads)) (frame_stmt f)
  unfolding top top_of
  next-stmt = next-renamed s.live s.values (length top.below) a f top.twin

  -- the states with the statement passed
  related₁ : Related (advance s a) (advance_frame t f)
  unfolding advance advance_frame top top_of
  related₁ =
      subst₂ (λ (fs : List Frame) (n : ℕ). Related (with_live s (but_last s.live ++ (resume a (suc a.next) ∷ []))) (with_frames t (fs ++ (continue f (suc n) ∷ []))))
      (sym before-frame) next-is
      (related-resume s t r top (suc a.next))

  abbrev k : ℕ
  k = length (but_last s.live)

  top₁ : get_elem? (advance s a).live k ≡ some (resume a (suc a.next))
  unfolding advance with_live
  top₁ = get_elem-seam (but_last s.live) (resume a (suc a.next)) []

  deep₁ : length (advance s a).live ≡ suc k
  unfolding advance with_live
  deep₁ = length-append (but_last s.live) (resume a (suc a.next) ∷ []) ∙ omega arith

  frames₁ : length (advance_frame t f).frames ≡ suc k
  frames₁ = sym (as-deep (advance s a) (advance_frame t f) related₁) ∙ deep₁

  reads₁ : reads_at (advance s a).live (suc k) ≡ a.reads
  unfolding resume
  reads₁ = reads_of (advance s a) (advance_frame t f) related₁ k (resume a (suc a.next)) top₁

  fine-top : Fine f.formals f.text
  fine-top = top.twin.fine

  -- no statement left: the activation is left
  leave-alike : frame_stmt f ≡ none → Alike (step_in l s a) (act_in l t f)
  unfolding step_in act_in Alike top top_of
  leave-alike e =
      rw (next-stmt ∙ ap (Option.map (λ (x : Stmt). rename_stmt x (joined a.reads))) e, e, step_in, act_in)
      (subst (λ (fs : List Frame). Related (with_live s (but_last s.live)) (with_frames t fs)) (sym before-frame) (related-pop s t r top))

  -- a block
  block-alike : (b : Block) → frame_stmt f ≡ some (BK b) → Alike (step_in l s a) (act_in l t f)
  unfolding step_in act_in Alike do_stmt act_stmt frame_stmt rename_stmt formal_names
  block-alike b e =
      rw (next-stmt ∙ ap (Option.map (λ (x : Stmt). rename_stmt x (joined a.reads))) e, e, step_in, act_in)
      (let deep = sym deep₁ in let frames = sym frames₁ in
      subst (λ (T : Type 0). T) (λ i. Alike (enter_if_room l (advance s a) [] [] (rename_block b (without (declared_names b) (joined (reads₁ i)))) (deep i) (reads₁ i)) (push_frame l (advance_frame t f) [] [] b (frames i)))
      (enter-alike (advance s a) (advance_frame t f) related₁ l [] b (fine-block f.formals f.text (pred f.next) b fine-top e) [] refl tt (suc k) (omega (arith, deep₁))))

  -- an action
  act-alike : (at : ℕ) (x : Action) → frame_stmt f ≡ some (DO at x) → Alike (step_in l s a) (act_in l t f)
  unfolding step_in act_in Alike do_stmt act_stmt frame_stmt rename_stmt FormedBlock InStmt resume
  act-alike at x e =
      let next : next_stmt a ≡ some (DO at (rename_action (joined a.reads) x)) = next-stmt ∙ ap (Option.map (λ (y : Stmt). rename_stmt y (joined a.reads))) e in
      let formed = stmt-at fine-top.level f.formals fine-top.here f.text (pred f.next) (DO at x) fine-top.formed e in
      let used = subst (λ (K : Kinds). AllUsed K (uses_of (rename_action (joined a.reads) x))) (sym (advanced-kinds s a last)) (next-closed s a (DO at (rename_action (joined a.reads) x)) inv last next) in
      rw (next, e, step_in, act_in)
      (subst (λ (y : Action). Alike (do_action l (advance s a) (rename_action (joined a.reads) x)) (act l (advance_frame t f) y))
      (sym (found-same (advance s a) (advance_frame t f) (joined a.reads) (λ n h. designates-name (advance s a) (advance_frame t f) related₁ k (resume a (suc a.next)) deep₁ top₁ n h) x formed.1.action))
      (action-alike (advance s a) (advance_frame t f) related₁ (advanced s a (DO at (rename_action (joined a.reads) x)) inv last next) l (rename_action (joined a.reads) x) used))

  stmt-alike : (o : Option Stmt) → frame_stmt f ≡ o → Alike (step_in l s a) (act_in l t f)
  stmt-alike none e = leave-alike e
  stmt-alike (some (BK b)) e = block-alike b e
  stmt-alike (some (DO at x)) e = act-alike at x e

  top-step : Alike (step l s) (frame_step l t)
  unfolding step frame_step
  top-step = rw (last, last_frame, step, frame_step) (stmt-alike (frame_stmt f) refl)

  -- the offset of the next statement
  top-offset : next_offset s ≡ frame_offset t
  unfolding next_offset frame_offset
  top-offset = rw (last, last_frame, next_offset, frame_offset) (go (frame_stmt f) refl)
    where
      go : (o : Option Stmt) → frame_stmt f ≡ o → ◌≡◌ {A = ℕ} (elim (next_stmt a) [ none ↦ 0 | some x ↦ stmt_at x ]) (elim (frame_stmt f) [ none ↦ 0 | some x ↦ stmt_at x ])
      go none e = rw (next-stmt ∙ ap (Option.map (λ (x : Stmt). rename_stmt x (joined a.reads))) e, e)
      go (some x) e = rw (next-stmt ∙ ap (Option.map (λ (y : Stmt). rename_stmt y (joined a.reads))) e, e) (stmt_at-renamed x (joined a.reads))

-- One step keeps the relation.
pub step-alike : (l : Limits) (s : State) (t : Stack) → Related s t → Invariant s → (a : Activation) → last? s.live ≡ some a → Alike (step l s) (frame_step l t)
step-alike l s t r inv a e = top-step l s t r inv a e

pub offset-alike : (l : Limits) (s : State) (t : Stack) → Related s t → Invariant s → (a : Activation) → last? s.live ≡ some a → next_offset s ≡ frame_offset t
offset-alike l s t r inv a e = top-offset l s t r inv a e
