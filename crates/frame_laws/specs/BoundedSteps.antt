-- The start keeps the bounds (`start-bounded`), and so does a step (`step-bounded`) where the next statement lands: a goto goes
-- to a label. Nothing else of scope is needed: a call of what is no procedure enters an empty block, and a store reaches no formal's word.
use Rattle.std.specs.Prelude.{ℕ, suc, pred, ◌-◌, ◌/◌, ◌%◌, ◌≤◌, ◌<◌, true, ◌≡◌, refl, ℤ, length, take, drop, get_or}
use Rattle.std.proofs.Common.{not-suc-le-zero, arith, sym, ap, ◌∙◌, subst, inl, inr, length-set, length-take, take-append-drop}
use mathlib.Core.List.{List, [], ◌∷◌, ◌++◌, map}
use Rattle.std.proofs.Math.Option.{none, some, none-ne-some}
use Rattle.std.proofs.Math.ListN.{get_elem?}
use Rattle.std.specs.Int.Signed.{mag}
use Rattle.language.specs.Text.{Kind, Action, CL, GO, IF, KN, AR, AD, RM, QY, Block, Decl, Stmt, BK, DO, block_stmts, label_index, decl_formals, decl_body, formal_kinds}
use Rattle.language.specs.Scope.{agree}
use Rattle.language.specs.Table.{Table}
use Rattle.language.specs.Machine.{Limits}
use Rattle.laws.specs.Tests.{by-lookup}
use Rattle.laws.specs.Kinds.{agree-many, agree-known}
use Rattle.laws.specs.Each.{Each, each-get_d}
use Rattle.grammar.specs.Rules.{FormedAction, Keeps}
use Rattle.frames.specs.Frame.{Frame, Stack, Acted, acted, halted, with_frames, table_changed, stepped, continue, numbered, designates, frame_number, place, decl_of, kind_of, put_word, map_action, new_frame, act, act_stmt, frame_stmt, frame_step, frame_start}
use Rattle.laws.specs.Lists.{snoc-length, get_elem-bound, get_elem-split}
use Rattle.frame_laws.specs.Finding.{decl_of-found, decl_of-none, decl_of-frame, kind_of-none, put_word-found, put_word-none}
use Rattle.frame_laws.specs.Actions.{stores, does}
use Rattle.frames.specs.Running.{After}
use Rattle.frames.specs.Numbered.{numbered-zero, numbered-bounds, numbered-index}
use Rattle.frame_laws.specs.Cases.{enter-cases, call-cases, go-cases, if-cases, compute-cases, add-cases, remove-cases, ask-cases, step-cases}
use Rattle.frame_laws.specs.Formed.{InForm, program-in-form, DeclInForm, StmtInForm, decl-in-form, stmt-in-form, body-in-form, label-in-form, block-in-form, action-in-form}
use Rattle.frame_laws.specs.Bounds.{Points, FrameBounded, BoundedFrames, Bounded, Target, OnLabel, JumpsToLabel, Lands}
use Rattle.frame_laws.specs.BoundedFrames.{bounded-first, bounded-after, bounded-more, bounded-continued, bounded-put, bounded-new}
use Rattle.frame_laws.specs.Names.{numbered-bounded, designates-target}
use Rattle.frame_laws.specs.Continuing.{jumps-continued}

-- Bounded is of the frames alone
pub bounded-with : (l : Limits) (s : Stack) (fs : List Frame) → length fs ≤ l.activations → BoundedFrames fs → Bounded l (with_frames s fs)
unfolding with_frames
bounded-with l s fs n h = record { live = n; each = h }

pub bounded-table : (l : Limits) (s : Stack) (t : Table) → Bounded l s → Bounded l (table_changed s t)
unfolding table_changed
bounded-table l s t h = record { live = h.live; each = h.each }

pub bounded-stepped : (l : Limits) (s s' : Stack) → Bounded l s' → Bounded l (stepped s s')
unfolding stepped
bounded-stepped l s s' h = record { live = h.live; each = h.each }

-- A declaration that a designator gives is in form, and the designator is not 0

pub decl_of-in-form : (fs : List Frame) (x : ℕ) (f : Frame) (d : Decl) → BoundedFrames fs → numbered fs (frame_number x) ≡ some f → decl_of fs x ≡ some d → DeclInForm d (length (block_stmts f.text))
decl_of-in-form fs x f d h n e =
    decl-in-form f.text f.formals (place x - length f.formals) d (numbered-bounded fs (frame_number x) f h n).in-form (sym (decl_of-found fs x f n) ∙ e)

decl_of-zero : (fs : List Frame) → decl_of fs 0 ≡ none
unfolding frame_number
decl_of-zero fs = decl_of-none fs 0 (numbered-zero fs 0 (omega arith))

kind-points : (fs : List Frame) (x : ℕ) (k : Kind) → Target fs x → kind_of fs x ≡ some k → Points fs (length fs) x
kind-points fs x k (inl z) e = absurd (none-ne-some k (sym (kind_of-none fs x (ap (decl_of fs) z ∙ decl_of-zero fs)) ∙ e))
kind-points fs x k (inr p) e = p

-- The stack with other frames

after_map : (P Q : Stack → Type 0) → ((s : Stack) → P s → Q s) → (d : Acted) → After P d → After Q d
after_map P Q f (acted s) h = f s h
after_map P Q f (halted c) h = tt

frames-are : (s : Stack) (fs : List Frame) (a : Action) → JumpsToLabel fs (map_action (designates fs) a) → JumpsToLabel (with_frames s fs).frames (map_action (designates (with_frames s fs).frames) a)
unfolding with_frames
frames-are s fs a h = h

-- Leaving, and going on to the next statement number

pub next-in-form : (pre : List Frame) (f : Frame) (x : Stmt) → BoundedFrames (pre ++ (f ∷ [])) → frame_stmt f ≡ some x → StmtInForm x
unfolding frame_stmt
next-in-form pre f x h e = stmt-in-form f.text f.formals (pred f.next) x (bounded-after pre f [] h).in-form e

next-most : (f : Frame) (x : Stmt) → 1 ≤ f.next → frame_stmt f ≡ some x → suc f.next ≤ suc (length (block_stmts f.text))
unfolding frame_stmt
next-most f x n e = omega (arith, get_elem-bound (block_stmts f.text) (pred f.next) x e)

module _ (l : Limits) (s : Stack) (pre : List Frame) (f : Frame) where
  pub left-bounded : Bounded l s → s.frames ≡ pre ++ (f ∷ []) → Bounded l (with_frames s pre)
  left-bounded h e =
      bounded-with l s pre (omega (arith, h.live, ap length e, snoc-length pre f)) (bounded-first pre (f ∷ []) (subst BoundedFrames e h.each))

  pub advanced-bounded : (x : Stmt) → Bounded l s → s.frames ≡ pre ++ (f ∷ []) → frame_stmt f ≡ some x → Bounded l (with_frames s (pre ++ (continue f (suc f.next) ∷ [])))
  advanced-bounded x h e n =
      let g = continue f (suc f.next) in
      let each = subst BoundedFrames e h.each in
      let here = bounded-after pre f [] each in
      bounded-with l s (pre ++ (g ∷ [])) (omega (arith, h.live, ap length e, snoc-length pre f, snoc-length pre g))
      (bounded-more pre g (bounded-first pre (f ∷ []) each) (bounded-continued pre (length pre) f (suc f.next) here (omega arith) (next-most f x here.next-first n)))

-- Gotos: the label's frame becomes innermost, at a statement of its block

pub take-bounded : (fs : List Frame) (m : ℕ) (f : Frame) → BoundedFrames fs → get_elem? fs m ≡ some f → FrameBounded (take m fs) (length (take m fs)) f
take-bounded fs m f h e = bounded-after (take m fs) f (drop (suc m) fs) (subst BoundedFrames (get_elem-split fs m f e) h)

pub go-bounded : (l : Limits) (s : Stack) (x : ℕ) → Bounded l s → OnLabel s.frames x → After (Bounded l) (act l s (GO x))
go-bounded l s x h o = go-cases l s (After (Bounded l)) (λ c. tt) x h to
  where
    to : (f : Frame) (d : Decl) → numbered s.frames (frame_number x) ≡ some f → decl_of s.frames x ≡ some d → Bounded l (with_frames s (take (pred (frame_number x)) s.frames ++ (continue f (label_index d) ∷ [])))
    to f d n e =
        let m = pred (frame_number x) in
        let g = continue f (label_index d) in
        let at = numbered-index s.frames (frame_number x) f n in
        let i = label-in-form d (length (block_stmts f.text)) (decl_of-in-form s.frames x f d h.each n e) (o d e) in
        bounded-with l s (take m s.frames ++ (g ∷ [])) (omega (arith, h.live, snoc-length (take m s.frames) g, length-take m s.frames, get_elem-bound s.frames m f at))
        (bounded-more (take m s.frames) g (bounded-first (take m s.frames) (drop m s.frames) (subst BoundedFrames (sym (take-append-drop m s.frames)) h.each))
        (bounded-continued (take m s.frames) (length (take m s.frames)) f (label_index d) (take-bounded s.frames m f h.each at) i.0 (omega (arith, i.1))))

-- Stores, through what a name designates

pub put_word-length : (fs : List Frame) (x : ℕ) (z : ℤ) → length (put_word fs x z) ≡ length fs
put_word-length fs x z = by-lookup (numbered fs (frame_number x)) (λ e. ap length (put_word-none fs x z e)) (λ f e. ap length (put_word-found fs x z f e) ∙ length-set fs _ _)

put_word-bounded : (fs : List Frame) (x : ℕ) (z : ℤ) → BoundedFrames fs → Target fs x → mag z < 2147483648 → BoundedFrames (put_word fs x z)
unfolding frame_number place
put_word-bounded fs x z h (inl e) q = subst BoundedFrames (sym (ap (λ y. put_word fs y z) e ∙ put_word-none fs 0 z (numbered-zero fs 0 (omega arith)))) h
put_word-bounded fs x z h (inr p) q =
    subst BoundedFrames (sym (put_word-found fs x z p.home p.stands))
    (bounded-put fs (pred (x / 64)) (pred (x % 64)) p.home z h (numbered-index fs (x / 64) p.home p.stands) (omega (arith, p.past)) q)

pub put-bounded : (l : Limits) (s : Stack) (x : ℕ) (z : ℤ) → Bounded l s → Target s.frames x → mag z < 2147483648 → Bounded l (with_frames s (put_word s.frames x z))
put-bounded l s x z h t q = bounded-with l s (put_word s.frames x z) (omega (arith, h.live, put_word-length s.frames x z)) (put_word-bounded s.frames x z h.each t q)

-- Calls

module _ (l : Limits) (most : l.activations ≤ 256) where
  pub pushed-bounded : (s : Stack) (f : Frame) → Bounded l s → length s.frames < l.activations → FrameBounded s.frames (length s.frames) f → Bounded l (with_frames s (s.frames ++ (f ∷ [])))
  pushed-bounded s f h r g = bounded-with l s (s.frames ++ (f ∷ [])) (omega (arith, snoc-length s.frames f)) (bounded-more s.frames f h.each g)

  pub call-bounded : (s : Stack) (p : ℕ) (xs : List ℕ) → Bounded l s → Each (Target s.frames) xs → After (Bounded l) (act l s (CL p xs))
  call-bounded s p xs h ts = call-cases l s (After (Bounded l)) (λ c. tt) p xs h (λ d e a r. body d e a r)
    where
      body : (d : Decl) → decl_of s.frames p ≡ some d → agree (formal_kinds (decl_formals d)) (map (kind_of s.frames) xs) ≡ true → length s.frames < l.activations → Bounded l (with_frames s (s.frames ++ (new_frame (decl_formals d) xs (decl_body d) (frame_number p) ∷ [])))
      body d e a r =
          let q = decl_of-frame s.frames p d e in
          let b = numbered-bounds s.frames (frame_number p) q.0 q.1 in
          let n : length xs ≡ length (decl_formals d) = agree-many (kind_of s.frames) (decl_formals d) xs a in
          pushed-bounded s (new_frame (decl_formals d) xs (decl_body d) (frame_number p)) h r
          (bounded-new s.frames (decl_formals d) xs (decl_body d) (frame_number p) (body-in-form d _ (decl_of-in-form s.frames p q.0 d h.each q.1 e)) n
          (λ i m. let k = agree-known (kind_of s.frames) 0 (formal_kinds (decl_formals d)) xs a i m in
          kind-points s.frames (get_or xs i 0) k.0 (each-get_d (Target s.frames) xs i 0 (inl refl) ts) k.1)
          b.1 (λ z. b.0) (omega arith))

  pub enter-bounded : (s : Stack) (b : Block) → Bounded l s → InForm b [] → After (Bounded l) (act_stmt l s (BK b))
  enter-bounded s b h t =
      enter-cases l s (After (Bounded l)) (λ c. tt) b
      (λ r. pushed-bounded s (new_frame [] [] b (length s.frames)) h r (bounded-new s.frames [] [] b (length s.frames) t refl (λ i m. absurd (not-suc-le-zero m)) (omega arith) (λ z. z) (omega arith)))

  -- An action with its names found

  pub action-bounded : (s : Stack) (a : Action) → Bounded l s → FormedAction a → JumpsToLabel s.frames (map_action (designates s.frames) a) → After (Bounded l) (act l s (map_action (designates s.frames) a))
  unfolding map_action FormedAction
  action-bounded s (CL p xs) h f j = call-bounded s (designates s.frames p) (map (designates s.frames) xs) h (targets xs)
    where
      targets : (xs : List ℕ) → Each (Target s.frames) (map (designates s.frames) xs)
      targets [] = tt
      targets (x ∷ xs) = (designates-target s.frames x h.each, targets xs)
  action-bounded s (GO x) h f j = go-bounded l s (designates s.frames x) h j
  action-bounded s (IF v x) h f j = if-cases l s (After (Bounded l)) (λ c. tt) (designates s.frames v) (designates s.frames x) h (go-bounded l s (designates s.frames x) h j)
  action-bounded s (KN t z) h f j = rw (stores l s (designates s.frames t) z) (put-bounded l s (designates s.frames t) z h (designates-target s.frames t h.each) f.value)
  action-bounded s (AR t o a b) h f j = compute-cases l s (After (Bounded l)) (λ c. tt) (designates s.frames t) o _ _ (λ z q. put-bounded l s (designates s.frames t) z h (designates-target s.frames t h.each) q)
  action-bounded s (AD x y) h f j = add-cases l s (After (Bounded l)) (λ c. tt) _ _ h (λ g m n a z u. bounded-table l s _ h)
  action-bounded s (RM x y) h f j = remove-cases l s (After (Bounded l)) (λ c. tt) _ _ (λ g m. bounded-table l s _ h)
  action-bounded s (QY t x y) h f j = ask-cases l s (After (Bounded l)) (λ c. tt) (designates s.frames t) _ _ (λ z q. put-bounded l s (designates s.frames t) z h (designates-target s.frames t h.each) q)

  pub stmt-bounded : (s : Stack) (x : Stmt) → Bounded l s → StmtInForm x → ((at : ℕ) (a : Action) → x ≡ DO at a → JumpsToLabel s.frames (map_action (designates s.frames) a)) → After (Bounded l) (act_stmt l s x)
  stmt-bounded s (BK b) h f j = enter-bounded s b h (block-in-form b f)
  stmt-bounded s (DO at a) h f j = rw (does l s at a) (action-bounded s a h (action-in-form at a f) (j at a refl))

  -- One step

  pub step-bounded : (s : Stack) → 1 ≤ length s.frames → Bounded l s → Lands s → After (λ s'. Bounded l (stepped s s')) (frame_step l s)
  step-bounded s n h lands =
      step-cases l s (After (λ s'. Bounded l (stepped s s'))) n (λ pre f e q. bounded-stepped l s (with_frames s pre) (left-bounded l s pre f h e))
      (λ pre f x e q. after_map (Bounded l) (λ s'. Bounded l (stepped s s')) (bounded-stepped l s) (act_stmt l (with_frames s (pre ++ (continue f (suc f.next) ∷ []))) x) (next pre f x e q))
    where
      landing : (pre : List Frame) (f : Frame) (at : ℕ) (a : Action) → s.frames ≡ pre ++ (f ∷ []) → frame_stmt f ≡ some (DO at a) → JumpsToLabel (pre ++ (continue f (suc f.next) ∷ [])) (map_action (designates (pre ++ (continue f (suc f.next) ∷ []))) a)
      landing pre f at a e q = jumps-continued pre f (suc f.next) a (subst (λ (fs : List Frame). JumpsToLabel fs (map_action (designates fs) a)) e (lands pre f at a e q))

      next : (pre : List Frame) (f : Frame) (x : Stmt) → s.frames ≡ pre ++ (f ∷ []) → frame_stmt f ≡ some x → After (Bounded l) (act_stmt l (with_frames s (pre ++ (continue f (suc f.next) ∷ []))) x)
      next pre f x e q =
          stmt-bounded (with_frames s (pre ++ (continue f (suc f.next) ∷ []))) x (advanced-bounded l s pre f x h e q) (next-in-form pre f x (subst BoundedFrames e h.each) q)
          (λ at a d. frames-are s (pre ++ (continue f (suc f.next) ∷ [])) a (landing pre f at a e (q ∙ ap some d)))

-- Where a run starts

pub start-bounded : (l : Limits) (t : Block) (table : Table) → 1 ≤ l.activations → Keeps t → Bounded l (frame_start t table)
unfolding frame_start
start-bounded l t table d k =
    record { live = d; each = bounded-more [] (new_frame [] [] t 0) (λ i f e. absurd (none-ne-some f e)) (bounded-new [] [] [] t 0 (program-in-form t k) refl (λ i m. absurd (not-suc-le-zero m)) (omega arith) (λ m. absurd (not-suc-le-zero m)) (omega arith)) }
