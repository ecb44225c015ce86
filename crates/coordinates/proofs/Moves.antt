-- What a step does to blocks and links. Read `Moved fs gs` as: gs are the frames fs up to some number, changed at most in their words and
-- statement numbers (a store, a return, a goto), or all of them with one frame entered. `step-moved`: a step that acts moves so.
use Prim.Native.Nat.{ℕ, zero, suc, pred, ◌-◌, ◌≤◌}
use native.Mathlib.Omega.{arith}
use Rattle.std.specs.Prelude.{Bool, true, false, List, [], ◌∷◌, ◌++◌, ◌≡◌, ltb, ℤ, take, set}
use Rattle.std.proofs.Math.Option.{Option, none, some, map, none-ne-some, some-injective}
use Rattle.std.proofs.Math.Path.{refl, sym, ap}
use Rattle.std.proofs.Common.{◌∙◌, subst, ltb-true, ltb-false, length-append}
use Rattle.std.proofs.Math.ListN.{length, get_elem?, length-set}
use Rattle.std.proofs.Math.Seq.{length-take-le}
use Rattle.language.specs.Basics.{last?, but_last}
use Rattle.language.specs.Text.{Action, CL, GO, IF, KN, AR, AD, RM, QY, Block, Decl, BK, DO, block_decls, block_stmts, label_index, decl_formals, decl_body}
use Rattle.language.specs.Machine.{Limits}
use Rattle.laws.specs.Lists.{but_last-take}
use Rattle.frames.specs.Frame.{Frame, Stack, acted, numbered, frame_number, place, decl_of, designates, with_frames, table_changed, continue, rewritten, put_word, new_frame, put, map_action, frame_stmt, advance_frame, frame_step}
use Rattle.frames.specs.Numbered.{numbered-low, numbered-high, numbered-append, numbered-seam, numbered-take, last-numbered}
use Rattle.frames.specs.Running.{After}
use Rattle.frame_laws.specs.Finding.{decl_of-found, decl_of-frame}
use Rattle.coordinates.specs.Enclosure.{Enclosing}
use Rattle.coordinates.specs.Chain.{enclosing, outline, SameOutlines}
use Rattle.coordinates.proofs.Along.{alike-some}
use Rattle.coordinates.proofs.Walk.{Moves, Steps, step_by}

-- The statement that comes next is a call of what is declared by d.
pub record Called (s : Stack) (d : Decl) : Type 0 where
  pub caller : Frame
  pub innermost : last? s.frames ≡ some caller
  pub at : ℕ
  pub name : ℕ
  pub arguments : List ℕ
  pub statement : frame_stmt caller ≡ some (DO at (CL name arguments))
  pub declared : let fs = (advance_frame s caller).frames in decl_of fs (designates fs name) ≡ some d

-- A frame entered on top of fs: for a block of the innermost frame's text, or for the body of a procedure that frame link declares.
pub data Entered (s : Stack) (f : Frame) : Type 0 where
  for-block : (g : Frame) (i : ℕ) → f.link ≡ length s.frames → numbered s.frames f.link ≡ some g → get_elem? (block_stmts g.text) i ≡ some (BK f.text) → f.formals ≡ [] → Entered s f
  for-body : (g : Frame) (i : ℕ) (d : Decl) → numbered s.frames f.link ≡ some g → get_elem? (block_decls g.text) i ≡ some d → f.formals ≡ decl_formals d → f.text ≡ decl_body d → Called s d → Entered s f

pub data Moved (s s' : Stack) : Type 0 where
  kept : length s'.frames ≤ length s.frames → SameOutlines (length s'.frames) s.frames s'.frames → Moved s s'
  entered : (f : Frame) → length s'.frames ≡ suc (length s.frames) → SameOutlines (length s.frames) s.frames s'.frames → numbered s'.frames (suc (length s.frames)) ≡ some f → Entered s f → Moved s s'

-- Frames that are alike

pub alike-append : (fs gs : List Frame) → SameOutlines (length fs) fs (fs ++ gs)
alike-append fs gs i h = sym (ap (map outline) (numbered-append fs gs i h))

pub alike-take : (n : ℕ) (fs : List Frame) → SameOutlines n fs (take n fs)
alike-take n fs i h = sym (ap (map outline) (numbered-take n fs i h))

pub cut-length : (fs : List Frame) (n : ℕ) (f g : Frame) → numbered fs n ≡ some f → length (take (pred n) fs ++ (g ∷ [])) ≡ n
cut-length fs n f g e =
    let l : 1 ≤ n = numbered-low fs n f e in
    let h : n ≤ length fs = numbered-high fs n f e in
    let k : length (take (pred n) fs) ≡ pred n = length-take-le (pred n) fs (omega arith) in
    length-append (take (pred n) fs) (g ∷ []) ∙ omega arith

-- the frames below number n, and in its place another that agrees with it in what `h` reads
pub cut_at : {B : Type 0} (h : Frame → B) (fs : List Frame) (n : ℕ) (f g : Frame) → numbered fs n ≡ some f → h g ≡ h f
    → (i : ℕ) → i ≤ n → map h (numbered fs i) ≡ map h (numbered (take (pred n) fs ++ (g ∷ [])) i)
cut_at {B} h fs n f g e o i p = go (ltb i n) refl
  where
    l : 1 ≤ n
    l = numbered-low fs n f e

    k : length (take (pred n) fs) ≡ pred n
    k = length-take-le (pred n) fs (omega (arith, l, numbered-high fs n f e))

    go : (b : Bool) → ltb i n ≡ b → map h (numbered fs i) ≡ map h (numbered (take (pred n) fs ++ (g ∷ [])) i)
    go true q =
        let j : i ≤ pred n = omega (arith, ltb-true i n q) in
        ap (map h) (sym (numbered-append (take (pred n) fs) (g ∷ []) i (omega (arith, k)) ∙ numbered-take (pred n) fs i j))
    go false q =
        let j : i ≡ n = omega (arith, ltb-false i n q) in
        let m : suc (length (take (pred n) fs)) ≡ i = omega (arith, k, l) in
        ap (map h) (ap (numbered fs) j ∙ e) ∙ ap {B = Option B} some (sym o)
        ∙ sym (ap (map h) (ap (numbered (take (pred n) fs ++ (g ∷ []))) (sym m) ∙ numbered-seam (take (pred n) fs) g))

pub alike-cut : (fs : List Frame) (n : ℕ) (f g : Frame) → numbered fs n ≡ some f → outline g ≡ outline f → SameOutlines n fs (take (pred n) fs ++ (g ∷ []))
alike-cut fs n f g e o = cut_at outline fs n f g e o

-- a frame put in the place of one that it agrees with
place_set : {B : Type 0} (h : Frame → B) (fs : List Frame) (n : ℕ) (f g : Frame) → get_elem? fs n ≡ some f → h g ≡ h f → (i : ℕ) → map h (get_elem? fs i) ≡ map h (get_elem? (set fs n g) i)
place_set h [] n f g e o i = refl
place_set {B} h (x ∷ fs) zero f g e o zero = ap {B = Option B} some (ap h (some-injective x f e) ∙ sym o)
place_set h (x ∷ fs) zero f g e o (suc i) = refl
place_set h (x ∷ fs) (suc n) f g e o zero = refl
place_set h (x ∷ fs) (suc n) f g e o (suc i) = place_set h fs n f g e o i

pub set_at : {B : Type 0} (h : Frame → B) (fs : List Frame) (n : ℕ) (f g : Frame) → numbered fs n ≡ some f → h g ≡ h f → (i : ℕ) → map h (numbered fs i) ≡ map h (numbered (set fs (pred n) g) i)
unfolding numbered
set_at h fs n f g e o zero = refl
set_at h fs zero f g e o (suc i) = absurd (none-ne-some f e)
set_at h fs (suc n) f g e o (suc i) = place_set h fs n f g e o i

pub alike_set : (fs : List Frame) (n : ℕ) (f g : Frame) → numbered fs n ≡ some f → outline g ≡ outline f → (b : ℕ) → SameOutlines b fs (set fs (pred n) g)
alike_set fs n f g e o b i h = set_at outline fs n f g e o i

-- a store, and a frame's next statement

pub outline-continue : (f : Frame) (n : ℕ) → outline (continue f n) ≡ outline f
unfolding outline enclosing continue
outline-continue f n = refl

pub outline-rewritten : (f : Frame) (ws : List ℤ) → outline (rewritten f ws) ≡ outline f
unfolding outline enclosing rewritten
outline-rewritten f ws = refl

-- Each move

-- stacks that differ at most in words, statement numbers, table and steps
pub record SameFrames (s u : Stack) : Type 0 where
  pub count : length u.frames ≡ length s.frames
  pub alike : SameOutlines (length s.frames) s.frames u.frames

pub same_refl : (s : Stack) → SameFrames s s
same_refl s = record { count = refl; alike = λ i h. refl }

pub declared-in : (fs : List Frame) (x : ℕ) (d : Decl) → decl_of fs x ≡ some d → (g : Frame) × (numbered fs (frame_number x) ≡ some g) × (get_elem? (block_decls g.text) (place x - length g.formals) ≡ some d)
declared-in fs x d e = let f = decl_of-frame fs x d e in (f.0, f.1, sym (decl_of-found fs x f.0 f.1) ∙ e)

module _ (s u : Stack) (same : SameFrames s u) where
  same-moved : (v : Stack) → SameFrames u v → Moved s v
  same-moved v w =
      let e : length v.frames ≡ length s.frames = w.count ∙ same.count in
      kept (omega arith) (λ i h. same.alike i (omega arith) ∙ w.alike i (omega arith))

  cut_moved : (n : ℕ) (f g : Frame) → numbered u.frames n ≡ some f → outline g ≡ outline f → Moved s (with_frames u (take (pred n) u.frames ++ (g ∷ [])))
  unfolding with_frames
  cut_moved n f g e o =
      let k = cut-length u.frames n f g e in
      let h = numbered-high u.frames n f e in
      let c = same.count in
      kept (omega arith) (λ i p. same.alike i (omega arith) ∙ alike-cut u.frames n f g e o i (omega arith))

  put_same : (x : ℕ) (z : ℤ) → SameFrames u (put u x z)
  unfolding put with_frames put_word
  put_same x z = go (numbered u.frames (frame_number x)) refl
    where
      go : (o : Option Frame) → numbered u.frames (frame_number x) ≡ o → SameFrames u (put u x z)
      go none e = rw (put, put_word, e) (same_refl u)
      go (some f) e = rw (put, put_word, e) (record { count = length-set u.frames (pred (frame_number x)) _; alike = alike_set u.frames (frame_number x) f _ e (outline-rewritten f _) (length u.frames) })

  -- one frame more
  push-moved : (f : Frame) → Entered s f → Moved s (with_frames u (u.frames ++ (f ∷ [])))
  unfolding with_frames
  push-moved f h =
      let c : length u.frames ≡ length s.frames = same.count in
      entered f (length-append u.frames (f ∷ []) ∙ omega arith)
      (λ i p. same.alike i (omega arith) ∙ alike-append u.frames (f ∷ []) i (omega arith))
      (ap (λ n. numbered (u.frames ++ (f ∷ [])) (suc n)) (sym c) ∙ numbered-seam u.frames f) h

  body-entered : (p : ℕ) (xs : List ℕ) (d : Decl) → decl_of u.frames p ≡ some d → Called s d → Entered s (new_frame (decl_formals d) xs (decl_body d) (frame_number p))
  unfolding new_frame outline enclosing
  body-entered p xs d e k =
      let g = declared-in u.frames p d e in
      let c : length u.frames ≡ length s.frames = same.count in
      let n : frame_number p ≤ length u.frames = numbered-high u.frames (frame_number p) g.0 g.1 in
      let h = alike-some u.frames s.frames (frame_number p) (λ i j. sym (same.alike i (omega arith))) (frame_number p) g.0 (omega arith) g.1 in
      for-body h.0 (place p - length g.0.formals) d h.1 (ap (λ (o : Enclosing × ℕ). get_elem? (block_decls o.0.text) (place p - length g.0.formals)) h.2 ∙ g.2) refl refl k

  action-moves : (a : Action) → ((p : ℕ) (xs : List ℕ) (d : Decl) → a ≡ CL p xs → decl_of u.frames p ≡ some d → Called s d) → Moves (Moved s) u a
  unfolding table_changed
  action-moves a h =
      record {
        stays = same-moved u (same_refl u);
        tabled = λ t. same-moved (table_changed u t) (record { count = refl; alike = λ i h. refl });
        stored = λ x z r. same-moved (put u x z) (put_same x z);
        jumped = λ x f d e q. cut_moved (frame_number x) f (continue f (label_index d)) e (outline-continue f (label_index d));
        called = λ p xs d r e q. push-moved (new_frame (decl_formals d) xs (decl_body d) (frame_number p)) (body-entered p xs d e (h p xs d r e));
      }

-- The step

abbrev pub IsCall : Action → Type 0
IsCall (CL p xs) = Unit {0}
IsCall (GO l) = ⊥
IsCall (IF v l) = ⊥
IsCall (KN t z) = ⊥
IsCall (AR t o a b) = ⊥
IsCall (AD g m) = ⊥
IsCall (RM g m) = ⊥
IsCall (QY t g m) = ⊥

pub no_call : {a : Action} {p : ℕ} {xs : List ℕ} → a ≡ CL p xs → IsCall a
no_call r = subst IsCall (sym r) tt

module _ (s : Stack) (f : Frame) (e : last? s.frames ≡ some f) where
  last-number : numbered s.frames (length s.frames) ≡ some f
  last-number = sym (last-numbered s.frames) ∙ e

  advance-same : SameFrames s (advance_frame s f)
  unfolding advance_frame with_frames
  advance-same =
      let g = continue f (suc f.next) in
      rw but_last-take (record { count = cut-length s.frames (length s.frames) f g last-number; alike = alike-cut s.frames (length s.frames) f g last-number (outline-continue f (suc f.next)) })

  leave-moved : Moved s (with_frames s (but_last s.frames))
  unfolding with_frames
  leave-moved =
      let h : pred (length s.frames) ≤ length s.frames = omega arith in
      let k = length-take-le (pred (length s.frames)) s.frames h in
      rw but_last-take (kept (omega arith) (λ i p. alike-take (pred (length s.frames)) s.frames i (omega arith)))

  block-entered : (b : Block) → frame_stmt f ≡ some (BK b) → Entered s (new_frame [] [] b (length (advance_frame s f).frames))
  unfolding new_frame frame_stmt
  block-entered b q =
      let c = advance-same.count in
      for-block f (pred f.next) c (ap (numbered s.frames) c ∙ last-number) q refl

  -- the action that names have been put into is a call only where the statement is one
  call-called : (at : ℕ) (a : Action) → frame_stmt f ≡ some (DO at a) → (p : ℕ) (xs : List ℕ) (d : Decl) → map_action (designates (advance_frame s f).frames) a ≡ CL p xs → decl_of (advance_frame s f).frames p ≡ some d → Called s d
  unfolding map_action
  call-called at (CL n ys) q p xs d r w =
      let fs = (advance_frame s f).frames in
      let c : designates fs n ≡ p = cc in
      record { caller = f; innermost = e; at = at; name = n; arguments = ys; statement = q; declared = ap (decl_of fs) c ∙ w }
  call-called at (GO x) q p xs d r w = absurd (no_call r)
  call-called at (IF v x) q p xs d r w = absurd (no_call r)
  call-called at (KN t z) q p xs d r w = absurd (no_call r)
  call-called at (AR t o y z) q p xs d r w = absurd (no_call r)
  call-called at (AD g m) q p xs d r w = absurd (no_call r)
  call-called at (RM g m) q p xs d r w = absurd (no_call r)
  call-called at (QY t g m) q p xs d r w = absurd (no_call r)

step-moves : (s : Stack) → Steps (Moved s) s
step-moves s =
    record {
      over = λ e. same-moved s s (same_refl s) s (same_refl s);
      returned = λ f e q. leave-moved s f e;
      opened = λ f b e q. push-moved s (advance_frame s f) (advance-same s f e) (new_frame [] [] b (length (advance_frame s f).frames)) (block-entered s f e b q);
      done = λ f at a e q. action-moves s (advance_frame s f) (advance-same s f e) (map_action (designates (advance_frame s f).frames) a) (call-called s f e at a q);
    }

pub step-moved : (l : Limits) (s s' : Stack) → frame_step l s ≡ acted s' → Moved s s'
step-moved l s s' e = subst (After (Moved s)) e (step_by (Moved s) s l (step-moves s))
