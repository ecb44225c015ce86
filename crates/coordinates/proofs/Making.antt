-- Frames stay as made. `Made` reads of each frame how it is wired and which statement it has passed last, and no step changes either in a frame that
-- is left below the innermost one. So a step keeps it (`step-made`): a frame just entered is what the statement done makes. A run begins so
-- (`start-made`).
use Prim.Native.Nat.{ℕ, zero, suc, pred, ◌≤◌, ◌<◌}
use Rattle.std.proofs.Common.{arith, sym, ◌∙◌, subst, leb-true, leb-false, length-take-le, get_or-take}
use mathlib.Core.List.{List, [], ◌∷◌, ◌++◌, map}
use Rattle.std.proofs.Math.Option
use Rattle.std.proofs.Math.Option.{Option, none, some, map-eq-none_iff, map-eq-some_iff, some-injective}
use Rattle.std.specs.Prelude.{◌≡◌, leb, ℤ, pos, length, take, set, get_or}
use Rattle.std.proofs.Math.Path.{refl, ap, ap₂, fun_ext}
use Rattle.std.proofs.Math.ListN.{get_elem?}
use Rattle.std.proofs.lemmas.List.{take-append-le}
use Rattle.std.proofs.Math.Seq.{take-append_seam}
use Rattle.language.specs.Basics.{last?, but_last}
use Rattle.language.specs.Text.{Kind, variable, Action, CL, GO, IF, KN, AR, AD, RM, QY, Block, Decl, Stmt, BK, DO, block_stmts, decl_formals, decl_body, label_index}
use Rattle.language.specs.Table.{Table}
use Rattle.language.specs.Machine.{Limits}
use Rattle.laws.specs.Tests.{split, by-lookup, none≢some}
use Rattle.laws.specs.Lists.{last_snoc, snoc-length, but_last-take}
use Rattle.grammar.specs.Rules.{Keeps}
use Rattle.frames.specs.Frame.{Frame, Stack, acted, numbered, designates, decl_of, frame_number, place, continue, rewritten, put_word, put, new_frame, with_frames, table_changed, map_action, advance_frame, frame_stmt, frame_step, frame_start}
use Rattle.frames.specs.Numbered.{numbered-suc, numbered-high, numbered-append, numbered-seam, numbered-take, numbered-index, last-numbered}
use Rattle.frames.specs.Running.{After}
use Rattle.frame_laws.specs.Bounds.{BoundedFrames}
use Rattle.frame_laws.specs.Finding.{put_word-found, put_word-none}
use Rattle.frame_laws.specs.Likeness.{Like, LikeFrames, designates-like, decl_of-like}
use Rattle.coordinates.specs.Enclosure.{Enclosing}
use Rattle.coordinates.specs.Chain.{enclosing, enclosure_of, outline, Chained}
use Rattle.coordinates.proofs.Walk.{Moves, Steps, step_by}
use Rattle.coordinates.proofs.Moves.{cut_at, cut-length, set_at, no_call}
use Rattle.coordinates.proofs.Visible.{scope_of}
use Rattle.coordinates.proofs.Statements.{advanced}
use Rattle.coordinates.proofs.Designated.{Designated, Wired, statement-scoped}
use Rattle.coordinates.specs.Made.{wiring, passed, body_of, action_makes, stmt_makes, makes, Made}
use Rattle.coordinates.proofs.Wiring.{Rewired, wiring-rewritten, target_found, advanced-found}

-- the same statement passed last in each frame below number b
abbrev pub SamePassed : ℕ → List Frame → List Frame → Type 0
SamePassed b fs gs = (i : ℕ) → i < b → Option.map passed (numbered fs i) ≡ Option.map passed (numbered gs i)

-- What a statement makes depends on how the frames are wired

wired-like : (f g : Frame) → wiring f ≡ wiring g → Like f g
unfolding wiring outline enclosing
wired-like f g e =
    let l : length g.formals ≡ length f.formals = ap (λ (w : (Enclosing × ℕ) × List ℤ). length w.0.0.formals) (sym e) in
    record {
      formals = ap (λ (w : (Enclosing × ℕ) × List ℤ). w.0.0.formals) (sym e);
      text = ap (λ (w : (Enclosing × ℕ) × List ℤ). w.0.0.text) (sym e);
      link = ap (λ (w : (Enclosing × ℕ) × List ℤ). w.0.1) (sym e);
      handed = λ i h. sym (get_or-take (length g.formals) g.words i (pos 0) (omega arith)) ∙ ap (λ (w : (Enclosing × ℕ) × List ℤ). get_or w.1 i (pos 0)) (sym e) ∙ get_or-take (length f.formals) f.words i (pos 0) h;
    }

rewired-like : (fs gs : List Frame) → length gs ≡ length fs → Rewired (length fs) fs gs → LikeFrames fs gs
rewired-like fs gs l a =
    record {
      count = l;
      each = λ k f e.
          let n = numbered-suc fs k ∙ e in
          let g = (map-eq-some_iff wiring (numbered gs (suc k))).0 (sym (a (suc k) (numbered-high fs (suc k) f n)) ∙ ap (Option.map wiring) n) in
          (g.0, sym (numbered-suc gs k) ∙ g.1, wired-like f g.0 (sym g.2));
    }

module _ (fs gs : List Frame) (like : LikeFrames fs gs) where
  body-like : (p : ℕ) (xs : List ℕ) → body_of gs p xs ≡ body_of fs p xs
  unfolding body_of
  body-like p xs =
      ap₂ (λ (r : ℕ → ℕ) (d : ℕ → Option Decl). elim (d (r p)) as (λ o. Option Frame) [ none ↦ none | some x ↦ some (new_frame (decl_formals x) (map r xs) (decl_body x) (frame_number (r p))) ])
      (fun_ext (designates-like fs gs like)) (fun_ext (decl_of-like fs gs like))

  action-like : (a : Action) → action_makes gs a ≡ action_makes fs a
  unfolding action_makes
  action-like (CL p xs) = body-like p xs
  action-like (GO l) = refl
  action-like (IF v l) = refl
  action-like (KN t z) = refl
  action-like (AR t o a b) = refl
  action-like (AD g m) = refl
  action-like (RM g m) = refl
  action-like (QY t g m) = refl

  statement-like : (x : Stmt) → stmt_makes gs x ≡ stmt_makes fs x
  unfolding stmt_makes
  statement-like (BK b) = ap (λ n. some (new_frame [] [] b n)) like.count
  statement-like (DO at a) = action-like a

makes_none : (fs : List Frame) → last? fs ≡ none → makes fs ≡ none
unfolding makes
makes_none fs e = rw (makes, e)

pub makes-nothing : (fs : List Frame) (f : Frame) → last? fs ≡ some f → passed f ≡ none → makes fs ≡ none
unfolding makes
makes-nothing fs f e q = rw (makes, e, q)

pub makes-by : (fs : List Frame) (f : Frame) (x : Stmt) → last? fs ≡ some f → passed f ≡ some x → makes fs ≡ stmt_makes fs x
unfolding makes
makes-by fs f x e q = rw (makes, e, q)

makes-like : (fs gs : List Frame) → LikeFrames fs gs → Option.map passed (last? fs) ≡ Option.map passed (last? gs) → makes gs ≡ makes fs
makes-like fs gs like p =
    by-lookup (last? fs) (λ e. makes_none gs ((map-eq-none_iff passed (last? gs)).0 (sym p ∙ ap (Option.map passed) e)) ∙ sym (makes_none fs e))
    (λ f e. let g = (map-eq-some_iff passed (last? gs)).0 (sym p ∙ ap (Option.map passed) e) in
    by-lookup (passed f) (λ q. makes-nothing gs g.0 g.1 (g.2 ∙ q) ∙ sym (makes-nothing fs f e q))
    (λ x q. makes-by gs g.0 x g.1 (g.2 ∙ q) ∙ statement-like fs gs like x ∙ sym (makes-by fs f x e q)))

-- Frames kept, and one more

module _ (fs gs : List Frame) (b : ℕ) (a : Rewired b fs gs) (p : SamePassed b fs gs) where
  module _ (k : ℕ) (h : k < b) (f : k ≤ length fs) (g : k ≤ length gs) where
    taken-like : LikeFrames (take k fs) (take k gs)
    taken-like =
        let m = length-take-le k fs f in
        let n = length-take-le k gs g in
        rewired-like (take k fs) (take k gs) (omega arith)
        (λ i l. ap (Option.map wiring) (numbered-take k fs i (omega arith)) ∙ a i (omega arith) ∙ sym (ap (Option.map wiring) (numbered-take k gs i (omega arith))))

    makes-taken : makes (take k gs) ≡ makes (take k fs)
    makes-taken =
        let last : (xs : List Frame) → k ≤ length xs → last? (take k xs) ≡ numbered xs k = λ xs l. last-numbered (take k xs) ∙ ap (numbered (take k xs)) (length-take-le k xs l) ∙ numbered-take k xs k (omega arith) in
        makes-like (take k fs) (take k gs) taken-like (ap (Option.map passed) (last fs f) ∙ p k h ∙ sym (ap (Option.map passed) (last gs g)))

made_kept : (fs gs : List Frame) → Rewired (length gs) fs gs → SamePassed (length gs) fs gs → Made fs → Made gs
made_kept fs gs a p made k g h n =
    let l = numbered-high gs (suc k) g n in
    let f = (map-eq-some_iff wiring (numbered fs (suc k))).0 (a (suc k) l ∙ ap (Option.map wiring) n) in
    let m = numbered-high fs (suc k) f.0 f.1 in
    ap (Option.map wiring) (makes-taken fs gs (length gs) a p k (omega arith) (omega arith) (omega arith)) ∙ made k f.0 h f.1 ∙ ap {B = Option ((Enclosing × ℕ) × List ℤ)} some f.2

made-entered : (fs : List Frame) (g : Frame) → Option.map wiring (makes fs) ≡ some (wiring g) → Made fs → Made (fs ++ (g ∷ []))
made-entered fs g e made k f h n =
    split (leb (suc k) (length fs))
    (λ t. let l = leb-true (suc k) (length fs) t in
    ap (λ (l : List Frame). Option.map wiring (makes l)) (take-append-le k fs (g ∷ []) (omega arith)) ∙ made k f h (sym (numbered-append fs (g ∷ []) (suc k) l) ∙ n))
    (λ t. let l = leb-false (suc k) (length fs) t in
    let c = snoc-length fs g in
    let j : k ≡ length fs = omega (arith, numbered-high (fs ++ (g ∷ [])) (suc k) f n) in
    let same : g ≡ f = some-injective g f (sym (numbered-seam fs g) ∙ ap (λ i. numbered (fs ++ (g ∷ [])) (suc i)) (sym j) ∙ n) in
    ap (λ i. Option.map wiring (makes (take i (fs ++ (g ∷ []))))) j ∙ ap (λ (l : List Frame). Option.map wiring (makes l)) (take-append_seam fs (g ∷ [])) ∙ e
    ∙ ap (λ (x : Frame). some (wiring x)) same)

-- What each move leaves of the statements passed

pub passed-append : (fs gs : List Frame) → SamePassed (suc (length fs)) fs (fs ++ gs)
passed-append fs gs i h = sym (ap (Option.map passed) (numbered-append fs gs i (omega arith)))

pub passed-take : (n : ℕ) (fs : List Frame) → SamePassed (suc n) fs (take n fs)
passed-take n fs i h = sym (ap (Option.map passed) (numbered-take n fs i (omega arith)))

pub passed-cut : (fs : List Frame) (n : ℕ) (f g : Frame) → numbered fs n ≡ some f → SamePassed n fs (take (pred n) fs ++ (g ∷ []))
passed-cut fs n f g e i h =
    let l = length-take-le (pred n) fs (omega (arith, numbered-high fs n f e)) in
    sym (ap (Option.map passed) (numbered-append (take (pred n) fs) (g ∷ []) i (omega arith) ∙ numbered-take (pred n) fs i (omega arith)))

pub passed-put : (fs : List Frame) (x : ℕ) (z : ℤ) (b : ℕ) → SamePassed b fs (put_word fs x z)
unfolding passed rewritten
passed-put fs x z b i h =
    by-lookup (numbered fs (frame_number x)) (λ e. rw (put_word-none fs x z e) refl)
    (λ f e. rw (put_word-found fs x z f e) (set_at passed fs (frame_number x) f (rewritten f (set f.words (place x) z)) e refl i))

-- Each move keeps the frames made

pub start-made : (t : Block) (tab : Table) → Made (frame_start t tab).frames
unfolding frame_start
start-made t tab k f h n = let l = numbered-high (new_frame [] [] t 0 ∷ []) (suc k) f n in absurd (omega arith)

jumped-made : (fs : List Frame) (n : ℕ) (f : Frame) (i : ℕ) → numbered fs n ≡ some f → Made fs → Made (take (pred n) fs ++ (continue f i ∷ []))
unfolding wiring continue outline enclosing
jumped-made fs n f i e made =
    let l = cut-length fs n f (continue f i) e in
    made_kept fs (take (pred n) fs ++ (continue f i ∷ [])) (λ j h. cut_at wiring fs n f (continue f i) e refl j (omega arith)) (λ j h. passed-cut fs n f (continue f i) e j (omega arith)) made

left-made : (fs : List Frame) → Made fs → Made (but_last fs)
left-made fs made =
    let n = pred (length fs) in
    let l = length-take-le n fs (omega arith) in
    rw but_last-take (made_kept fs (take n fs) (λ i h. sym (ap (Option.map wiring) (numbered-take n fs i (omega arith)))) (λ i h. passed-take n fs i (omega arith)) made)

advanced-made : (fs : List Frame) (f : Frame) (i : ℕ) → last? fs ≡ some f → Made fs → Made (advanced fs f i)
advanced-made fs f i e made = rw but_last-take (jumped-made fs (length fs) f i (sym (last-numbered fs) ∙ e) made)

put-made : (u : Stack) (x : ℕ) (z : ℤ) (k : Kind) → Designated u.frames x k → Made u.frames → Made (put u x z).frames
unfolding put with_frames
put-made u x z k d made =
    let f = d.home in
    let g = rewritten f (set f.words (place x) z) in
    made_kept u.frames (put_word u.frames x z)
    (λ i h. rw (put_word-found u.frames x z f d.stands) (set_at wiring u.frames (frame_number x) f g d.stands (wiring-rewritten f (place x) z d.past) i))
    (passed-put u.frames x z (length (put_word u.frames x z))) made

-- The step: the frame entered is what the statement just passed makes

pub passed-next : (f : Frame) → 1 ≤ f.next → passed (continue f (suc f.next)) ≡ frame_stmt f
unfolding passed continue frame_stmt
passed-next f low = go f.next low
  where
    go : (n : ℕ) → 1 ≤ n → elim n [ zero ↦ none | suc i ↦ get_elem? (block_stmts f.text) i ] ≡ get_elem? (block_stmts f.text) (pred n)
    go zero h = absurd (omega arith)
    go (suc n) h = refl

pub passed-there : (f : Frame) (x : Stmt) → passed f ≡ some x → get_elem? (block_stmts f.text) (pred (pred f.next)) ≡ some x
unfolding passed
passed-there f x q = go (pred f.next) q
  where
    go : (n : ℕ) → elim n [ zero ↦ none | suc i ↦ get_elem? (block_stmts f.text) i ] ≡ some x → get_elem? (block_stmts f.text) (pred n) ≡ some x
    go zero h = none≢some h
    go (suc n) h = h

module _ (fs : List Frame) (f : Frame) (x : Stmt) (e : last? fs ≡ some f) (low : 1 ≤ f.next) (q : frame_stmt f ≡ some x) (made : Made fs) where
  abbrev on : List Frame
  on = advanced fs f (suc f.next)

  entered-made : (g : Frame) → stmt_makes on x ≡ some g → Made (on ++ (g ∷ []))
  entered-made g m =
      made-entered on g (ap (Option.map wiring) (makes-by on (continue f (suc f.next)) x (last_snoc (but_last fs) (continue f (suc f.next))) (passed-next f low ∙ q) ∙ m)) (advanced-made fs f (suc f.next) e made)

makes-body : (fs : List Frame) (at : ℕ) (a : Action) (p : ℕ) (xs : List ℕ) (d : Decl) → map_action (designates fs) a ≡ CL p xs → decl_of fs p ≡ some d → stmt_makes fs (DO at a) ≡ some (new_frame (decl_formals d) xs (decl_body d) (frame_number p))
unfolding map_action stmt_makes action_makes body_of
makes-body fs at (CL n ys) p xs d r w =
    let c : designates fs n ≡ p = cc in
    let i : map (designates fs) ys ≡ xs = cc in
    rw (body_of, ap (decl_of fs) c ∙ w, c, i)
makes-body fs at (GO l) p xs d r w = absurd (no_call r)
makes-body fs at (IF v l) p xs d r w = absurd (no_call r)
makes-body fs at (KN t z) p xs d r w = absurd (no_call r)
makes-body fs at (AR t o a b) p xs d r w = absurd (no_call r)
makes-body fs at (AD g m) p xs d r w = absurd (no_call r)
makes-body fs at (RM g m) p xs d r w = absurd (no_call r)
makes-body fs at (QY t g m) p xs d r w = absurd (no_call r)

module _ (t : Block) (keeps : Keeps t) (s : Stack) (chain : Chained t s.frames) (wired : Wired s.frames) (each : BoundedFrames s.frames) (made : Made s.frames) where
  low : (f : Frame) → last? s.frames ≡ some f → 1 ≤ f.next
  low f e = (each (pred (length s.frames)) f (numbered-index s.frames (length s.frames) f (sym (last-numbered s.frames) ∙ e))).next-first

  action-made : (f : Frame) (at : ℕ) (a : Action) → last? s.frames ≡ some f → frame_stmt f ≡ some (DO at a) → let u = advance_frame s f in Moves (λ v. Made v.frames) u (map_action (designates u.frames) a)
  unfolding advance_frame with_frames table_changed
  action-made f at a e q =
      let i = suc f.next in
      let u = advance_frame s f in
      let fs = advanced s.frames f i in
      let m = advanced-made s.frames f i e made in
      let sc = scope_of (enclosure_of s.frames (length s.frames)) in
      let scoped = statement-scoped t keeps s.frames chain f at a e q in
      record {
        stays = m;
        tabled = λ tab. m;
        stored = λ x z r. put-made u x z variable (target_found fs sc (designates fs) (advanced-found t keeps s chain wired f e i) a scoped x r) m;
        jumped = λ x g d n c. jumped-made fs (frame_number x) g (label_index d) n m;
        called = λ p xs d r n c. entered-made s.frames f (DO at a) e (low f e) q made (new_frame (decl_formals d) xs (decl_body d) (frame_number p)) (makes-body fs at a p xs d r n);
      }

  step-makes : Steps (λ v. Made v.frames) s
  unfolding with_frames advance_frame stmt_makes
  step-makes =
      record {
        over = λ e. made;
        returned = λ f e q. left-made s.frames made;
        opened = λ f b e q. entered-made s.frames f (BK b) e (low f e) q made (new_frame [] [] b _) refl;
        done = action-made;
      }

pub step-made : (t : Block) → Keeps t → (l : Limits) (s s' : Stack) → frame_step l s ≡ acted s' → Chained t s.frames → Wired s.frames → BoundedFrames s.frames → Made s.frames → Made s'.frames
step-made t keeps l s s' e chain wired each made = subst (After (λ v. Made v.frames)) e (step_by (λ v. Made v.frames) s l (step-makes t keeps s chain wired each made))
