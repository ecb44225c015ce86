-- The words of formals stay right: where the frames are linked as the text says (`Chained`) and every formal's word designates an instance of
-- its kind (`Wired`), a step of a script that keeps the rules keeps both (`step-wired`, `step-linked`). A run begins so (`start-wired`).
use Prim.Native.Nat.{ℕ, suc, pred, ◌≤◌, ◌<◌}
use Rattle.std.proofs.Common.{arith, sym, ap, ◌∙◌, length-append, length-take-le}
use Rattle.std.specs.Prelude.{true, ◌≡◌, ℤ, pos, length, take, set}
use mathlib.Core.List.{List, [], ◌∷◌, ◌++◌, map}
use Rattle.std.proofs.Math.Option
use Rattle.std.proofs.Math.Option.{Option, none, some, map-eq-some_iff, none-ne-some, some-injective}
use Rattle.std.proofs.Math.Path.{refl, subst}
use Rattle.std.proofs.Math.ListN.{get_elem?}
use Rattle.std.proofs.lemmas.List.{length-map, take-set-le}
use Rattle.language.specs.Basics.{last?, but_last, lookup}
use Rattle.language.specs.Text.{Kind, variable, Formal, Action, CL, GO, IF, KN, AR, AD, RM, QY, Block, DO, decl_kind, decl_formals, decl_body, formal_kinds, label_index}
use Rattle.language.specs.Scope.{Meaning, Scope, agree}
use Rattle.language.specs.Table.{Table}
use Rattle.language.specs.Machine.{Limits}
use Rattle.laws.specs.Kinds.{agree_at}
use Rattle.laws.specs.Each.{Each, each_at}
use Rattle.laws.specs.Lists.{get_elem-bound, get_elem_take, get_elem-append, get_elem?-map, but_last-take}
use Rattle.grammar.specs.Rules.{Visible, Is, ScopedAction, Keeps}
use Rattle.frames.specs.Frame.{Frame, Stack, acted, numbered, designates, frame_number, place, kind_of, continue, rewritten, put, new_frame, zero_words, with_frames, table_changed, map_action, advance_frame, frame_stmt, frame_step, frame_start}
use Rattle.frames.specs.Numbered.{numbered-low, numbered-high, numbered-append, numbered-seam, numbered-take}
use Rattle.frames.specs.Running.{After}
use Rattle.frame_laws.specs.Finding.{kind_of-found, put_word-found}
use Rattle.coordinates.specs.Enclosure.{Enclosing}
use Rattle.coordinates.specs.Chain.{enclosing, enclosure_of, outline, SameOutlines, Chained}
use Rattle.coordinates.proofs.Along.{alike-some}
use Rattle.coordinates.proofs.Walk.{target_of, Moves, Steps, step_by}
use Rattle.coordinates.proofs.Moves.{cut_at, cut-length, set_at, no_call}
use Rattle.coordinates.proofs.Kept.{by-frame, step-chained}
use Rattle.coordinates.proofs.Visible.{scope_of}
use Rattle.coordinates.proofs.Statements.{advanced, advanced-at, advanced-length, declared-alike, designates-advanced}
use Rattle.coordinates.proofs.Designated.{Designated, Wire, Wired, statement-scoped, name-designated, calls-procedures}
use Rattle.coordinates.specs.Made.{wiring}

-- frames that agree so far in what a frame was made with
abbrev pub Rewired : ℕ → List Frame → List Frame → Type 0
Rewired b fs gs = (i : ℕ) → i ≤ b → Option.map wiring (numbered fs i) ≡ Option.map wiring (numbered gs i)

rewired-alike : (fs gs : List Frame) (b : ℕ) → Rewired b fs gs → SameOutlines b fs gs
unfolding wiring
rewired-alike fs gs b a i h = sym (through (numbered fs i)) ∙ ap (Option.map (λ (w : (Enclosing × ℕ) × List ℤ). w.0)) (a i h) ∙ through (numbered gs i)
  where
    through : (o : Option Frame) → Option.map (λ (w : (Enclosing × ℕ) × List ℤ). w.0) (Option.map wiring o) ≡ Option.map outline o
    through none = refl
    through (some f) = refl

designated-alike : (fs gs : List Frame) (b : ℕ) → SameOutlines b fs gs → (x : ℕ) (k : Kind) → frame_number x ≤ b → Designated fs x k → Designated gs x k
unfolding outline enclosing
designated-alike fs gs b a x k h d =
    let g = alike-some fs gs b a (frame_number x) d.home h d.stands in
    let e : length g.0.formals ≡ length d.home.formals = ap (λ (w : Enclosing × ℕ). length w.0.formals) g.2 in
    record { home = g.0; stands = g.1; past = omega (arith, d.past, e); decl = d.decl; declared = declared-alike fs gs b a x h ∙ d.declared; kind = d.kind }

wire-kept : (fs gs : List Frame) (b : ℕ) → Rewired b fs gs → Wired fs → (k : ℕ) (g : Frame) → k ≤ b → numbered gs k ≡ some g → (i : ℕ) (m : Formal) → get_elem? g.formals i ≡ some m → Wire gs k g i m
unfolding wiring outline enclosing
wire-kept fs gs b a wired k g h n i m q =
    let f = (map-eq-some_iff wiring (numbered fs k)).0 (a k h ∙ ap (Option.map wiring) n) in
    let e : f.0.formals ≡ g.formals = ap (λ (w : (Enclosing × ℕ) × List ℤ). w.0.0.formals) f.2 in
    let w = wired k f.0 f.1 i m (ap (λ (l : List Formal). get_elem? l i) e ∙ q) in
    let s : i < length g.formals = get_elem-bound g.formals i m q in
    let s' : i < length f.0.formals = subst (λ (l : List Formal). i < length l) (sym e) s in
    let outer : frame_number w.designator < k = w.outer in
    record {
      designator = w.designator;
      word = sym (get_elem_take g.words (length g.formals) i s) ∙ ap (λ (v : (Enclosing × ℕ) × List ℤ). get_elem? v.1 i) (sym f.2) ∙ get_elem_take f.0.words (length f.0.formals) i s' ∙ w.word;
      outer = outer;
      instance = designated-alike fs gs b (rewired-alike fs gs b a) w.designator m.kind (omega arith) w.instance;
    }

pub wired-kept : (fs gs : List Frame) → Rewired (length gs) fs gs → Wired fs → Wired gs
wired-kept fs gs a wired k g n = wire-kept fs gs (length gs) a wired k g (numbered-high gs k g n) n

wired-entered : (fs : List Frame) (f : Frame) → Wired fs → ((i : ℕ) (m : Formal) → get_elem? f.formals i ≡ some m → Wire (fs ++ (f ∷ [])) (suc (length fs)) f i m) → Wired (fs ++ (f ∷ []))
wired-entered fs f wired new =
    let gs = fs ++ (f ∷ []) in
    let a : Rewired (length fs) fs gs = λ i h. sym (ap (Option.map wiring) (numbered-append fs (f ∷ []) i h)) in
    by-frame fs gs f (rewired-alike fs gs (length fs) a) (length-append fs (f ∷ []) ∙ omega arith) (numbered-seam fs f)
    (λ k g. (i : ℕ) (m : Formal) → get_elem? g.formals i ≡ some m → Wire gs k g i m) (wire-kept fs gs (length fs) a wired) new

-- A store goes past the formals

pub wiring-rewritten : (f : Frame) (i : ℕ) (z : ℤ) → length f.formals ≤ i → wiring (rewritten f (set f.words i z)) ≡ wiring f
unfolding wiring rewritten outline enclosing
wiring-rewritten f i z h = ap (λ (l : List ℤ). (outline f, l)) (take-set-le (length f.formals) f.words i z h)

stored-frames : (u : Stack) (x : ℕ) (z : ℤ) (f : Frame) → numbered u.frames (frame_number x) ≡ some f → (put u x z).frames ≡ set u.frames (pred (frame_number x)) (rewritten f (set f.words (place x) z))
unfolding put with_frames
stored-frames u x z f e = put_word-found u.frames x z f e

put-wired : (u : Stack) (x : ℕ) (z : ℤ) (k : Kind) → Designated u.frames x k → Wired u.frames → Wired (put u x z).frames
put-wired u x z k d wired =
    let f = d.home in
    let g = rewritten f (set f.words (place x) z) in
    subst Wired (sym (stored-frames u x z f d.stands))
    (wired-kept u.frames (set u.frames (pred (frame_number x)) g) (λ i h. set_at wiring u.frames (frame_number x) f g d.stands (wiring-rewritten f (place x) z d.past) i) wired)

-- A body's formals get what the arguments designate

argument-words : (ms : List Formal) (xs : List ℕ) (b : Block) (k i x : ℕ) → get_elem? xs i ≡ some x → get_elem? (new_frame ms xs b k).words i ≡ some (pos x)
unfolding new_frame
argument-words ms xs b k i x e =
    let l = length-map xs pos in
    get_elem-append (map pos xs) (zero_words _) i (omega (arith, get_elem-bound xs i x e)) ∙ get_elem?-map pos xs i ∙ ap (Option.map pos) e

abbrev Some : List Frame → ℕ → Type 0
Some fs x = (k : Kind) × Designated fs x k

call-wired : (fs : List Frame) (ms : List Formal) (xs : List ℕ) (b : Block) (k : ℕ) → Each (Some fs) xs → agree (formal_kinds ms) (map (kind_of fs) xs) ≡ true → Wired fs → Wired (fs ++ (new_frame ms xs b k ∷ []))
unfolding new_frame formal_kinds
call-wired fs ms xs b k each q wired = wired-entered fs (new_frame ms xs b k) wired (λ i m e. new i m e)
  where
    gs : List Frame
    gs = fs ++ (new_frame ms xs b k ∷ [])

    new : (i : ℕ) (m : Formal) → get_elem? ms i ≡ some m → Wire gs (suc (length fs)) (new_frame ms xs b k) i m
    new i m e =
        let x = (map-eq-some_iff (kind_of fs) (get_elem? xs i)).0 (sym (get_elem?-map (kind_of fs) xs i) ∙ agree_at (formal_kinds ms) (map (kind_of fs) xs) q i m.kind (get_elem?-map (λ (f : Formal). f.kind) ms i ∙ ap (Option.map (λ (f : Formal). f.kind)) e)) in
        let d = each_at (Some fs) xs i x.0 x.1 each in
        let n : frame_number x.0 ≤ length fs = numbered-high fs (frame_number x.0) d.1.home d.1.stands in
        let kind : d.0 ≡ m.kind = sym d.1.kind ∙ some-injective (decl_kind d.1.decl) m.kind (sym (kind_of-found fs x.0 d.1.decl d.1.declared) ∙ x.2) in
        record {
          designator = x.0;
          word = argument-words ms xs b k i x.0 x.1;
          outer = omega arith;
          instance = designated-alike fs gs (length fs) (λ j h. sym (ap (Option.map outline) (numbered-append fs (new_frame ms xs b k ∷ []) j h))) x.0 m.kind n (subst (Designated fs x.0) kind d.1);
        }

-- The names of an action, once found

module _ (fs : List Frame) (sc : Scope) (r : ℕ → ℕ) (found : (n : ℕ) (m : Meaning) → lookup n sc ≡ some m → Designated fs (r n) m.kind) where
  found_of : (k : Kind) (n : ℕ) → Is k sc n → Designated fs (r n) k
  found_of k n h = subst (Designated fs (r n)) h.2 (found n h.0 h.1)

  all_found : (ns : List ℕ) → Each (Visible sc) ns → Each (Some fs) (map r ns)
  all_found [] h = tt
  all_found (n ∷ ns) h = ((h.0.0.kind, found n h.0.0 h.0.1), all_found ns h.1)

  pub target_found : (a : Action) → ScopedAction a sc → (x : ℕ) → target_of (map_action r a) ≡ some x → Designated fs x variable
  unfolding target_of map_action ScopedAction
  target_found (CL p xs) h x e = absurd (none-ne-some x e)
  target_found (GO l) h x e = absurd (none-ne-some x e)
  target_found (IF v l) h x e = absurd (none-ne-some x e)
  target_found (KN t z) h x e = subst (λ y. Designated fs y variable) (some-injective (r t) x e) (found_of variable t h)
  target_found (AR t o a b) h x e = subst (λ y. Designated fs y variable) (some-injective (r t) x e) (found_of variable t h.0)
  target_found (AD g m) h x e = absurd (none-ne-some x e)
  target_found (RM g m) h x e = absurd (none-ne-some x e)
  target_found (QY t g m) h x e = subst (λ y. Designated fs y variable) (some-injective (r t) x e) (found_of variable t h.0)

  arguments-found : (a : Action) → ScopedAction a sc → (p : ℕ) (xs : List ℕ) → map_action r a ≡ CL p xs → Each (Some fs) xs
  unfolding map_action ScopedAction
  arguments-found (CL q ys) h p xs e = let i : map r ys ≡ xs = cc in subst (Each (Some fs)) i (all_found ys h.arguments)
  arguments-found (GO l) h p xs e = absurd (no_call e)
  arguments-found (IF v l) h p xs e = absurd (no_call e)
  arguments-found (KN t z) h p xs e = absurd (no_call e)
  arguments-found (AR t o a b) h p xs e = absurd (no_call e)
  arguments-found (AD g m) h p xs e = absurd (no_call e)
  arguments-found (RM g m) h p xs e = absurd (no_call e)
  arguments-found (QY t g m) h p xs e = absurd (no_call e)

-- a goto, a block entered, the start: no new formals

jumped-wired : (fs : List Frame) (x : ℕ) (g : Frame) (i : ℕ) → numbered fs (frame_number x) ≡ some g → Wired fs → Wired (take (pred (frame_number x)) fs ++ (continue g i ∷ []))
unfolding wiring continue outline enclosing
jumped-wired fs x g i n w =
    let gs = take (pred (frame_number x)) fs ++ (continue g i ∷ []) in
    let l = cut-length fs (frame_number x) g (continue g i) n in
    wired-kept fs gs (λ j h. cut_at wiring fs (frame_number x) g (continue g i) n refl j (omega arith)) w

block-wired : (fs : List Frame) (b : Block) (k : ℕ) → Wired fs → Wired (fs ++ (new_frame [] [] b k ∷ []))
unfolding new_frame
block-wired fs b k w = wired-entered fs (new_frame [] [] b k) w (λ i m e. absurd (none-ne-some m e))

pub start-wired : (t : Block) (tab : Table) → Wired (frame_start t tab).frames
unfolding frame_start
start-wired t tab = block-wired [] t 0 (λ k f e. let h = numbered-low [] k f e in let l = numbered-high [] k f e in absurd (omega arith))

-- The step

module _ (t : Block) (keeps : Keeps t) (s : Stack) (chain : Chained t s.frames) (wired : Wired s.frames) where
  returned-wired : Wired (but_last s.frames)
  returned-wired =
      let n = pred (length s.frames) in
      let l = length-take-le n s.frames (omega arith) in
      rw but_last-take (wired-kept s.frames (take n s.frames) (λ i h. sym (ap (Option.map wiring) (numbered-take n s.frames i (omega arith)))) wired)

  module _ (f : Frame) (e : last? s.frames ≡ some f) (i : ℕ) where
    rewired : Rewired (length s.frames) s.frames (advanced s.frames f i)
    unfolding wiring continue outline enclosing
    rewired j h = advanced-at wiring s.frames f i e refl j

    advanced-wired : Wired (advanced s.frames f i)
    advanced-wired =
        let l = advanced-length s.frames f i e in
        wired-kept s.frames (advanced s.frames f i) (λ j h. rewired j (omega arith)) wired

    pub advanced-found : (n : ℕ) (m : Meaning) → lookup n (scope_of (enclosure_of s.frames (length s.frames))) ≡ some m → let fs = advanced s.frames f i in Designated fs (designates fs n) m.kind
    advanced-found n m q =
        let d = name-designated t keeps s.frames chain wired n m q in
        let fs = advanced s.frames f i in
        let x = designates s.frames n in
        let h = numbered-high s.frames (frame_number x) d.home d.stands in
        subst (λ y. Designated fs y m.kind) (sym (designates-advanced s.frames f i e n))
        (designated-alike s.frames fs (length s.frames) (rewired-alike s.frames fs (length s.frames) rewired) x m.kind h d)

  action-wired : (f : Frame) (at : ℕ) (a : Action) → last? s.frames ≡ some f → frame_stmt f ≡ some (DO at a) → let u = advance_frame s f in Moves (λ v. Wired v.frames) u (map_action (designates u.frames) a)
  unfolding advance_frame with_frames table_changed
  action-wired f at a e q =
      let i = suc f.next in
      let u = advance_frame s f in
      let fs = advanced s.frames f i in
      let w = advanced-wired f e i in
      let sc = scope_of (enclosure_of s.frames (length s.frames)) in
      let scoped = statement-scoped t keeps s.frames chain f at a e q in
      record {
        stays = w;
        tabled = λ tab. w;
        stored = λ x z r. put-wired u x z variable (target_found fs sc (designates fs) (advanced-found f e i) a scoped x r) w;
        jumped = λ x g d n c. jumped-wired fs x g (label_index d) n w;
        called = λ p xs d r n c. call-wired fs (decl_formals d) xs (decl_body d) (frame_number p) (arguments-found fs sc (designates fs) (advanced-found f e i) a scoped p xs r) c w;
      }

  step-wires : Steps (λ v. Wired v.frames) s
  unfolding with_frames advance_frame
  step-wires =
      record {
        over = λ e. wired;
        returned = λ f e q. returned-wired;
        opened = λ f b e q. block-wired (advanced s.frames f (suc f.next)) b _ (advanced-wired f e (suc f.next));
        done = action-wired;
      }

pub step-wired : (t : Block) → Keeps t → (l : Limits) (s s' : Stack) → frame_step l s ≡ acted s' → Chained t s.frames → Wired s.frames → Wired s'.frames
step-wired t keeps l s s' e chain wired = subst (After (λ v. Wired v.frames)) e (step_by (λ v. Wired v.frames) s l (step-wires t keeps s chain wired))

pub step-linked : (t : Block) → Keeps t → (l : Limits) (s s' : Stack) → frame_step l s ≡ acted s' → Chained t s.frames → Wired s.frames → Chained t s'.frames
step-linked t keeps l s s' e chain wired = step-chained t l s s' e (calls-procedures t keeps s chain wired) chain
