-- How the F-chain changes as frames do. It is read off the blocks and links of frames and the statement passed last in each (`SameCalls`): frames that
-- agree in these up to number b have the same passers and go on to the same frames, up to there (`passer-alike`, `onward-alike`). Every move of the
-- machine leaves the frames that stay so. The frame just entered: `entered-block` to `handed-formal`.
use Prim.Native.Nat.{ℕ, zero, suc, pred, ◌-◌, ◌≤◌}
use Rattle.std.proofs.Common.{arith, ap, ◌∙◌}
use Rattle.std.specs.Prelude.{true, false, List, [], ◌∷◌, ◌++◌, ◌≡◌, leb, ℤ, length, take, set}
use Rattle.std.proofs.Math.Option.{Option, none, some, map}
use Rattle.std.proofs.Math.Path.{refl, sym}
use Rattle.language.specs.Basics.{last?, but_last}
use Rattle.language.specs.Text.{Block, CL, Stmt, BK, DO}
use Rattle.laws.specs.Tests.{split, by-lookup, none≢some, some_inj}
use Rattle.laws.specs.Lists.{but_last-take}
use Rattle.frames.specs.Frame.{Frame, NamePlace, continue, rewritten, numbered, seek_from, frame_number, place, put_word}
use Rattle.frames.specs.Numbered.{numbered-zero, numbered-high, numbered-append, last-numbered}
use Rattle.frame_laws.specs.Finding.{put_word-found, put_word-none}
use Rattle.coordinates.specs.Enclosure.{Enclosing, coordinate_of}
use Rattle.coordinates.specs.Chain.{enclosing, enclosure_of, level_of, outline, SameOutlines, Downward}
use Rattle.coordinates.proofs.Along.{climb-bound}
use Rattle.coordinates.proofs.Search.{seek-alike}
use Rattle.coordinates.proofs.Coordinates.{sought-by-links, sought-nowhere}
use Rattle.coordinates.proofs.Moves.{alike-append, alike-take, alike-cut, alike_set, outline-continue, outline-rewritten}
use Rattle.coordinates.proofs.Kept.{downward-alike}
use Rattle.coordinates.specs.Made.{passed}
use Rattle.coordinates.proofs.Making.{SamePassed, passed-append, passed-take, passed-cut, passed-put}
use Rattle.f_search.specs.Passers.{Call, call_in, call_of, call_for, FormalAt, formal_at, formal_of, argument_for, passer_within, passer, through, passer_of}
use Rattle.f_search.specs.Search.{onward}

pub record SameCalls (b : ℕ) (fs gs : List Frame) : Type 0 where
  pub outlines : SameOutlines b fs gs
  pub statements : SamePassed b fs gs

-- Each definition by its cases

pub call_at : (fs : List Frame) (k : ℕ) (f : Frame) (x : Stmt) → numbered fs (pred k) ≡ some f → passed f ≡ some x → call_for fs k ≡ call_of x
unfolding call_for
call_at fs k f x e q = rw (call_for, e, q)

formal-nowhere : (fs : List Frame) (k n : ℕ) → seek_from k fs k n 0 ≡ none → formal_of fs k n ≡ none
unfolding formal_of
formal-nowhere fs k n e = rw (formal_of, e)

pub formal-sought : (fs : List Frame) (k n : ℕ) (p : NamePlace) → seek_from k fs k n 0 ≡ some p → formal_of fs k n ≡ formal_at fs p
unfolding formal_of
formal-sought fs k n p e = rw (formal_of, e)

pub argument-none : (fs : List Frame) (x : FormalAt) → call_for fs x.frame ≡ none → argument_for fs x ≡ none
unfolding argument_for
argument-none fs x e = rw (argument_for, e)

pub argument-of : (fs : List Frame) (x : FormalAt) (c : Call) → call_for fs x.frame ≡ some c → argument_for fs x ≡ numbered c.arguments x.position
unfolding argument_for
argument-of fs x c e = rw (argument_for, e)

pub passer-nowhere : (m : ℕ) (fs : List Frame) (x : FormalAt) → argument_for fs x ≡ none → passer_within m fs x ≡ 0
unfolding passer_within
passer-nowhere zero fs x e = refl
passer-nowhere (suc m) fs x e = rw (passer_within, e)

pub passer-here : (m : ℕ) (fs : List Frame) (x : FormalAt) (n : ℕ) → argument_for fs x ≡ some n → formal_of fs (pred x.frame) n ≡ none → passer_within (suc m) fs x ≡ pred x.frame
unfolding passer_within
passer-here m fs x n e q = rw (passer_within, e, q)

pub passer-further : (m : ℕ) (fs : List Frame) (x : FormalAt) (n : ℕ) (y : FormalAt) → argument_for fs x ≡ some n → formal_of fs (pred x.frame) n ≡ some y → passer_within (suc m) fs x ≡ passer_within m fs y
unfolding passer_within
passer-further m fs x n y e q = rw (passer_within, e, q)

pub through-none : (fs : List Frame) (k : ℕ) → call_for fs k ≡ none → through fs k ≡ none
unfolding through
through-none fs k e = rw (through, e)

pub through-call : (fs : List Frame) (k : ℕ) (c : Call) → call_for fs k ≡ some c → through fs k ≡ formal_of fs (pred k) c.called
unfolding through
through-call fs k c e = rw (through, e)

pub passer_of-none : (fs : List Frame) (k : ℕ) → through fs k ≡ none → passer_of fs k ≡ none
unfolding passer_of
passer_of-none fs k e = rw (passer_of, e)

pub passer_of-through : (fs : List Frame) (k : ℕ) (x : FormalAt) → through fs k ≡ some x → passer_of fs k ≡ some (passer fs x)
unfolding passer_of
passer_of-through fs k x e = rw (passer_of, e)

pub onward-none : (fs : List Frame) (k : ℕ) → passer_of fs k ≡ none → onward fs k ≡ pred k
unfolding onward
onward-none fs k e = rw (onward, e)

pub onward-some : (fs : List Frame) (k j : ℕ) → passer_of fs k ≡ some j → onward fs k ≡ j
unfolding onward
onward-some fs k j e = rw (onward, e)

-- Formals stand further out

seek-number : (fs : List Frame) → Downward fs → (k n : ℕ) (p : NamePlace) → seek_from k fs k n 0 ≡ some p → p.number ≤ k
seek-number fs down k n p e =
    by-lookup (coordinate_of (enclosure_of fs k) n) (λ o. none≢some (sym (sought-nowhere fs down k k n 0 (omega arith) o) ∙ e))
    (λ c o. let i = ap (λ (q : NamePlace). q.number) (some_inj (sym (sought-by-links fs down k k n 0 c (omega arith) o) ∙ e)) in omega (arith, i, climb-bound fs down k (level_of fs k - c.level)))

formal-at-frame : (fs : List Frame) (p : NamePlace) (x : FormalAt) → formal_at fs p ≡ some x → x.frame ≡ p.number
unfolding formal_at
formal-at-frame fs p x e =
    by-lookup (numbered fs p.number) (λ n. none≢some (rw (formal_at, n) at e))
    (λ f n. split (leb p.position (length f.formals)) (λ t. ap (λ (y : FormalAt). y.frame) (sym (some_inj (rw (formal_at, n, t) at e)))) (λ t. none≢some (rw (formal_at, n, t) at e)))

pub formal-frame : (fs : List Frame) → Downward fs → (k n : ℕ) (x : FormalAt) → formal_of fs k n ≡ some x → x.frame ≤ k
formal-frame fs down k n x e =
    by-lookup (seek_from k fs k n 0) (λ s. none≢some (sym (formal-nowhere fs k n s) ∙ e))
    (λ p s. let i = formal-at-frame fs p x (sym (formal-sought fs k n p s) ∙ e) in omega (arith, seek-number fs down k n p s))

pub call-program : (fs : List Frame) (k : ℕ) → k ≤ 1 → call_for fs k ≡ none
unfolding call_for
call-program fs k h = rw (call_for, numbered-zero fs (pred k) (omega arith))

module _ (fs : List Frame) (down : Downward fs) where
  -- a formal through which a frame was entered stands below it
  pub through-frame : (k : ℕ) (x : FormalAt) → through fs k ≡ some x → x.frame ≤ pred k
  through-frame k x e =
      by-lookup (call_for fs k) (λ c. none≢some (sym (through-none fs k c) ∙ e)) (λ d c. formal-frame fs down (pred k) d.called x (sym (through-call fs k d c) ∙ e))

  -- a formal has its passer by as many steps as there are frames up to its own, and more make no difference
  pub passer-enough : (m n : ℕ) (x : FormalAt) → x.frame ≤ m → x.frame ≤ n → passer_within m fs x ≡ passer_within n fs x
  passer-enough zero n x p q = let e = argument-none fs x (call-program fs x.frame (omega arith)) in passer-nowhere zero fs x e ∙ sym (passer-nowhere n fs x e)
  passer-enough (suc m) zero x p q = let e = argument-none fs x (call-program fs x.frame (omega arith)) in passer-nowhere (suc m) fs x e ∙ sym (passer-nowhere zero fs x e)
  passer-enough (suc m) (suc n) x p q =
      by-lookup (argument_for fs x) (λ e. passer-nowhere (suc m) fs x e ∙ sym (passer-nowhere (suc n) fs x e))
      (λ a e. by-lookup (formal_of fs (pred x.frame) a) (λ o. passer-here m fs x a e o ∙ sym (passer-here n fs x a e o))
      (λ y o. let h = formal-frame fs down (pred x.frame) a y o in
      passer-further m fs x a y e o ∙ passer-enough m n y (omega arith) (omega arith) ∙ sym (passer-further n fs x a y e o)))

-- Frames that are alike

call_is : Option (Option Stmt) → Option Call
call_is o = elim o [ none ↦ none | some p ↦ elim p [ none ↦ none | some x ↦ call_of x ] ]

formal_is : NamePlace → Option (Enclosing × ℕ) → Option FormalAt
formal_is p o =
    elim o [
      | none ↦ none
      | some e ↦ elim (leb p.position (length e.0.formals)) [ true ↦ some (record { frame = p.number; position = p.position }) | false ↦ none ]
    ]

call-read : (fs : List Frame) (k : ℕ) → call_for fs k ≡ call_is (map passed (numbered fs (pred k)))
unfolding call_for call_is
call-read fs k = by-lookup (numbered fs (pred k)) (λ e. rw (call_for, e)) (λ f e. rw (call_for, e))

formal-read : (fs : List Frame) (p : NamePlace) → formal_at fs p ≡ formal_is p (map outline (numbered fs p.number))
unfolding formal_at formal_is outline enclosing
formal-read fs p = by-lookup (numbered fs p.number) (λ e. rw (formal_at, e)) (λ f e. rw (formal_at, e))

module _ (b : ℕ) (fs gs : List Frame) (same : SameCalls b fs gs) where
  pub call-alike : (k : ℕ) → k ≤ b → call_for gs k ≡ call_for fs k
  call-alike zero h = call-program gs 0 (omega arith) ∙ sym (call-program fs 0 (omega arith))
  call-alike (suc k) h = call-read gs (suc k) ∙ ap call_is (sym (same.statements k h)) ∙ sym (call-read fs (suc k))

  pub argument-alike : (x : FormalAt) → x.frame ≤ b → argument_for gs x ≡ argument_for fs x
  argument-alike x h =
      let c = call-alike x.frame h in
      by-lookup (call_for fs x.frame) (λ e. argument-none gs x (c ∙ e) ∙ sym (argument-none fs x e)) (λ d e. argument-of gs x d (c ∙ e) ∙ sym (argument-of fs x d e))

  module _ (down : Downward fs) where
    pub formal-alike : (k n : ℕ) → k ≤ b → formal_of gs k n ≡ formal_of fs k n
    formal-alike k n h =
        let s = seek-alike fs gs b same.outlines down k k n 0 h in
        by-lookup (seek_from k fs k n 0) (λ e. formal-nowhere gs k n (s ∙ e) ∙ sym (formal-nowhere fs k n e))
        (λ p e. let i = seek-number fs down k n p e in
        formal-sought gs k n p (s ∙ e) ∙ formal-read gs p ∙ ap (formal_is p) (sym (same.outlines p.number (omega arith))) ∙ sym (formal-read fs p) ∙ sym (formal-sought fs k n p e))

    passer-within-alike : (m : ℕ) (x : FormalAt) → x.frame ≤ b → passer_within m gs x ≡ passer_within m fs x
    unfolding passer_within
    passer-within-alike zero x h = refl
    passer-within-alike (suc m) x h =
        let c = argument-alike x h in
        by-lookup (argument_for fs x) (λ e. passer-nowhere (suc m) gs x (c ∙ e) ∙ sym (passer-nowhere (suc m) fs x e))
        (λ a e. let f = formal-alike (pred x.frame) a (omega arith) in
        by-lookup (formal_of fs (pred x.frame) a) (λ o. passer-here m gs x a (c ∙ e) (f ∙ o) ∙ sym (passer-here m fs x a e o))
        (λ y o. let i = formal-frame fs down (pred x.frame) a y o in
        passer-further m gs x a y (c ∙ e) (f ∙ o) ∙ passer-within-alike m y (omega arith) ∙ sym (passer-further m fs x a y e o)))

    pub passer-alike : (x : FormalAt) → x.frame ≤ b → passer gs x ≡ passer fs x
    unfolding passer
    passer-alike x h = passer-within-alike x.frame x h

    pub through-alike : (k : ℕ) → k ≤ b → through gs k ≡ through fs k
    through-alike k h =
        let c = call-alike k h in
        by-lookup (call_for fs k) (λ e. through-none gs k (c ∙ e) ∙ sym (through-none fs k e))
        (λ d e. through-call gs k d (c ∙ e) ∙ formal-alike (pred k) d.called (omega arith) ∙ sym (through-call fs k d e))

    pub passer_of-alike : (k : ℕ) → k ≤ b → passer_of gs k ≡ passer_of fs k
    passer_of-alike k h =
        let t = through-alike k h in
        by-lookup (through fs k) (λ e. passer_of-none gs k (t ∙ e) ∙ sym (passer_of-none fs k e))
        (λ x e. let i = through-frame fs down k x e in passer_of-through gs k x (t ∙ e) ∙ ap {B = Option ℕ} some (passer-alike x (omega arith)) ∙ sym (passer_of-through fs k x e))

    pub onward-alike : (k : ℕ) → k ≤ b → onward gs k ≡ onward fs k
    onward-alike k h =
        let p = passer_of-alike k h in
        by-lookup (passer_of fs k) (λ e. onward-none gs k (p ∙ e) ∙ sym (onward-none fs k e)) (λ j e. onward-some gs k j (p ∙ e) ∙ sym (onward-some fs k j e))

-- Each move

pub calls-append : (fs gs : List Frame) → SameCalls (length fs) fs (fs ++ gs)
calls-append fs gs = record { outlines = alike-append fs gs; statements = λ i h. passed-append fs gs i (omega arith) }

pub calls-take : (n : ℕ) (fs : List Frame) → SameCalls n fs (take n fs)
calls-take n fs = record { outlines = alike-take n fs; statements = λ i h. passed-take n fs i (omega arith) }

pub calls-cut : (fs : List Frame) (n : ℕ) (f : Frame) (i : ℕ) → numbered fs n ≡ some f → SameCalls n fs (take (pred n) fs ++ (continue f i ∷ []))
calls-cut fs n f i e = record { outlines = alike-cut fs n f (continue f i) e (outline-continue f i); statements = passed-cut fs n f (continue f i) e }

pub calls-advanced : (fs : List Frame) (f : Frame) (i : ℕ) → last? fs ≡ some f → SameCalls (length fs) fs (but_last fs ++ (continue f i ∷ []))
calls-advanced fs f i e = rw but_last-take (calls-cut fs (length fs) f i (sym (last-numbered fs) ∙ e))

pub calls-put : (fs : List Frame) (x : ℕ) (z : ℤ) (b : ℕ) → SameCalls b fs (put_word fs x z)
calls-put fs x z b =
    record {
      outlines =
          by-lookup (numbered fs (frame_number x)) (λ e. rw (put_word-none fs x z e) (λ i h. refl))
          (λ f e. rw (put_word-found fs x z f e) (alike_set fs (frame_number x) f (rewritten f (set f.words (place x) z)) e (outline-rewritten f (set f.words (place x) z)) b));
      statements = passed-put fs x z b;
    }

pub calls-both : (b : ℕ) (fs gs hs : List Frame) → SameCalls b fs gs → SameCalls b gs hs → SameCalls b fs hs
calls-both b fs gs hs p q = record { outlines = λ i h. p.outlines i h ∙ q.outlines i h; statements = λ i h. p.statements i h ∙ q.statements i h }

pub calls-downward : (b : ℕ) (fs gs : List Frame) → SameCalls b fs gs → length gs ≤ b → Downward fs → Downward gs
calls-downward b fs gs same h down k g n = let l = numbered-high gs k g n in downward-alike fs gs b same.outlines down k g (omega arith) n

-- The frame just entered

module _ (fs : List Frame) (f g : Frame) (last : last? fs ≡ some f) (down : Downward fs) where
  abbrev new : List Frame
  new = fs ++ (g ∷ [])

  -- the call by which it was entered
  entered-call : (x : Stmt) → passed f ≡ some x → call_for new (suc (length fs)) ≡ call_of x
  entered-call x q = call_at new (suc (length fs)) f x (numbered-append fs (g ∷ []) (length fs) (omega arith) ∙ sym (last-numbered fs) ∙ last) q

  entered-formal : (n : ℕ) → formal_of new (length fs) n ≡ formal_of fs (length fs) n
  entered-formal n = formal-alike (length fs) fs new (calls-append fs (g ∷ [])) down (length fs) n (omega arith)

  pub entered-block : (b : Block) → passed f ≡ some (BK b) → onward new (suc (length fs)) ≡ length fs
  unfolding call_of
  entered-block b q = onward-none new (suc (length fs)) (passer_of-none new (suc (length fs)) (through-none new (suc (length fs)) (entered-call (BK b) q)))

  module _ (at p : ℕ) (xs : List ℕ) (q : passed f ≡ some (DO at (CL p xs))) where
    abbrev call : Call
    call = record { called = p; arguments = xs }

    by_call : call_for new (suc (length fs)) ≡ some call
    unfolding call_of call_in
    by_call = entered-call (DO at (CL p xs)) q

    entered-through : through new (suc (length fs)) ≡ formal_of fs (length fs) p
    entered-through = through-call new (suc (length fs)) call by_call ∙ entered-formal p

    pub entered-declared : formal_of fs (length fs) p ≡ none → onward new (suc (length fs)) ≡ length fs
    entered-declared e = onward-none new (suc (length fs)) (passer_of-none new (suc (length fs)) (entered-through ∙ e))

    pub entered-by-formal : (y : FormalAt) → formal_of fs (length fs) p ≡ some y → onward new (suc (length fs)) ≡ passer fs y
    entered-by-formal y e =
        onward-some new (suc (length fs)) (passer new y) (passer_of-through new (suc (length fs)) y (entered-through ∙ e)) ∙ passer-alike (length fs) fs new (calls-append fs (g ∷ [])) down y (formal-frame fs down (length fs) p y e)

    module _ (i n : ℕ) (a : numbered xs i ≡ some n) where
      abbrev formal : FormalAt
      formal = record { frame = suc (length fs); position = i }

      handed : argument_for new formal ≡ some n
      handed = argument-of new formal call by_call ∙ a

      pub handed-declared : formal_of fs (length fs) n ≡ none → passer new formal ≡ length fs
      unfolding passer
      handed-declared e = passer-here (length fs) new formal n handed (entered-formal n ∙ e)

      pub handed-formal : (y : FormalAt) → formal_of fs (length fs) n ≡ some y → passer new formal ≡ passer fs y
      unfolding passer
      handed-formal y e =
          let h = formal-frame fs down (length fs) n y e in
          passer-further (length fs) new formal n y handed (entered-formal n ∙ e) ∙ passer-within-alike (length fs) fs new (calls-append fs (g ∷ [])) down (length fs) y h
          ∙ passer-enough fs down (length fs) y.frame y h (omega arith)
