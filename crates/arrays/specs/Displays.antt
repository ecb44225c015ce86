-- The display in its array after each move. `ShowsFrom fs k display`: it is that of frame k. A store and another statement number change nothing
-- (`shows-stored`, `shows-advanced`); after an entry the display of the link has one entry more (`shows-entered`, `shows-pushed`); after a
-- return or a goto it must be that of the frame below or the label's (`shows_left`, `shows-resumed`). A frame further out on the chain needs
-- no writing: `shows-outer`, `shows-link`. For any other it is put right along the links, from the innermost level out: `Restoring`, with
-- `restoring-starts`, `restoring_step`, and two ends, `restoring-through` and `restoring-meets`.
use Rattle.std.specs.Prelude.{ℕ, zero, suc, pred, ◌-◌, ◌*◌, ◌≤◌, ◌<◌, Bool, true, false, ◌≡◌, refl, leb, ltb, eqb, ℤ, take, get_or}
use Rattle.std.proofs.Common.{arith, ◌∙◌, leb-true, leb-false, ltb-true, ltb-false, eqb-true, length-append, length-take-le, get_or-set_same, get_or-set_other}
use mathlib.Core.List.{List, [], ◌∷◌, ◌++◌}
use Rattle.std.proofs.Math.Option.{none, some}
use Rattle.std.proofs.Math.Path.{sym, ap, subst}
use Rattle.std.proofs.lemmas.Bool.{eqb-false}
use Rattle.std.proofs.Math.ListN.{length, set, get_elem?}
use Rattle.language.specs.Basics.{last?, but_last}
use Rattle.language.specs.Text.{Formal, Block}
use Rattle.laws.specs.Tests.{split, by-lookup, none≢some, some_inj}
use Rattle.laws.specs.Lists.{but_last-take, replaced-length}
use Rattle.frames.specs.Frame.{Frame, numbered, continue, put_word, new_frame}
use Rattle.frames.specs.Numbered.{numbered-zero, numbered-low, numbered-high, numbered-index, numbered-append, numbered-seam, numbered-take, last-numbered}
use Rattle.coordinates.specs.Enclosure.{Enclosing}
use Rattle.coordinates.specs.Chain.{outline, SameOutlines, level_of, climb, display_from, display_of, Downward}
use Rattle.coordinates.proofs.Along.{alike-some, climb-some, climb-none, climb-zero, climb-bound}
use Rattle.coordinates.proofs.Coordinates.{frame-of-level, frame-by-display}
use Rattle.coordinates.proofs.Moves.{alike-cut, outline-continue}
use Rattle.coordinates.proofs.Statements.{level-alike}
use Rattle.coordinates.proofs.Display.{display-alike, display-length, display-step, display-after-call, display-after-return, display-after-goto, display-after-advance, display-after-store, display-prefix, displays-meet, entry-bound}
use Rattle.arrays.specs.Holds.{Holds, Shows}

abbrev pub ShowsFrom : List Frame → ℕ → List ℕ → Type 0
ShowsFrom fs k display = (j m : ℕ) → numbered (display_from fs k) j ≡ some m → get_or display j 0 ≡ 32 * pred m

abbrev Entries : List ℕ → List ℕ → Type 0
Entries display ms = (j m : ℕ) → numbered ms j ≡ some m → get_or display j 0 ≡ 32 * pred m

pub shows-innermost : (fs : List Frame) (display : List ℕ) → Shows fs display → ShowsFrom fs (length fs) display
unfolding display_of
shows-innermost fs display h = h

module _ (fs : List Frame) (down : Downward fs) (display : List ℕ) where
  -- Stores and statement numbers

  pub shows-stored : (x : ℕ) (z : ℤ) → Shows fs display → Shows (put_word fs x z) display
  shows-stored x z h = subst (Entries display) (sym (display-after-store fs down x z)) h

  pub shows-advanced : (f : Frame) (i : ℕ) → last? fs ≡ some f → Shows fs display → Shows (but_last fs ++ (continue f i ∷ [])) display
  shows-advanced f i e h = subst (Entries display) (sym (display-after-advance fs down f i e)) h

  -- Frames left

  pub shows_left : ShowsFrom fs (pred (length fs)) display → Shows (but_last fs) display
  shows_left h = subst (Entries display) (sym (display-after-return fs down)) h

  pub shows-resumed : (k : ℕ) (f : Frame) (i : ℕ) → numbered fs k ≡ some f → ShowsFrom fs k display → Shows (take (pred k) fs ++ (continue f i ∷ [])) display
  shows-resumed k f i e h = subst (Entries display) (sym (display-after-goto fs down k f i e)) h

  -- A frame entered

  pub shows-entered : (formals : List Formal) (xs : List ℕ) (b : Block) (k : ℕ) → k ≤ length fs → suc (level_of fs k) < length display → ShowsFrom fs k display
      → Shows (fs ++ (new_frame formals xs b k ∷ [])) (set display (suc (level_of fs k)) (32 * length fs))
  shows-entered formals xs b k h room shows j m e =
      let d = display_from fs k in
      let l : length d ≡ level_of fs k = display-length fs k in
      let q : numbered (d ++ (suc (length fs) ∷ [])) j ≡ some m = ap (λ (ms : List ℕ). numbered ms j) (sym (display-after-call fs down formals xs b k h)) ∙ e in
      split (leb j (length d))
      (λ t. let p = leb-true j (length d) t in
      get_or-set_other display (suc (level_of fs k)) j (32 * length fs) 0 (λ c. omega arith) ∙ shows j m (sym (numbered-append d (suc (length fs) ∷ []) j p) ∙ q))
      (λ t. let p = leb-false j (length d) t in
      let high = numbered-high (d ++ (suc (length fs) ∷ [])) j m q in
      let c : suc (length d) ≡ j = omega (arith, length-append d (suc (length fs) ∷ [])) in
      let n : suc (length fs) ≡ m = some_inj (sym (numbered-seam d (suc (length fs))) ∙ ap (numbered (d ++ (suc (length fs) ∷ []))) c ∙ q) in
      let i : j ≡ suc (level_of fs k) = omega arith in
      ap (λ i. get_or (set display (suc (level_of fs k)) (32 * length fs)) i 0) i ∙ get_or-set_same display (suc (level_of fs k)) (32 * length fs) 0 room ∙ omega arith)

  -- A frame further out

  pub shows-outer : (k i : ℕ) → i ≤ level_of fs k → ShowsFrom fs k display → ShowsFrom fs (climb fs k (level_of fs k - i)) display
  shows-outer k i h shows j m e =
      let d = display_from fs k in
      let q : numbered (take i d) j ≡ some m = ap (λ (ms : List ℕ). numbered ms j) (sym (display-prefix fs down k i h)) ∙ e in
      let p : j ≤ i = omega (arith, numbered-high (take i d) j m q, length-take-le i d (omega (arith, display-length fs k))) in
      shows j m (sym (numbered-take i d j p) ∙ q)

  pub shows-link : (k : ℕ) (f : Frame) → numbered fs k ≡ some f → ShowsFrom fs k display → ShowsFrom fs f.link display
  shows-link k f e shows j m q =
      let d = display_from fs f.link in
      shows j m (ap (λ (ms : List ℕ). numbered ms j) (display-step fs down k f e) ∙ numbered-append d (k ∷ []) j (numbered-high d j m q) ∙ q)

-- an entry after the statement that makes it: the innermost frame has gone on before
module _ (fs : List Frame) (down : Downward fs) (f : Frame) (last : last? fs ≡ some f) (i : ℕ) where
  gs : List Frame
  gs = but_last fs ++ (continue f i ∷ [])

  alike : SameOutlines (length fs) fs gs
  unfolding gs
  alike = rw but_last-take (alike-cut fs (length fs) f (continue f i) (sym (last-numbered fs) ∙ last) (outline-continue f i))

  gs-length : length gs ≡ length fs
  unfolding gs
  gs-length = replaced-length fs f (continue f i) last

  gs-downward : Downward gs
  unfolding outline
  gs-downward k g e =
      let h : k ≤ length fs = omega (arith, numbered-high gs k g e, gs-length) in
      let o = alike-some gs fs (length fs) (λ j p. sym (alike j p)) k g h e in
      let l : o.0.link ≡ g.link = ap (λ (x : Enclosing × ℕ). x.1) o.2 in
      omega (arith, down k o.0 o.1)

  pub shows-pushed : (display : List ℕ) (formals : List Formal) (xs : List ℕ) (b : Block) (k : ℕ) → k ≤ length fs → suc (level_of fs k) < length display → ShowsFrom fs k display
      → Shows ((but_last fs ++ (continue f i ∷ [])) ++ (new_frame formals xs b k ∷ [])) (set display (suc (level_of fs k)) (32 * length fs))
  unfolding gs
  shows-pushed display formals xs b k h room shows =
      let l : level_of gs k ≡ level_of fs k = level-alike fs gs (length fs) alike down k h in
      let n = gs-length in
      let d : display_from gs k ≡ display_from fs k = display-alike fs gs (length fs) alike down k h in
      subst (λ (m : List ℕ). Shows (gs ++ (new_frame formals xs b k ∷ [])) m) (λ j. set display (suc (l j)) (32 * n j))
      (shows-entered gs gs-downward display formals xs b k (omega arith) (omega arith) (subst (Entries display) (sym d) shows))

-- the entry of a level is the enclosing activation's first cell
pub shows-entry : (fs : List Frame) → Downward fs → (display : List ℕ) (k j : ℕ) → 1 ≤ j → j ≤ level_of fs k → ShowsFrom fs k display → get_or display j 0 ≡ 32 * pred (climb fs k (level_of fs k - j))
shows-entry fs down display k j p h shows = shows j (climb fs k (level_of fs k - j)) (frame-by-display fs down k j p h)

-- Putting the display right

apart : (j l : ℕ) → (j ≡ l → ⊥) → l - 1 < j → l < j
apart j l d h = go (ltb l j) refl
  where
    go : (t : Bool) → ltb l j ≡ t → l < j
    go true t = ltb-true l j t
    go false t = absurd (d (omega (arith, ltb-false l j t)))

-- the links of the activations
abbrev pub LinksOf : List Frame → List ℕ → Type 0
LinksOf fs links = (k : ℕ) (f : Frame) → get_elem? fs k ≡ some f → get_or links k 0 ≡ pred f.link

pub holds-links : (fs : List Frame) (blocks nexts links : List ℕ) (cells : List ℤ) → Holds fs blocks nexts links cells → LinksOf fs links
holds-links fs blocks nexts links cells holds k f e = (holds k f e).link-is

-- one link more
pub climb-on : (fs : List Frame) (k j : ℕ) (g : Frame) → numbered fs (climb fs k j) ≡ some g → climb fs k (suc j) ≡ g.link
climb-on fs k zero g e = climb-some fs k 0 g (ap (numbered fs) (sym (climb-zero fs k)) ∙ e) ∙ climb-zero fs g.link
climb-on fs k (suc j) g e =
    by-lookup (numbered fs k) (λ q. none≢some (sym (ap (numbered fs) (climb-none fs k j q) ∙ numbered-zero fs 0 (omega arith)) ∙ e))
    (λ f q. climb-some fs k (suc j) f q ∙ climb-on fs f.link j g (ap (numbered fs) (sym (climb-some fs k j f q)) ∙ e))

-- The display was that of frame o and is to be that of frame k: above level l it is, up to l it is still the old one, and the enclosing
-- activation of level l is a.
pub record Restoring (fs : List Frame) (o k : ℕ) (display : List ℕ) (a l : ℕ) : Type 0 where
  pub within : l ≤ level_of fs k
  pub reached : 1 ≤ l → climb fs k (level_of fs k - l) ≡ suc a
  pub above : (j m : ℕ) → l < j → numbered (display_from fs k) j ≡ some m → get_or display j 0 ≡ 32 * pred m
  pub below : (j m : ℕ) → j ≤ l → numbered (display_from fs o) j ≡ some m → get_or display j 0 ≡ 32 * pred m

module _ (fs : List Frame) (down : Downward fs) (o k : ℕ) where
  -- the frame at a level has a number
  reached-low : (l : ℕ) → 1 ≤ l → l ≤ level_of fs k → 1 ≤ climb fs k (level_of fs k - l)
  reached-low l p h =
      let g = frame-of-level fs down k l p h in
      numbered-low fs (climb fs k (level_of fs k - l)) g.0 g.1

  pub restoring-starts : (display : List ℕ) → ShowsFrom fs o display → Restoring fs o k display (pred k) (level_of fs k)
  restoring-starts display shows =
      record {
        within = omega arith;
        reached = λ p. let z : level_of fs k - level_of fs k ≡ 0 = omega arith in
            let c : climb fs k (level_of fs k - level_of fs k) ≡ k = ap (climb fs k) z ∙ climb-zero fs k in
            omega (arith, reached-low (level_of fs k) p (omega arith));
        above = λ j m p e. absurd (omega (arith, numbered-high (display_from fs k) j m e, display-length fs k));
        below = λ j m p e. shows j m e;
      }

  module _ (display : List ℕ) (a l : ℕ) (r : Restoring fs o k display a l) where
    -- the activation is one of those up to frame k
    pub restoring-bound : 1 ≤ l → a < k
    restoring-bound p = omega (arith, r.reached p, climb-bound fs down k (level_of fs k - l))

    reached-frame : 1 ≤ l → (g : Frame) × (numbered fs (suc a) ≡ some g)
    reached-frame p =
        let g = frame-of-level fs down k l p r.within in
        (g.0, ap (numbered fs) (sym (r.reached p)) ∙ g.1)

    entry_here : 1 ≤ l → numbered (display_from fs k) l ≡ some (suc a)
    entry_here p = frame-by-display fs down k l p r.within ∙ ap (λ n. some n) (r.reached p)

    pub restoring_step : (links : List ℕ) → LinksOf fs links → 1 ≤ l → l < length display → Restoring fs o k (set display l (32 * a)) (get_or links a 0) (l - 1)
    restoring_step links linked p room =
        let g = reached-frame p in
        let link : get_or links a 0 ≡ pred g.0.link = linked a g.0 (numbered-index fs (suc a) g.0 g.1) in
        record {
          within = omega (arith, r.within);
          reached = λ q.
              let i : level_of fs k - (l - 1) ≡ suc (level_of fs k - l) = omega (arith, r.within) in
              let c : climb fs k (level_of fs k - (l - 1)) ≡ g.0.link = ap (climb fs k) i ∙ climb-on fs k (level_of fs k - l) g.0 (ap (numbered fs) (r.reached p) ∙ g.1) in
              omega (arith, reached-low (l - 1) q (omega (arith, r.within)));
          above = λ j m q e.
              split (eqb j l)
              (λ t. let c : j ≡ l = eqb-true j l t in
              let n : suc a ≡ m = some_inj (sym (entry_here p) ∙ ap (numbered (display_from fs k)) (sym c) ∙ e) in
              ap (λ i. get_or (set display l (32 * a)) i 0) c ∙ get_or-set_same display l (32 * a) 0 room ∙ omega arith)
              (λ t. let d = eqb-false j l t in
              get_or-set_other display l j (32 * a) 0 d ∙ r.above j m (apart j l d q) e);
          below = λ j m q e. get_or-set_other display l j (32 * a) 0 (λ c. omega arith) ∙ r.below j m (omega arith) e;
        }

    pub restoring-through : l ≡ 0 → ShowsFrom fs k display
    restoring-through z j m e = r.above j m (omega (arith, numbered-low (display_from fs k) j m e)) e

    -- an entry that fits, where it is one of the old display's
    pub restoring-meets : 1 ≤ l → l ≤ level_of fs o → get_or display l 0 ≡ 32 * a → ShowsFrom fs k display
    restoring-meets p h fits j m e =
        let n = climb fs o (level_of fs o - l) in
        let old : numbered (display_from fs o) l ≡ some n = frame-by-display fs down o l p h in
        let same : n ≡ suc a = omega (arith, r.below l n (omega arith) old, (entry-bound fs down o l n old).0) in
        let meet : take l (display_from fs k) ≡ take l (display_from fs o) = displays-meet fs down k o l (suc a) (entry_here p) (old ∙ ap (λ i. some i) same) in
        split (leb j l)
        (λ t. let q : j ≤ l = leb-true j l t in
        r.below j m q (sym (numbered-take l (display_from fs o) j q) ∙ ap (λ (ms : List ℕ). numbered ms j) (sym meet) ∙ numbered-take l (display_from fs k) j q ∙ e))
        (λ t. r.above j m (leb-false j l t) e)
