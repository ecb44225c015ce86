-- What a display must hold, as equations, for frames whose links go down. `display_of fs` is the display of the innermost frame, `display_from
-- fs k` that of frame k; entry j of either is the enclosing frame of level j.
-- Entry: `display-entered` (the display of the new frame's link, and the new number), `display-after-block`, `display-after-call`.
-- Return: `display-after-return` (the display of the frame below), `display-after-block-return`. Goto: `display-after-goto` (that of the label's frame).
-- Stores and statement numbers: `display-after-store`, `display-after-advance`: nothing changes. `display-prefix`: the display of a
-- frame so many levels deep on the chain is a prefix, so that a called procedure or a label found by its own name at level j leaves the
-- first j entries. `entry_new`, `entries-kept`, `entries-shared` say it entry by entry, `displays-meet` that
-- two displays with one frame at a level agree up to there, and `display-after-step` what a step does.
use Prim.Native.Nat.{ℕ, suc, pred, ◌-◌, ◌≤◌}
use native.Mathlib.Omega.{arith}
use mathlib.Core.List.{List, [], ◌∷◌, ◌++◌, reverse, reverse-cons}
use Rattle.std.proofs.Math.Option.{Option, none, some, some-injective}
use Rattle.std.specs.Prelude.{◌≡◌, ℤ}
use Rattle.std.proofs.Math.Path.{refl, ap}
use Rattle.std.proofs.Common.{sym, ◌∙◌, length-append, length-set, length-take-le}
use Rattle.std.proofs.Math.ListN.{length, take, set}
use Rattle.std.proofs.lemmas.List.{length-reverse}
use Rattle.language.specs.Basics.{last?, but_last}
use Rattle.language.specs.Text.{Formal, Block}
use Rattle.language.specs.Machine.{Limits}
use Rattle.laws.specs.Lists.{but_last-take}
use Rattle.laws.specs.Reversed.{reverse-drop}
use Rattle.frames.specs.Frame.{Frame, Stack, acted, numbered, frame_number, place, continue, rewritten, put_word, new_frame, frame_step}
use Rattle.frames.specs.Numbered.{numbered-low, numbered-high, last-numbered, numbered-seam, numbered-append, numbered-take}
use Rattle.coordinates.specs.Chain.{along, SameOutlines, chain_of, level_of, climb, display_from, display_of, Downward}
use Rattle.coordinates.proofs.Along.{climb-bound, along-alike, along-step, along-climb}
use Rattle.coordinates.proofs.Coordinates.{frame-of-level, frame-by-display}
use Rattle.coordinates.proofs.Moves.{alike-append, alike-take, alike-cut, alike_set, cut-length, outline-continue, outline-rewritten, Moved, kept, entered, step-moved}
use Rattle.coordinates.proofs.Kept.{entered-link, downward-entered}

-- the display depends on no more than blocks and links up to its frame
pub display-alike : (fs gs : List Frame) (b : ℕ) → SameOutlines b fs gs → Downward fs → (k : ℕ) → k ≤ b → display_from gs k ≡ display_from fs k
unfolding display_from chain_of
display-alike fs gs b a down k h = ap reverse (along-alike fs gs b a down (λ i e. i) k k h)

-- a frame's own number comes last, after the display of its link
pub display-step : (fs : List Frame) → Downward fs → (k : ℕ) (f : Frame) → numbered fs k ≡ some f → display_from fs k ≡ display_from fs f.link ++ (k ∷ [])
unfolding display_from chain_of
display-step fs down k f e = ap reverse (along-step (λ i e. i) fs down k f e) ∙ reverse-cons k (along (λ i e. i) f.link fs f.link)

pub display-length : (fs : List Frame) (k : ℕ) → length (display_from fs k) ≡ level_of fs k
unfolding display_from level_of
display-length fs k = length-reverse (chain_of fs k)

pub level-step : (fs : List Frame) → Downward fs → (k : ℕ) (f : Frame) → numbered fs k ≡ some f → level_of fs k ≡ suc (level_of fs f.link)
unfolding level_of chain_of
level-step fs down k f e = ap length (along-step (λ i e. i) fs down k f e)

module _ (fs : List Frame) (down : Downward fs) where
  display-of : (gs : List Frame) (k : ℕ) → length gs ≡ k → SameOutlines k fs gs → display_of gs ≡ display_from fs k
  unfolding display_of
  display-of gs k e a = ap (display_from gs) e ∙ display-alike fs gs k a down k (omega arith)

  display-on : (gs : List Frame) (f : Frame) → SameOutlines (length fs) fs gs → length gs ≡ suc (length fs) → numbered gs (suc (length fs)) ≡ some f → f.link ≤ length fs → display_of gs ≡ display_from fs f.link ++ (suc (length fs) ∷ [])
  unfolding display_of
  display-on gs f a c n h =
      ap (display_from gs) c ∙ display-step gs (downward-entered fs gs f a c n h down) (suc (length fs)) f n
      ∙ ap (λ (l : List ℕ). l ++ (suc (length fs) ∷ [])) (display-alike fs gs (length fs) a down f.link h)

  pub display-entered : (f : Frame) → f.link ≤ length fs → display_of (fs ++ (f ∷ [])) ≡ display_from fs f.link ++ (suc (length fs) ∷ [])
  unfolding display_of
  display-entered f h =
      display-on (fs ++ (f ∷ [])) f (alike-append fs (f ∷ [])) (length-append fs (f ∷ []) ∙ omega arith) (numbered-seam fs f) h

  pub display-after-block : (b : Block) → display_of (fs ++ (new_frame [] [] b (length fs) ∷ [])) ≡ display_of fs ++ (suc (length fs) ∷ [])
  unfolding new_frame display_of
  display-after-block b = display-entered (new_frame [] [] b (length fs)) (omega arith)

  pub display-after-call : (formals : List Formal) (xs : List ℕ) (b : Block) (k : ℕ) → k ≤ length fs → display_of (fs ++ (new_frame formals xs b k ∷ [])) ≡ display_from fs k ++ (suc (length fs) ∷ [])
  unfolding new_frame
  display-after-call formals xs b k h = display-entered (new_frame formals xs b k) h

  pub display-after-return : display_of (but_last fs) ≡ display_from fs (pred (length fs))
  display-after-return = rw but_last-take (display-of (take (pred (length fs)) fs) (pred (length fs)) (length-take-le (pred (length fs)) fs (omega arith)) (alike-take (pred (length fs)) fs))

  -- and for a frame that was entered from the one below, as a block is, only the last entry goes
  pub display-after-block-return : (f : Frame) → last? fs ≡ some f → f.link ≡ pred (length fs) → display_of fs ≡ display_of (but_last fs) ++ (length fs ∷ [])
  unfolding display_of
  display-after-block-return f e l =
      display-step fs down (length fs) f (sym (last-numbered fs) ∙ e) ∙ ap (λ k. display_from fs k ++ (length fs ∷ [])) l ∙ ap (λ (d : List ℕ). d ++ (length fs ∷ [])) (sym display-after-return)

  pub display-after-goto : (k : ℕ) (f : Frame) (i : ℕ) → numbered fs k ≡ some f → display_of (take (pred k) fs ++ (continue f i ∷ [])) ≡ display_from fs k
  display-after-goto k f i e = display-of (take (pred k) fs ++ (continue f i ∷ [])) k (cut-length fs k f (continue f i) e) (alike-cut fs k f (continue f i) e (outline-continue f i))

  pub display-after-advance : (f : Frame) (i : ℕ) → last? fs ≡ some f → display_of (but_last fs ++ (continue f i ∷ [])) ≡ display_of fs
  unfolding display_of
  display-after-advance f i e = rw but_last-take (display-after-goto (length fs) f i (sym (last-numbered fs) ∙ e))

  pub display-after-store : (x : ℕ) (z : ℤ) → display_of (put_word fs x z) ≡ display_of fs
  unfolding put_word display_of
  display-after-store x z = go (numbered fs (frame_number x)) refl
    where
      go : (o : Option Frame) → numbered fs (frame_number x) ≡ o → display_of (put_word fs x z) ≡ display_of fs
      go none e = ap display_of (rw (put_word, e))
      go (some f) e =
          let g = rewritten f (set f.words (place x) z) in
          let n = pred (frame_number x) in
          let p : put_word fs x z ≡ set fs n g = rw (put_word, e) in
          ap display_of p ∙ display-of (set fs n g) (length fs) (length-set fs n g) (alike_set fs (frame_number x) f g e (outline-rewritten f (set f.words (place x) z)) (length fs))

  -- from frame k of level L, the frame of level j has the first j entries
  pub display-prefix : (k j : ℕ) → j ≤ level_of fs k → display_from fs (climb fs k (level_of fs k - j)) ≡ take j (display_from fs k)
  unfolding display_from chain_of level_of
  display-prefix k j h =
      let c = chain_of fs k in
      let e : length c - (length c - j) ≡ j = omega arith in
      ap reverse (along-climb (λ i e. i) fs down k (length c - j)) ∙ reverse-drop c (length c - j) (omega arith) ∙ ap (λ n. take n (reverse c)) e

  -- so the frame of a level on a chain has that level
  pub level-outward : (k j : ℕ) → j ≤ level_of fs k → level_of fs (climb fs k (level_of fs k - j)) ≡ j
  level-outward k j h =
      sym (display-length fs (climb fs k (level_of fs k - j))) ∙ ap length (display-prefix k j h) ∙ length-take-le j (display_from fs k) (omega (arith, display-length fs k))

  -- entry by entry: an entry puts its number at its own level, and what lies further out is its link's
  pub entry_new : (f : Frame) → f.link ≤ length fs → numbered (display_of (fs ++ (f ∷ []))) (suc (level_of fs f.link)) ≡ some (suc (length fs))
  entry_new f h =
      let d = display_from fs f.link in
      ap (λ (l : List ℕ). numbered l (suc (level_of fs f.link))) (display-entered f h) ∙ ap (λ n. numbered (d ++ (suc (length fs) ∷ [])) (suc n)) (sym (display-length fs f.link)) ∙ numbered-seam d (suc (length fs))

  pub entries-kept : (f : Frame) → f.link ≤ length fs → (j : ℕ) → j ≤ level_of fs f.link → numbered (display_of (fs ++ (f ∷ []))) j ≡ numbered (display_from fs f.link) j
  entries-kept f h j p =
      ap (λ (l : List ℕ). numbered l j) (display-entered f h) ∙ numbered-append (display_from fs f.link) (suc (length fs) ∷ []) j (omega (arith, display-length fs f.link))

  -- the frame of level i on the chain of frame k has the same entries up to i
  pub entries-shared : (k i : ℕ) → i ≤ level_of fs k → (j : ℕ) → j ≤ i → numbered (display_from fs (climb fs k (level_of fs k - i))) j ≡ numbered (display_from fs k) j
  entries-shared k i h j p = ap (λ (l : List ℕ). numbered l j) (display-prefix k i h) ∙ numbered-take i (display_from fs k) j p

  -- an entry's own display is what stands up to it, so that two displays that meet at a level are the same up to there
  pub display-up-to : (k j m : ℕ) → numbered (display_from fs k) j ≡ some m → take j (display_from fs k) ≡ display_from fs m
  display-up-to k j m e =
      let low = numbered-low (display_from fs k) j m e in
      let high : j ≤ level_of fs k = omega (arith, numbered-high (display_from fs k) j m e, display-length fs k) in
      let same : climb fs k (level_of fs k - j) ≡ m = some-injective (climb fs k (level_of fs k - j)) m (sym (frame-by-display fs down k j low high) ∙ e) in
      sym (display-prefix k j high) ∙ ap (display_from fs) same

  pub displays-meet : (k l j m : ℕ) → numbered (display_from fs k) j ≡ some m → numbered (display_from fs l) j ≡ some m → take j (display_from fs k) ≡ take j (display_from fs l)
  displays-meet k l j m p q = display-up-to k j m p ∙ sym (display-up-to l j m q)

  -- every entry is a frame's number, at most that of the frame whose display it is
  pub entry-bound : (k j m : ℕ) → numbered (display_from fs k) j ≡ some m → (1 ≤ m) × (m ≤ k)
  entry-bound k j m e =
      let low = numbered-low (display_from fs k) j m e in
      let high : j ≤ level_of fs k = omega (arith, numbered-high (display_from fs k) j m e, display-length fs k) in
      let same : climb fs k (level_of fs k - j) ≡ m = some-injective (climb fs k (level_of fs k - j)) m (sym (frame-by-display fs down k j low high) ∙ e) in
      let g = frame-of-level fs down k j low high in
      (omega (arith, numbered-low fs (climb fs k (level_of fs k - j)) g.0 g.1), omega (arith, climb-bound fs down k (level_of fs k - j)))

-- The display after a step: that of a frame that was there (a store, a return, a goto), or an entered frame's.
pub data Redisplayed (s s' : Stack) : Type 0 where
  onto : length s'.frames ≤ length s.frames → display_of s'.frames ≡ display_from s.frames (length s'.frames) → Redisplayed s s'
  into : (f : Frame) → length s'.frames ≡ suc (length s.frames) → numbered s'.frames (suc (length s.frames)) ≡ some f → f.link ≤ length s.frames
      → display_of s'.frames ≡ display_from s.frames f.link ++ (suc (length s.frames) ∷ []) → Redisplayed s s'

pub display-after-step : (l : Limits) (s s' : Stack) → Downward s.frames → frame_step l s ≡ acted s' → Redisplayed s s'
display-after-step l s s' down e = go (step-moved l s s' e)
  where
    go : Moved s s' → Redisplayed s s'
    go (kept h a) = onto h (display-of s.frames down s'.frames (length s'.frames) refl a)
    go (entered f c a n x) = into f c n (entered-link s f x) (display-on s.frames down s'.frames f a c n (entered-link s f x))
