-- Names as coordinates: searching, counting links and a display find the same instance. All is said of frames whose links go down
-- (`Downward`; a run keeps that: Kept.antt). With L the level of frame k and c the coordinate of a name in k's enclosure:
-- `frame-by-links`: the frame j levels deep is L - j links up, and its block is the enclosing block of that level;
-- `frame-by-display`: it is the display's entry j; `declaring-frame`: at c's level it has the name at c's position;
-- `sought-by-links`: the search ends there, at c's position, after so many links; `sought-none-iff`: it finds nothing where c is none;
-- `designates-by-links`, `designates-by-display`: and so for the designator; `hidden`: a name without coordinate designates nothing.
use Rattle.std.specs.Prelude.{ℕ, pred, ◌+◌, ◌-◌, ◌≤◌, List, ◌↔◌, ◌≡◌, refl, get_or}
use native.Mathlib.Omega.{arith}
use Rattle.std.proofs.Math.Option.{Option, none, some, map, none-ne-some, map-eq-some_iff}
use Rattle.std.proofs.Common.{sym, ◌∙◌}
use Rattle.std.proofs.Math.Path.{ap, subst}
use Rattle.std.proofs.Math.ListN.{length, get_elem?}
use Rattle.laws.specs.Lists.{get_elem-in}
use Rattle.frames.specs.Frame.{Frame, NamePlace, numbered, frame_names, seek_from, seek_name, finally, designates, links_followed}
use Rattle.frames.specs.Numbered.{numbered-reverse, numbered-get_d}
use Rattle.coordinates.specs.Enclosure.{Enclosing, Coordinate, names_of, coordinate_of, outward, at_level}
use Rattle.coordinates.specs.Chain.{enclosing, chain_of, enclosure_of, level_of, climb, display_from, display_of, Downward}
use Rattle.coordinates.proofs.Along.{along-at, along-length}
use Rattle.coordinates.proofs.Search.{place_from, sought}
use Rattle.coordinates.proofs.Declared.{level-at, coordinate-declares}

-- a frame's level is that of its block in the text
pub level-of-text : (fs : List Frame) (k : ℕ) → level_of fs k ≡ length (enclosure_of fs k)
unfolding level_of chain_of enclosure_of
level-of-text fs k = along-length (λ i e. i) (λ i e. e) k fs k

constant-map : {A B : Type 0} (b : B) (o : Option A) (c : B) → map (λ a. b) o ≡ some c → map (λ (a : A). b) o ≡ some b
constant-map b none c e = absurd (none-ne-some c e)
constant-map b (some a) c e = refl

-- the instance at a position of frame k
abbrev pub instance_at : ℕ → ℕ → ℕ → NamePlace
instance_at k p j = record { number = k; position = p; followed = j }

pub record DeclaringFrame (fs : List Frame) (k n : ℕ) (c : Coordinate) : Type 0 where
  pub frame : Frame
  pub stands : numbered fs (climb fs k (level_of fs k - c.level)) ≡ some frame
  pub block : at_level (enclosure_of fs k) c.level ≡ some (enclosing frame)
  pub named : numbered (frame_names frame) c.position ≡ some n

module _ (fs : List Frame) (down : Downward fs) where
  pub frame-by-links : (k j : ℕ) → 1 ≤ j → j ≤ level_of fs k → map enclosing (numbered fs (climb fs k (level_of fs k - j))) ≡ at_level (enclosure_of fs k) j
  unfolding enclosure_of
  frame-by-links k j p h =
      let e : level_of fs k ≡ length (enclosure_of fs k) = level-of-text fs k in
      rw e (sym (level-at (enclosure_of fs k) j p (omega arith) ∙ along-at (λ i x. x) fs down k (length (enclosure_of fs k) - j)))

  -- there is such a frame
  pub frame-of-level : (k j : ℕ) → 1 ≤ j → j ≤ level_of fs k → (g : Frame) × (numbered fs (climb fs k (level_of fs k - j)) ≡ some g)
  frame-of-level k j p h =
      let es = enclosure_of fs k in
      let l = level-of-text fs k in
      let x = get_elem-in es (length es - j) (omega arith) in
      let g = (map-eq-some_iff enclosing (numbered fs (climb fs k (level_of fs k - j)))).0 (frame-by-links k j p h ∙ level-at es j p (omega arith) ∙ x.1) in
      (g.0, g.1)

  pub frame-by-display : (k j : ℕ) → 1 ≤ j → j ≤ level_of fs k → numbered (display_from fs k) j ≡ some (climb fs k (level_of fs k - j))
  unfolding display_from chain_of level_of
  frame-by-display k j p h =
      let i = length (chain_of fs k) - j in
      let x = get_elem-in (chain_of fs k) i (omega arith) in
      let e : get_elem? (chain_of fs k) i ≡ map (λ f. climb fs k i) (numbered fs (climb fs k i)) = along-at (λ i x. i) fs down k i in
      numbered-reverse (chain_of fs k) j p h ∙ e ∙ constant-map (climb fs k i) (numbered fs (climb fs k i)) x.0 (sym e ∙ x.1)

  -- the same as an array of entries has it
  pub display-entry : (k j : ℕ) → 1 ≤ j → j ≤ level_of fs k → get_or (display_from fs k) (pred j) 0 ≡ climb fs k (level_of fs k - j)
  display-entry k j p h = numbered-get_d (display_from fs k) j (climb fs k (level_of fs k - j)) 0 (frame-by-display k j p h)

  pub sought-by-links : (m k n j : ℕ) (c : Coordinate) → k ≤ m → coordinate_of (enclosure_of fs k) n ≡ some c
      → let links = level_of fs k - c.level in seek_from m fs k n j ≡ some (instance_at (climb fs k links) c.position (j + links))
  unfolding place_from outward
  sought-by-links m k n j c h e = rw (level-of-text fs k) (sought fs down m k n j h ∙ ap (place_from fs k j) e)

  pub sought-nowhere : (m k n j : ℕ) → k ≤ m → coordinate_of (enclosure_of fs k) n ≡ none → seek_from m fs k n j ≡ none
  unfolding place_from
  sought-nowhere m k n j h e = sought fs down m k n j h ∙ ap (place_from fs k j) e

  -- nothing is found exactly where there is no coordinate
  pub sought-none-iff : (m k n j : ℕ) → k ≤ m → (seek_from m fs k n j ≡ none) ↔ (coordinate_of (enclosure_of fs k) n ≡ none)
  sought-none-iff m k n j h = (λ e. go e (coordinate_of (enclosure_of fs k) n) refl, sought-nowhere m k n j h)
    where
      go : seek_from m fs k n j ≡ none → (o : Option Coordinate) → coordinate_of (enclosure_of fs k) n ≡ o → coordinate_of (enclosure_of fs k) n ≡ none
      go e none q = q
      go e (some c) q = absurd (none-ne-some _ (sym e ∙ sought-by-links m k n j c h q))

  -- the frame that declares the name
  pub declaring-frame : (k n : ℕ) (c : Coordinate) → coordinate_of (enclosure_of fs k) n ≡ some c → DeclaringFrame fs k n c
  unfolding names_of frame_names enclosing
  declaring-frame k n c e =
      let d = coordinate-declares (enclosure_of fs k) n c e in
      let h : c.level ≤ level_of fs k = omega (arith, d.high, level-of-text fs k) in
      let g = (map-eq-some_iff enclosing (numbered fs (climb fs k (level_of fs k - c.level)))).0 (frame-by-links k c.level d.low h ∙ d.stands) in
      record { frame = g.0; stands = g.1; block = d.stands ∙ ap {B = Option Enclosing} some (sym g.2); named = subst (λ (x : Enclosing). numbered (names_of x) c.position ≡ some n) (sym g.2) d.named }

  -- from the innermost frame

  abbrev pub Here : ℕ → Option Coordinate → Type 0
  Here n o = coordinate_of (enclosure_of fs (length fs)) n ≡ o

  abbrev pub up : Coordinate → ℕ
  up c = level_of fs (length fs) - c.level

  pub found : (n : ℕ) (c : Coordinate) → Here n (some c) → seek_name fs n ≡ some (instance_at (climb fs (length fs) (up c)) c.position (up c))
  unfolding seek_name
  found n c e =
      let z : 0 + up c ≡ up c = omega arith in
      sought-by-links (length fs) (length fs) n 0 c (omega arith) e ∙ ap (λ j. some (instance_at (climb fs (length fs) (up c)) c.position j)) z

  pub designates-by-links : (n : ℕ) (c : Coordinate) → Here n (some c) → designates fs n ≡ finally fs (instance_at (climb fs (length fs) (up c)) c.position (up c))
  unfolding designates
  designates-by-links n c e = rw (designates, found n c e)

  pub links-counted : (n : ℕ) (c : Coordinate) → Here n (some c) → links_followed fs n ≡ up c
  unfolding links_followed
  links-counted n c e = rw (links_followed, found n c e)

  pub designates-by-display : (n : ℕ) (c : Coordinate) → Here n (some c) → designates fs n ≡ finally fs (instance_at (get_or (display_of fs) (pred c.level) 0) c.position 0)
  unfolding display_of finally
  designates-by-display n c e =
      let d = coordinate-declares (enclosure_of fs (length fs)) n c e in
      let h : c.level ≤ level_of fs (length fs) = omega (arith, d.high, level-of-text fs (length fs)) in
      designates-by-links n c e ∙ ap (λ k. finally fs (instance_at k c.position (up c))) (sym (display-entry (length fs) c.level d.low h))

  pub hidden : (n : ℕ) → Here n none → designates fs n ≡ 0
  unfolding designates seek_name
  hidden n e = rw (designates, sought-nowhere (length fs) (length fs) n 0 (omega arith) e)
