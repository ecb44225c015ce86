-- Names found in arrays, for frames linked as the text says. `NameAt fs cells n w first`: what the name n, whose word is w, leads to, where `first`
-- is the first cell of the activation that declares it. `named-by-display`: the display's entry of the word's level is that cell;
-- `named-by-links`: following the links as many levels out leads to that activation. `unseen`: a word of 0 is that of a name that is not
-- visible, which designates nothing; `seen`: any other is that of a name with a coordinate. `direct-shows`: for a name that is no formal the
-- display is already that of the declaring frame, as far as it goes.
use Prim.Native.Nat.{ℕ, zero, suc, pred, ◌+◌, ◌*◌, ◌-◌, ◌%◌, ◌≤◌, ◌<◌}
use Rattle.std.proofs.Common.{arith, ◌∙◌}
use Rattle.std.specs.Prelude.{List, [], ◌≡◌, refl, leb, ℤ, pos, length}
use Rattle.std.proofs.Math.Option.{some}
use Rattle.std.proofs.Math.Path.{sym, ap, subst}
use borrow.Author.Tests.{leb-true, leb-false, le-leb, lt-leb}
use Rattle.std.proofs.Math.ListN.{get_or, get_elem?}
use Rattle.language.specs.Text.{Kind, Block, Decl, VR, LB, PR, block_decls, decl_kind}
use Rattle.language.specs.Encoding.{kind_field}
use Rattle.laws.specs.Tests.{split, by-lookup, some_inj}
use Rattle.laws.specs.Lists.{get_d-elem}
use Rattle.grammar.specs.Rules.{Keeps}
use Rattle.frames.specs.Frame.{Frame, numbered, designator_in, designates, links_followed, frame_number, place, decl_of}
use Rattle.frames.specs.Numbered.{numbered-low, numbered-high, numbered-index, numbered-exists}
use Rattle.frame_laws.specs.Finding.{seek_name-starts, seek-spent, designates-none, links-none, decl_of-found, finally-formal, finally-declared}
use Rattle.frame_laws.specs.Bounds.{Points, BoundedFrames}
use Rattle.frame_laws.specs.BoundedFrames.{points-weaker}
use Rattle.frame_laws.specs.Names.{numbered-bounded, points-declared}
use Rattle.coordinates.specs.Enclosure.{Coordinate, coordinate_of, Encloses}
use Rattle.coordinates.specs.Chain.{enclosing, enclosure_of, level_of, climb, Downward, Chained}
use Rattle.coordinates.proofs.Along.{climb-zero, climb-some}
use Rattle.coordinates.proofs.Declared.{coordinate-declares}
use Rattle.coordinates.proofs.Coordinates.{level-of-text, frame-of-level, instance_at, DeclaringFrame, declaring-frame, designates-by-links, links-counted, hidden}
use Rattle.coordinates.proofs.Kept.{chained-downward}
use Rattle.coordinates.proofs.Levels.{enclosure-of-text}
use Rattle.coordinates.proofs.Display.{level-step, level-outward}
use Rattle.coordinates.proofs.Designated.{Designated, Wired, number-of, place-of}
use Rattle.resolved.specs.Resolved.{position_in, formal_in, kind_in, level_in, target_in, decl_kind_field, name_word}
use Rattle.resolved.proofs.NameWords.{Narrow, narrow-of-text, NameIs, name-is, formal-there, decl-there, position-few, position-bounds, word-none-iff}
use Rattle.arrays.specs.Holds.{cell_of, target_of, formal_word, Holds, Shows}
use Rattle.arrays.proofs.Cells.{target_found}
use Rattle.arrays.specs.Displays.{ShowsFrom, LinksOf, holds-links, shows-innermost, shows-entry, shows-outer}

pub record NameAt (fs : List Frame) (cells : List ℤ) (n w first : ℕ) : Type 0 where
  pub level-low : 1 ≤ level_in w
  pub level-high : level_in w ≤ level_of fs (length fs)
  pub whole : first % 32 ≡ 0
  pub within : first + 32 ≤ 32 * length fs
  pub direct-cell : formal_in w ≡ 0 → first + position_in w ≡ cell_of (designates fs n)
  pub direct-target : formal_in w ≡ 0 → target_in w ≡ target_of fs (designates fs n)
  pub formal-word : formal_in w ≡ 1 → get_or cells (first + position_in w) (pos 0) ≡ pos (formal_word fs (designates fs n))
  pub kind : (k : Kind) → Designated fs (designates fs n) k → kind_in w ≡ kind_field k

-- a frame's level is one more than the blocks around its own
pub frame-level : (fs : List Frame) → Downward fs → (k : ℕ) (f : Frame) → numbered fs k ≡ some f → level_of fs k ≡ suc (length (enclosure_of fs f.link))
frame-level fs down k f e = level-step fs down k f e ∙ ap suc (level-of-text fs f.link)

-- the activation so many links further out
unfoldable pub follow : List ℕ → ℕ → ℕ → ℕ
follow links a zero = a
follow links a (suc j) = follow links (get_or links a 0) j

pub follow-climbs : (fs : List Frame) → Downward fs → (links : List ℕ) → LinksOf fs links → (j k : ℕ) (f : Frame) → numbered fs k ≡ some f → j < level_of fs k
    → follow links (pred k) j ≡ pred (climb fs k j)
unfolding follow
follow-climbs fs down links linked zero k f e h = ap pred (sym (climb-zero fs k))
follow-climbs fs down links linked (suc j) k f e h =
    let l : level_of fs k ≡ suc (level_of fs f.link) = level-step fs down k f e in
    let z : level_of fs f.link - level_of fs f.link ≡ 0 = omega arith in
    let g = frame-of-level fs down f.link (level_of fs f.link) (omega arith) (omega arith) in
    let q : numbered fs f.link ≡ some g.0 = ap (numbered fs) (sym (ap (climb fs f.link) z ∙ climb-zero fs f.link)) ∙ g.1 in
    ap (λ a. follow links a j) (linked (pred k) f (numbered-index fs k f e))
    ∙ follow-climbs fs down links linked j f.link g.0 q (omega arith) ∙ ap pred (sym (climb-some fs k j f e))

-- the kind of a declaration, as a field
decl-kind-field : (d : Decl) → decl_kind_field d ≡ kind_field (decl_kind d)
unfolding decl_kind_field kind_field decl_kind
decl-kind-field (VR at n) = refl
decl-kind-field (LB at n i) = refl
decl-kind-field (PR at n fs b) = refl

module _ (t : Block) (keeps : Keeps t) (fs : List Frame) (chain : Chained t fs) (n : ℕ) (c : Coordinate) (found : coordinate_of (enclosure_of fs (length fs)) n ≡ some c) where
  down : Downward fs
  down = chained-downward t fs chain

  w : ℕ
  w = name_word (enclosure_of fs (length fs)) n

  holder : ℕ
  holder = climb fs (length fs) (level_of fs (length fs) - c.level)

  home : DeclaringFrame fs (length fs) n c
  home = declaring-frame fs down (length fs) n c found

  home-stands : numbered fs holder ≡ some home.frame
  unfolding holder
  home-stands = home.stands

  holder-bounds : (1 ≤ holder) × (holder ≤ length fs)
  holder-bounds = (numbered-low fs holder home.frame home-stands, numbered-high fs holder home.frame home-stands)

  within_text : Encloses t (enclosure_of fs (length fs))
  within_text =
      let f = numbered-exists fs (length fs) (omega (arith, holder-bounds.0, holder-bounds.1)) (omega arith) in
      enclosure-of-text t fs chain (length fs) f.0 f.1

  narrow : Narrow (enclosure_of fs (length fs))
  narrow = narrow-of-text t keeps (enclosure_of fs (length fs)) within_text

  word-is : NameIs w c (enclosing home.frame)
  unfolding w
  word-is = name-is (enclosure_of fs (length fs)) narrow n c found (enclosing home.frame) home.block

  level-bounds : (1 ≤ c.level) × (c.level ≤ level_of fs (length fs))
  level-bounds =
      let d = coordinate-declares (enclosure_of fs (length fs)) n c found in
      (d.low, omega (arith, d.high, level-of-text fs (length fs)))

  position-range : (1 ≤ c.position) × (c.position ≤ 32)
  position-range =
      ((position-bounds (enclosure_of fs (length fs)) n c found (enclosing home.frame) home.block).0, position-few (enclosure_of fs (length fs)) narrow n c found (enclosing home.frame) home.block)

  abbrev up : ℕ
  up = level_of fs (length fs) - c.level

  -- A declared name

  module _ (h : length home.frame.formals < c.position) where
    direct-designates : designates fs n ≡ holder * 64 + c.position
    unfolding holder
    direct-designates =
        designates-by-links fs down n c found ∙ finally-declared fs (instance_at (climb fs (length fs) up) c.position up) home.frame home.stands (lt-leb c.position (length home.frame.formals) h)

    direct-number : frame_number (designates fs n) ≡ holder
    direct-number = ap frame_number direct-designates ∙ number-of holder c.position (omega (arith, position-range.1))

    direct-place : place (designates fs n) ≡ pred c.position
    direct-place =
        let e : c.position - 1 ≡ pred c.position = omega arith in
        ap place direct-designates ∙ place-of holder c.position (omega (arith, position-range.1)) ∙ e

    there : (d : Decl) × (get_elem? (block_decls home.frame.text) (pred c.position - length home.frame.formals) ≡ some d)
    unfolding enclosing
    there = decl-there (enclosure_of fs (length fs)) n c found (enclosing home.frame) home.block h

    direct-stands : numbered fs (frame_number (designates fs n)) ≡ some home.frame
    direct-stands = ap (numbered fs) direct-number ∙ home-stands

    direct-declared : decl_of fs (designates fs n) ≡ some there.0
    direct-declared =
        decl_of-found fs (designates fs n) home.frame direct-stands ∙ ap (λ i. get_elem? (block_decls home.frame.text) (i - length home.frame.formals)) direct-place ∙ there.1

    cell-is : 32 * pred holder + position_in w ≡ cell_of (designates fs n)
    unfolding cell_of
    cell-is =
        ap (λ i. 32 * pred holder + i) word-is.position ∙ sym (ap (λ i. 32 * pred i + place (designates fs n)) direct-number ∙ ap (λ i. 32 * pred holder + i) direct-place)

    target_is : target_in w ≡ target_of fs (designates fs n)
    unfolding enclosing
    target_is = word-is.declared-target there.0 h there.1 ∙ sym (target_found fs (designates fs n) home.frame there.0 direct-stands direct-declared)

    direct-kind : (k : Kind) → Designated fs (designates fs n) k → kind_in w ≡ kind_field k
    unfolding enclosing
    direct-kind k d =
        word-is.declared-kind there.0 h there.1 ∙ decl-kind-field there.0 ∙ ap (λ (x : Decl). kind_field (decl_kind x)) (some_inj (sym direct-declared ∙ d.declared)) ∙ ap kind_field d.kind

  -- A formal

  module _ (h : c.position ≤ length home.frame.formals) where
    formal-designates : designates fs n ≡ designator_in (get_or home.frame.words (pred c.position) (pos 0))
    unfolding holder
    formal-designates =
        designates-by-links fs down n c found ∙ finally-formal fs (instance_at (climb fs (length fs) up) c.position up) home.frame home.stands (le-leb c.position (length home.frame.formals) h)

    word-there : (blocks nexts links : List ℕ) (cells : List ℤ) → Holds fs blocks nexts links cells → get_or cells (32 * pred holder + position_in w) (pos 0) ≡ pos (formal_word fs (designates fs n))
    word-there blocks nexts links cells holds =
        ap (λ i. get_or cells (32 * pred holder + i) (pos 0)) word-is.position
        ∙ (holds (pred holder) home.frame (numbered-index fs holder home.frame home-stands)).formals-are (pred c.position) (omega (arith, position-range.0))
        ∙ ap (λ x. pos (formal_word fs x)) (sym formal-designates)

    formal-kind : Wired fs → (k : Kind) → Designated fs (designates fs n) k → kind_in w ≡ kind_field k
    unfolding enclosing designator_in
    formal-kind wired k d =
        let m = formal-there (enclosure_of fs (length fs)) n c found (enclosing home.frame) home.block h in
        let v = wired holder home.frame home-stands (pred c.position) m.0 m.1 in
        let x : designates fs n ≡ v.designator = formal-designates ∙ ap designator_in (get_d-elem home.frame.words (pred c.position) (pos v.designator) (pos 0) v.word) in
        let same : d.decl ≡ v.instance.decl = some_inj (sym d.declared ∙ ap (decl_of fs) x ∙ v.instance.declared) in
        word-is.formal-kind m.0 m.1 ∙ ap kind_field (sym v.instance.kind ∙ ap decl_kind (sym same) ∙ d.kind)

  -- which of the two it is
  not-formal : formal_in w ≡ 0 → length home.frame.formals < c.position
  unfolding enclosing
  not-formal z =
      split (leb c.position (length home.frame.formals)) (λ q. absurd (omega (arith, word-is.formal (leb-true c.position (length home.frame.formals) q))))
      (λ q. leb-false c.position (length home.frame.formals) q)

  not-declared : formal_in w ≡ 1 → c.position ≤ length home.frame.formals
  unfolding enclosing
  not-declared z =
      split (leb c.position (length home.frame.formals)) (λ q. leb-true c.position (length home.frame.formals) q)
      (λ q. absurd (omega (arith, word-is.declared (leb-false c.position (length home.frame.formals) q))))

  named : Wired fs → (blocks nexts links : List ℕ) (cells : List ℤ) → Holds fs blocks nexts links cells → (first : ℕ) → first ≡ 32 * pred holder → NameAt fs cells n w first
  named wired blocks nexts links cells holds first e =
      record {
        level-low = omega (arith, word-is.level, level-bounds.0);
        level-high = omega (arith, word-is.level, level-bounds.1);
        whole = omega arith;
        within = omega (arith, holder-bounds.0, holder-bounds.1);
        direct-cell = λ z. ap (λ i. i + position_in w) e ∙ cell-is (not-formal z);
        direct-target = λ z. target_is (not-formal z);
        formal-word = λ z. ap (λ i. get_or cells (i + position_in w) (pos 0)) e ∙ word-there (not-declared z) blocks nexts links cells holds;
        kind = λ k d.
            split (leb c.position (length home.frame.formals)) (λ q. formal-kind (leb-true c.position (length home.frame.formals) q) wired k d)
            (λ q. direct-kind (leb-false c.position (length home.frame.formals) q) k d);
      }

  -- The ways to the activation

  entry-is : (display : List ℕ) → Shows fs display → get_or display (level_in w) 0 ≡ 32 * pred holder
  unfolding holder
  entry-is display shows =
      ap (λ j. get_or display j 0) word-is.level ∙ shows-entry fs down display (length fs) c.level level-bounds.0 level-bounds.1 (shows-innermost fs display shows)

  followed-is : (blocks nexts links : List ℕ) (cells : List ℤ) → Holds fs blocks nexts links cells → follow links (pred (length fs)) (level_of fs (length fs) - level_in w) ≡ pred holder
  unfolding holder
  followed-is blocks nexts links cells holds =
      let f = numbered-exists fs (length fs) (omega (arith, holder-bounds.0, holder-bounds.1)) (omega arith) in
      ap (λ j. follow links (pred (length fs)) (level_of fs (length fs) - j)) word-is.level
      ∙ follow-climbs fs down links (holds-links fs blocks nexts links cells holds) up (length fs) f.0 f.1 (omega (arith, level-bounds.0, level-bounds.1))

  -- What it designates is a declared name of a live frame

  direct-points : BoundedFrames fs → length home.frame.formals < c.position → Points fs (length fs) (designates fs n)
  unfolding enclosing
  direct-points bounded h =
      let b = position-bounds (enclosure_of fs (length fs)) n c found (enclosing home.frame) home.block in
      subst (Points fs (length fs)) (sym (direct-designates h)) (points-declared fs holder c.position home.frame home-stands h b.1 (omega (arith, position-range.1)))

  formal-points : BoundedFrames fs → c.position ≤ length home.frame.formals → Points fs (length fs) (designates fs n)
  unfolding designator_in
  formal-points bounded h =
      let s = numbered-bounded fs holder home.frame bounded home-stands in
      let v = s.handed (pred c.position) (omega (arith, position-range.0)) in
      subst (Points fs (length fs)) (sym (formal-designates h ∙ ap designator_in v.1)) (points-weaker fs (pred holder) (length fs) v.0 (omega (arith, holder-bounds.1)) v.2)

-- The laws

-- the word that a name that is no formal hands over as an argument
pub handed-word : (fs : List Frame) (cells : List ℤ) (n w first : ℕ) → NameAt fs cells n w first → formal_in w ≡ 0 → first + position_in w + 8192 * target_in w ≡ formal_word fs (designates fs n)
unfolding formal_word
handed-word fs cells n w first h z = omega (arith, h.direct-cell z, h.direct-target z)

-- with no frame live, nothing is found
pub nothing-live : (n : ℕ) → (designates [] n ≡ 0) × (links_followed [] n ≡ 0)
nothing-live n =
    let e = seek_name-starts [] n ∙ seek-spent [] 0 n 0 in
    (designates-none [] n e, links-none [] n e)

module _ (t : Block) (keeps : Keeps t) (fs : List Frame) (chain : Chained t fs) where
  abbrev word_of : ℕ → ℕ
  word_of n = name_word (enclosure_of fs (length fs)) n

  pub unseen : (n : ℕ) → word_of n ≡ 0 → designates fs n ≡ 0
  unseen n z = hidden fs (chained-downward t fs chain) n ((word-none-iff (enclosure_of fs (length fs)) n).0 z)

  pub seen : (n : ℕ) → (word_of n ≡ 0 → ⊥) → (c : Coordinate) × (coordinate_of (enclosure_of fs (length fs)) n ≡ some c)
  seen n d =
      by-lookup (coordinate_of (enclosure_of fs (length fs)) n) (λ q. absurd (d ((word-none-iff (enclosure_of fs (length fs)) n).1 q))) (λ c q. (c, q))

  module _ (n : ℕ) (c : Coordinate) (found : coordinate_of (enclosure_of fs (length fs)) n ≡ some c) where
    pub followed-links : links_followed fs n ≡ level_of fs (length fs) - level_in (word_of n)
    unfolding w
    followed-links = links-counted fs (chained-downward t fs chain) n c found ∙ ap (λ j. level_of fs (length fs) - j) (sym (word-is t keeps fs chain n c found).level)

    module _ (wired : Wired fs) (blocks nexts links : List ℕ) (cells : List ℤ) (holds : Holds fs blocks nexts links cells) where
      pub named-by-display : (display : List ℕ) → Shows fs display → NameAt fs cells n (word_of n) (get_or display (level_in (word_of n)) 0)
      unfolding w
      named-by-display display shows = named t keeps fs chain n c found wired blocks nexts links cells holds _ (entry-is t keeps fs chain n c found display shows)

      pub named-by-links : NameAt fs cells n (word_of n) (32 * follow links (pred (length fs)) (level_of fs (length fs) - level_in (word_of n)))
      unfolding w
      named-by-links = named t keeps fs chain n c found wired blocks nexts links cells holds _ (ap (λ a. 32 * a) (followed-is t keeps fs chain n c found blocks nexts links cells holds))

    pub named-points : BoundedFrames fs → Points fs (length fs) (designates fs n)
    named-points bounded =
        let g = (home t keeps fs chain n c found).frame in
        split (leb c.position (length g.formals)) (λ q. formal-points t keeps fs chain n c found bounded (leb-true c.position (length g.formals) q))
        (λ q. direct-points t keeps fs chain n c found bounded (leb-false c.position (length g.formals) q))

    -- the level of the declaring frame, for a name that is no formal
    pub direct-level : formal_in (word_of n) ≡ 0 → level_of fs (frame_number (designates fs n)) ≡ level_in (word_of n)
    unfolding w holder
    direct-level z =
        ap (level_of fs) (direct-number t keeps fs chain n c found (not-formal t keeps fs chain n c found z))
        ∙ level-outward fs (chained-downward t fs chain) (length fs) c.level (level-bounds t keeps fs chain n c found).1 ∙ sym (word-is t keeps fs chain n c found).level

    -- the display of the declaring frame, for a goto or a call by a name that is no formal
    pub direct-shows : (display : List ℕ) → Shows fs display → formal_in (word_of n) ≡ 0 → ShowsFrom fs (frame_number (designates fs n)) display
    unfolding w holder
    direct-shows display shows z =
        subst (λ k. ShowsFrom fs k display) (sym (direct-number t keeps fs chain n c found (not-formal t keeps fs chain n c found z)))
        (shows-outer fs (chained-downward t fs chain) display (length fs) c.level (level-bounds t keeps fs chain n c found).1 (shows-innermost fs display shows))
