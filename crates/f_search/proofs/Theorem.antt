-- The search finds what the static chain gives (source 001, theorem 5-8), for frames of a script that keeps the rules, linked as the text says, with right
-- words of formals, each made by the statement passed last below. `search-climbs`: the number of a name of frame k's text, sought from k, is found in
-- the frame that declares the name on k's static chain. `searched-as-sought`: so it leads to the instance that the name designates there. `onward-below`,
-- `onward-low`: each frame asked is further out than the one before, and is there. The key is `link-on-chain`: where the search goes on, frame k's link
-- is on the static chain. So nothing that the static chain has is passed by, and a frame asked in between introduces other numbers (`number-settles`).
use Prim.Native.Nat.{ℕ, zero, suc, pred, ◌+◌, ◌-◌, ◌≤◌, ◌<◌}
use native.Mathlib.Omega.{arith}
use Rattle.std.specs.Prelude.{true, false, List, ◌≡◌, refl, leb, ltb, length, take}
use Rattle.std.proofs.Math.Option.{Option, none, some}
use Rattle.std.proofs.Common.{sym, ap, ◌∙◌, subst, leb-true, ltb-true, le-leb, lt-ltb}
use Rattle.language.specs.Text.{Block}
use Rattle.laws.specs.Tests.{split, both, by-lookup, never, some_inj}
use Rattle.grammar.specs.Rules.{Keeps}
use Rattle.frames.specs.Frame.{Frame, numbered, frame_names, finally, designates}
use Rattle.frames.specs.Numbered.{numbered-low, numbered-high}
use Rattle.coordinates.specs.Enclosure.{Enclosing, Coordinate, names_of, coordinate_of}
use Rattle.coordinates.specs.Chain.{enclosing, enclosure_of, level_of, climb, display_from, Downward, Chained}
use Rattle.coordinates.proofs.Search.{enclosure-none, enclosure-step}
use Rattle.coordinates.proofs.Declared.{coordinate-declares}
use Rattle.coordinates.proofs.Coordinates.{level-of-text, instance_at, DeclaringFrame, declaring-frame}
use Rattle.coordinates.proofs.Kept.{chained-downward}
use Rattle.coordinates.proofs.Levels.{frame-encloses, enclosure-names}
use Rattle.coordinates.proofs.Designated.{Wired}
use Rattle.coordinates.specs.Made.{Made}
use Rattle.f_search.specs.Numbers.{first_number, introduces, number_of}
use Rattle.f_search.specs.Passers.{FormalAt, formal_of, argument_for, passer_within, passer, through}
use Rattle.f_search.specs.Search.{onward, search_within, search, searched}
use Rattle.f_search.proofs.Distinct.{number-settles}
use Rattle.f_search.proofs.Numbered.{number-coordinate}
use Rattle.f_search.proofs.Kept.{passer-nowhere, passer-here, passer-further, passer_of-none, passer_of-through, onward-none, onward-some, formal-frame, through-frame}
use Rattle.f_search.proofs.OnChain.{OnChain, on-chain-level, on-chain-bounds, climb-on-chain, same-level, on-link-chain, on-chain-through}
use Rattle.f_search.proofs.Entered.{finally-alike, designates-from}
use Rattle.f_search.proofs.FirstPassed.{first-passer, direct-link}

-- Further out

module _ (fs : List Frame) (down : Downward fs) where
  passer-out : (m : ℕ) (x : FormalAt) → passer_within m fs x ≤ pred x.frame
  unfolding passer_within
  passer-out zero x = omega arith
  passer-out (suc m) x =
      by-lookup (argument_for fs x) (λ e. omega (arith, passer-nowhere (suc m) fs x e))
      (λ n e. by-lookup (formal_of fs (pred x.frame) n) (λ o. omega (arith, passer-here m fs x n e o))
      (λ y o. omega (arith, passer-further m fs x n y e o, passer-out m y, formal-frame fs down (pred x.frame) n y o)))

  pub onward-below : (k : ℕ) → 1 ≤ k → onward fs k < k
  unfolding passer
  onward-below k low =
      by-lookup (through fs k) (λ e. omega (arith, onward-none fs k (passer_of-none fs k e)))
      (λ x e. omega (arith, onward-some fs k (passer fs x) (passer_of-through fs k x e), passer-out x.frame x, through-frame fs down k x e))

-- Numbers that a block introduces

pub introduced : (e : Enclosing) (x : ℕ) → introduces e x ≡ true → (first_number e ≤ x) × (x < first_number e + length (names_of e))
unfolding introduces
introduced e x h =
    let b = both (leb (first_number e) x) (ltb x (first_number e + length (names_of e))) h in
    (leb-true (first_number e) x b.0, ltb-true x (first_number e + length (names_of e)) b.1)

introducing : (e : Enclosing) (x : ℕ) → first_number e ≤ x → x < first_number e + length (names_of e) → introduces e x ≡ true
unfolding introduces
introducing e x low high = rw (introduces, le-leb (first_number e) x low, lt-ltb x (first_number e + length (names_of e)) high)

pub search-nowhere : (m : ℕ) (fs : List Frame) (k x : ℕ) → numbered fs k ≡ none → search_within m fs k x ≡ none
unfolding search_within
search-nowhere zero fs k x e = refl
search-nowhere (suc m) fs k x e = rw (search_within, e)

module _ (m : ℕ) (fs : List Frame) (k x : ℕ) (f : Frame) (stands : numbered fs k ≡ some f) where
  pub search-here : introduces (enclosing f) x ≡ true → search_within (suc m) fs k x ≡ some k
  unfolding search_within
  search-here e = rw (search_within, stands, e)

  pub search-on : introduces (enclosing f) x ≡ false → search_within (suc m) fs k x ≡ search_within m fs (onward fs k) x
  unfolding search_within
  search-on e = rw (search_within, stands, e)

searched-found : (fs : List Frame) (k x j : ℕ) (f : Frame) → search fs k x ≡ some j → numbered fs j ≡ some f → searched fs k x ≡ finally fs (instance_at j (suc (x - first_number (enclosing f))) 0)
unfolding searched
searched-found fs k x j f e n = rw (searched, e, n)

module _ (t : Block) (keeps : Keeps t) (fs : List Frame) (chain : Chained t fs) where
  -- frames that introduce one number have one block, and so one level
  level-settled : (k k' x : ℕ) (f f' : Frame) → numbered fs k ≡ some f → numbered fs k' ≡ some f' → introduces (enclosing f) x ≡ true → introduces (enclosing f') x ≡ true → level_of fs k ≡ level_of fs k'
  level-settled k k' x f f' e e' i i' =
      let down = chained-downward t fs chain in
      let w = frame-encloses t fs chain k f e in
      let w' = frame-encloses t fs chain k' f' e' in
      let b = introduced (enclosing f) x i in
      let b' = introduced (enclosing f') x i' in
      let few = enclosure-names t keeps (enclosing f) (enclosure_of fs f.link) w in
      let few' = enclosure-names t keeps (enclosing f') (enclosure_of fs f'.link) w' in
      let p = x - first_number (enclosing f) in
      let p' = x - first_number (enclosing f') in
      let same = number-settles t keeps (enclosing f) (enclosure_of fs f.link) w (enclosing f') (enclosure_of fs f'.link) w' p p' (omega (arith, b.0, b.1)) (omega (arith, b'.0, b'.1)) (omega (arith, b.0, b'.0)) in
      level-of-text fs k ∙ ap length (enclosure-step fs down k f e ∙ same.0 ∙ sym (enclosure-step fs down k' f' e')) ∙ sym (level-of-text fs k')

module _ (t : Block) (keeps : Keeps t) (fs : List Frame) (chain : Chained t fs) (wired : Wired fs) (made : Made fs) where
  abbrev down : Downward fs
  down = chained-downward t fs chain

  pub link-on-chain : (k : ℕ) (f : Frame) → 2 ≤ k → numbered fs k ≡ some f → OnChain fs (onward fs k) f.link
  link-on-chain zero f low e = absurd (omega arith)
  link-on-chain (suc k) f low e =
      by-lookup (through fs (suc k))
      (λ o. subst (λ j. OnChain fs j f.link) (sym (onward-none fs (suc k) (passer_of-none fs (suc k) o))) (direct-link t keeps fs chain wired made k f (omega arith) e o))
      (λ x o. let p = first-passer t keeps fs chain wired made (suc k) f x e o in
      subst (λ j. OnChain fs j f.link) (sym (onward-some fs (suc k) p.frame p.there)) p.near)

  -- there is a frame where the search goes on
  pub onward-low : (k : ℕ) (f : Frame) → 2 ≤ k → numbered fs k ≡ some f → 1 ≤ onward fs k
  onward-low k f low e = let b = on-chain-bounds fs down (onward fs k) f.link (link-on-chain k f low e) in omega (arith, b.0, b.1)

  -- The frame sought, on the static chain of the frame where the search begins

  module _ (to : ℕ) (g : Frame) (stands : numbered fs to ≡ some g) (x : ℕ) (own : introduces (enclosing g) x ≡ true) where
    on-no-chain : (k : ℕ) → numbered fs k ≡ none → OnChain fs k to → ⊥
    on-no-chain k e on =
        omega (arith, numbered-low (display_from fs k) (level_of fs to) to on, on-chain-level fs down k to on, level-of-text fs k, ap length (enclosure-none fs k e))

    found_here : (m k : ℕ) (f : Frame) → numbered fs k ≡ some f → OnChain fs k to → introduces (enclosing f) x ≡ true → search_within (suc m) fs k x ≡ some to
    found_here m k f e on i =
        search-here m fs k x f e i ∙ ap {B = Option ℕ} some (sym (same-level fs down k to f e on (level-settled t keeps fs chain to k x g f stands e own i)))

    found-further : (k : ℕ) (f : Frame) → numbered fs k ≡ some f → OnChain fs k to → introduces (enclosing f) x ≡ false → (2 ≤ k) × OnChain fs (onward fs k) to
    found-further k f e on i =
        let other : to ≡ k → ⊥ = λ q. never own (ap (λ (h : Frame). introduces (enclosing h) x) (some_inj (sym stands ∙ ap (numbered fs) q ∙ e)) ∙ i) in
        let up = on-link-chain fs down k to f e on other in
        let b = on-chain-bounds fs down f.link to up in
        let two : 2 ≤ k = omega (arith, b.0, b.1, down k f e) in
        (two, on-chain-through fs down (onward fs k) f.link to (link-on-chain k f two e) up)

    finds : (m k : ℕ) → k ≤ m → OnChain fs k to → search_within m fs k x ≡ some to
    finds zero k h on = let b = on-chain-bounds fs down k to on in absurd (omega (arith, b.0, b.1))
    finds (suc m) k h on =
        by-lookup (numbered fs k) (λ e. absurd (on-no-chain k e on))
        (λ f e. split (introduces (enclosing f) x) (found_here m k f e on)
        (λ i. let r = found-further k f e on i in
        search-on m fs k x f e i ∙ finds m (onward fs k) (omega (arith, onward-below fs down k (omega (arith, r.0)))) r.1))

  -- The theorem

  module _ (k : ℕ) (f : Frame) (stands : numbered fs k ≡ some f) (n : ℕ) (c : Coordinate) (found : coordinate_of (enclosure_of fs k) n ≡ some c) where
    abbrev to : ℕ
    to = climb fs k (level_of fs k - c.level)

    abbrev declarer : DeclaringFrame fs k n c
    declarer = declaring-frame fs down k n c found

    number_is : number_of (enclosure_of fs k) n ≡ first_number (enclosing declarer.frame) + pred c.position
    number_is = number-coordinate (enclosure_of fs k) n c found (enclosing declarer.frame) declarer.block

    position-bounds : (1 ≤ c.position) × (c.position ≤ length (names_of (enclosing declarer.frame)))
    unfolding names_of frame_names enclosing
    position-bounds = (numbered-low (frame_names declarer.frame) c.position n declarer.named, numbered-high (frame_names declarer.frame) c.position n declarer.named)

    pub declarer-introduces : introduces (enclosing declarer.frame) (number_of (enclosure_of fs k) n) ≡ true
    declarer-introduces =
        let b = position-bounds in
        introducing (enclosing declarer.frame) (number_of (enclosure_of fs k) n) (omega (arith, number_is)) (omega (arith, number_is, b.0, b.1))

    pub search-climbs : search fs k (number_of (enclosure_of fs k) n) ≡ some to
    unfolding search
    search-climbs =
        let d = coordinate-declares (enclosure_of fs k) n c found in
        finds to declarer.frame declarer.stands (number_of (enclosure_of fs k) n) declarer-introduces k k (omega arith)
        (climb-on-chain fs down k c.level d.low (omega (arith, d.high, level-of-text fs k)))

    pub searched-as-sought : searched fs k (number_of (enclosure_of fs k) n) ≡ designates (take k fs) n
    searched-as-sought =
        let x = number_of (enclosure_of fs k) n in
        let links = level_of fs k - c.level in
        let p : suc (x - first_number (enclosing declarer.frame)) ≡ c.position = omega (arith, number_is, position-bounds.0) in
        searched-found fs k x to declarer.frame search-climbs declarer.stands ∙ ap (λ i. finally fs (instance_at to i 0)) p
        ∙ finally-alike fs to c.position 0 links ∙ sym (designates-from fs down k n c found (numbered-high fs k f stands))
