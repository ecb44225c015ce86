-- The search in the engine's arrays finds what the stack's links lead to. `falls_of`: it ends. `sought-frame`: sought from a live activation, the number of a
-- name that it sees leads to the activation that declares the name on its static chain; `sought-is-search`: as the F-search does. So the first cell found is the one found by links:
-- `found-by-search` of a name, `led` of each name field of the next statement, by its operation, and `looked-by-search` of the looked-up name.
use Prim.Native.Nat.{ℕ, zero, suc, pred, ◌+◌, ◌*◌, ◌-◌, ◌≤◌, ◌<◌}
use native.Mathlib.Omega.{arith}
use Rattle.std.specs.Prelude.{true, List, ◌∷◌, ◌≡◌, ℤ, length, set}
use Rattle.std.proofs.Math.Option.{some, map}
use Rattle.std.proofs.Math.Path.{refl, sym, ap, subst}
use Rattle.std.proofs.Common.{◌∙◌}
use Rattle.std.proofs.Math.ListN.{get_or, get_elem?}
use Rattle.language.specs.Text.{Action, CL, GO, IF, KN, AR, AD, RM, QY, Block, Stmt, DO, block_at, stmt_at}
use Rattle.laws.specs.Tests.{split, never, none≢some, some_inj}
use Rattle.laws.specs.Lists.{get_elem-in, get_elem-bound, get_d-elem, get_elem?-map}
use Rattle.laws.specs.Each.{Each, each_at}
use Rattle.frames.specs.Frame.{Frame, numbered, frame_stmt}
use Rattle.frames.specs.Numbered.{numbered-suc, numbered-zero, numbered-low, numbered-high, numbered-index, numbered-exists}
use Rattle.coordinates.specs.Enclosure.{Enclosing, Enclosure, Coordinate, Encloses, coordinate_of}
use Rattle.coordinates.specs.Chain.{enclosing, enclosure_of, level_of, climb}
use Rattle.coordinates.proofs.Declared.{coordinate-declares}
use Rattle.coordinates.proofs.Coordinates.{level-of-text, declaring-frame}
use Rattle.coordinates.proofs.Kept.{chained-downward}
use Rattle.coordinates.proofs.Levels.{enclosure-of-text, frame-encloses, enclosure-names, in-innermost}
use Rattle.coordinates.proofs.Visible.{action_names}
use Rattle.coordinates.proofs.Next.{Resolved, next-action}
use Rattle.f_search.specs.Numbers.{first_number, introduces, number_of}
use Rattle.f_search.specs.Search.{onward, search_within, search}
use Rattle.f_search.proofs.Theorem.{introduced, search-nowhere, search-here, search-on, onward-below, onward-low, declarer-introduces, search-climbs}
use Rattle.resolved.specs.Resolved.{place_of, name_word, resolved_action, resolved_stmt, Covers}
use Rattle.resolved.proofs.Lengths.{covers_at}
use Rattle.resolved.proofs.Places.{place-settled}
use Rattle.resolved.proofs.NameWords.{narrow-of-text, name-is}
use Rattle.arrays.specs.Displays.{holds-links}
use Rattle.arrays.proofs.Names.{follow, follow-climbs, seen}
use Rattle.run_moves.specs.Acting.{Op, constant-op, add-op, subtract-op, compare-op, branch-op, goto-op, block-op, call-op, pair-op, unpair-op, query-op, constant-formal-op, arithmetic-formal-op, branch-formal-op, goto-formal-op, call-formal-op, op_of}
use Rattle.steps.specs.Here.{many, last-is, live-few, held, downward, numbered-here, next-stmt, stands_at, covered}
use Rattle.steps.specs.Finding.{first_by_links}
use Rattle.steps.specs.Ops.{OpIs, op-is}
use Rattle.steps.specs.Reads.{looked-up-here}
use Rattle.steps.specs.Calls.{count-is}
use Rattle.run_state.specs.declared.Registers.{Registers}
use Rattle.run_state.specs.Limits.{limits_by}
use Rattle.search_numbers.specs.Standing.{action-numbered, looked-up-numbered}
use Rattle.search_numbers.specs.NumberFields.{numbered_action}
use Rattle.search_names.specs.Seeking.{block_in, sought, first_at, Falls, sought-last, sought-here, sought-on}
use Rattle.search_moves.specs.Running.{Running}

-- the word at an index
read : (words : List ℕ) (p : ℕ) (ws : List ℕ) → Covers words p ws → (i v : ℕ) → get_elem? ws i ≡ some v → get_or words (p + i) 0 ≡ v
read words p ws h i v e = covers_at words p ws h i (get_elem-bound ws i v e) ∙ get_d-elem ws i v 0 e

module _ {code numbers : List ℕ} {activations limit : ℕ} {cells : List ℤ} {passers blocks nexts froms : List ℕ} {table : List ℤ} {here : Registers}
    (w : Running code numbers activations limit cells passers blocks nexts froms table here) where
  abbrev fs : List Frame
  fs = w.standing.stack.frames

  abbrev t : Block
  t = w.standing.program

  -- the blocks around the next statement
  abbrev around : Enclosure
  around = enclosure_of fs (length fs)

  pub falls_of : Falls froms here.live
  falls_of =
      record {
        few = omega (arith, live-few w.standing);
        first =
            let f = get_elem-in fs 0 (omega (arith, many w.standing)) in
            omega (arith, w.froms-are 0 f.0 f.1, onward-below fs (downward w.standing) 1 (omega arith));
        falls = λ k low high.
            let f = get_elem-in fs k (omega (arith, many w.standing)) in
            omega (arith, w.froms-are k f.0 f.1, onward-below fs (downward w.standing) (suc k) (omega arith));
      }

  -- Both searches stop at the same activations, for a number that some block of the script introduces

  module _ (e : Enclosing) (es : Enclosure) (within : Encloses t (e ∷ es)) (x : ℕ) (own : introduces e x ≡ true) where
    place-of-number : (o : Enclosing) (os : Enclosure) → Encloses t (o ∷ os) → introduces o x ≡ true → place_of (block_at o.text) ≡ block_in x
    unfolding first_number
    place-of-number o os inside i = omega (arith, introduced o x i, enclosure-names t w.standing.keeps o os inside)

    introduces-at : (k : ℕ) (f : Frame) → numbered fs k ≡ some f → place_of (block_at f.text) ≡ block_in x → introduces (enclosing f) x ≡ true
    unfolding enclosing
    introduces-at k f q p =
        let inside = frame-encloses t fs w.standing.sound.chained k f q in
        let same = place-settled t w.standing.keeps e es within (enclosing f) (enclosure_of fs f.link) inside (place-of-number e es within own ∙ sym p) in
        let block : enclosing f ≡ e = cc in
        ap (λ (o : Enclosing). introduces o x) block ∙ own

    agree : (m k j : ℕ) (f : Frame) → numbered fs (suc k) ≡ some f → search_within m fs (suc k) x ≡ some j → sought blocks froms k x ≡ pred j
    unfolding search_within enclosing
    agree zero k j f q s = none≢some s
    agree (suc m) zero j f q s =
        split (introduces (enclosing f) x) (λ i. let one : 1 ≡ j = some_inj (sym (search-here m fs 1 x f q i) ∙ s) in sought-last blocks froms x ∙ omega arith)
        (λ i. let out = numbered-zero fs (onward fs 1) (omega (arith, onward-below fs (downward w.standing) 1 (omega arith))) in
        none≢some (sym (search-nowhere m fs (onward fs 1) x out) ∙ sym (search-on m fs 1 x f q i) ∙ s))
    agree (suc m) (suc k) j f q s =
        let stands = numbered-index fs (suc (suc k)) f q in
        let place = (w.standing.holds (suc k) f stands).block-is in
        split (introduces (enclosing f) x)
        (λ i. let there : suc (suc k) ≡ j = some_inj (sym (search-here m fs (suc (suc k)) x f q i) ∙ s) in
        sought-here blocks froms (suc k) x (omega arith) (place ∙ place-of-number (enclosing f) (enclosure_of fs f.link) (frame-encloses t fs w.standing.sound.chained (suc (suc k)) f q) i) ∙ omega arith)
        (λ i. let o = onward fs (suc (suc k)) in
        let low : 1 ≤ o = onward-low t w.standing.keeps fs w.standing.sound.chained w.standing.sound.wired w.standing.sound.made (suc (suc k)) f (omega arith) q in
        let high = numbered-high fs (suc (suc k)) f q in
        let g = numbered-exists fs o low (omega (arith, onward-below fs (downward w.standing) (suc (suc k)) (omega arith))) in
        let one : suc (pred o) ≡ o = omega arith in
        sought-on blocks froms here.live falls_of x (suc k) (omega arith) (omega (arith, many w.standing)) (λ p. never (introduces-at (suc (suc k)) f q (sym place ∙ p)) i)
        ∙ ap (λ a. sought blocks froms a x) (w.froms-are (suc k) f stands)
        ∙ agree m (pred o) j g.0 (ap (numbered fs) one ∙ g.1) (ap (λ a. search_within m fs a x) one ∙ sym (search-on m fs (suc (suc k)) x f q i) ∙ s))

  -- from a frame by its number
  module _ (k : ℕ) (f : Frame) (stands : numbered fs k ≡ some f) (n : ℕ) (c : Coordinate) (found : coordinate_of (enclosure_of fs k) n ≡ some c) where
    sought-numbered : sought blocks froms (pred k) (number_of (enclosure_of fs k) n) ≡ pred (climb fs k (level_of fs k - c.level))
    unfolding search
    sought-numbered =
        let s = w.standing in
        let x = number_of (enclosure_of fs k) n in
        let g = declaring-frame fs (chained-downward t fs s.sound.chained) k n c found in
        let one : suc (pred k) ≡ k = omega (arith, numbered-low fs k f stands) in
        agree (enclosing g.frame) (enclosure_of fs g.frame.link) (frame-encloses t fs s.sound.chained (climb fs k (level_of fs k - c.level)) g.frame g.stands) x
        (declarer-introduces t s.keeps fs s.sound.chained s.sound.wired s.sound.made k f stands n c found) k (pred k) (climb fs k (level_of fs k - c.level)) f
        (ap (numbered fs) one ∙ stands)
        (ap (λ a. search_within k fs a x) one ∙ search-climbs t s.keeps fs s.sound.chained s.sound.wired s.sound.made k f stands n c found)

  pub sought-frame : (k : ℕ) (f : Frame) → get_elem? fs k ≡ some f → (n : ℕ) (c : Coordinate) → coordinate_of (enclosure_of fs (suc k)) n ≡ some c
      → sought blocks froms k (number_of (enclosure_of fs (suc k)) n) ≡ pred (climb fs (suc k) (level_of fs (suc k) - c.level))
  sought-frame k f e n c found = sought-numbered (suc k) f (numbered-suc fs k ∙ e) n c found

  -- the engine's search is the F-search of the definitions, from every live activation: a frame's number is one more than its activation's
  pub sought-is-search : (k : ℕ) (f : Frame) → get_elem? fs k ≡ some f → (n : ℕ) (c : Coordinate) → coordinate_of (enclosure_of fs (suc k)) n ≡ some c
      → search fs (suc k) (number_of (enclosure_of fs (suc k)) n) ≡ some (suc (sought blocks froms k (number_of (enclosure_of fs (suc k)) n)))
  sought-is-search k f e n c found =
      let s = w.standing in
      let g = declaring-frame fs (chained-downward t fs s.sound.chained) (suc k) n c found in
      let low = numbered-low fs (climb fs (suc k) (level_of fs (suc k) - c.level)) g.frame g.stands in
      let same : climb fs (suc k) (level_of fs (suc k) - c.level) ≡ suc (sought blocks froms k (number_of (enclosure_of fs (suc k)) n)) = omega (arith, low, sought-frame k f e n c found) in
      search-climbs t s.keeps fs s.sound.chained s.sound.wired s.sound.made (suc k) f (numbered-suc fs k ∙ e) n c found ∙ ap some same

  -- A name seen by the innermost activation

  module _ (n : ℕ) (c : Coordinate) (found : coordinate_of around n ≡ some c) where
    abbrev innermost : numbered fs (length fs) ≡ some w.standing.frame
    innermost = ap (numbered fs) (many w.standing) ∙ numbered-here w.standing

    links-lead : first_by_links w.standing (name_word around n) ≡ 32 * pred (climb fs (length fs) (level_of fs (length fs) - c.level))
    links-lead =
        let s = w.standing in
        let d = coordinate-declares around n c found in
        let inside = enclosure-of-text t fs s.sound.chained (length fs) s.frame innermost in
        let word = name-is around (narrow-of-text t s.keeps around inside) n c found d.block d.stands in
        ap (λ j. 32 * follow w.links (pred (length fs)) (level_of fs (length fs) - j)) word.level
        ∙ ap (λ a. 32 * a) (follow-climbs fs (downward s) w.links (holds-links fs blocks (set nexts here.live here.at) w.links cells s.holds) (level_of fs (length fs) - c.level) (length fs) s.frame innermost (omega (arith, d.low, d.high, level-of-text fs (length fs))))

    seen-by-search : (p : ℕ) → get_or numbers p 0 ≡ number_of around n → first_at numbers blocks froms here.live p ≡ first_by_links w.standing (name_word around n)
    unfolding first_at
    seen-by-search p e =
        let live : here.live ≡ pred (length fs) = omega (arith, many w.standing) in
        let same : sought blocks froms here.live (get_or numbers p 0) ≡ sought blocks froms (pred (length fs)) (number_of around n) = λ i. sought blocks froms (live i) (e i) in
        ap (λ a. 32 * a) (same ∙ sought-numbered (length fs) w.standing.frame innermost n c found) ∙ sym links-lead

  pub found-by-search : (n : ℕ) → Resolved fs n → (p : ℕ) → get_or numbers p 0 ≡ number_of around n → first_at numbers blocks froms here.live p ≡ first_by_links w.standing (name_word around n)
  found-by-search n r p e = seen-by-search n r.coordinate r.here p e

  -- The names of the next statement, by its operation

  -- the search leads where the links do from the word some fields on
  abbrev pub LedAt : ℕ → Type 0
  LedAt i = first_at numbers blocks froms here.live (here.at + i) ≡ first_by_links w.standing (get_or code (here.at + i) 0)

  abbrev LedCall : Type 0
  LedCall = LedAt 1 × ((i : ℕ) → i < get_or code (here.at + 2) 0 → LedAt (3 + i))

  abbrev pub Led : Op → Type 0
  Led constant-op = LedAt 1
  Led add-op = LedAt 1 × LedAt 3 × LedAt 4
  Led subtract-op = LedAt 1 × LedAt 3 × LedAt 4
  Led compare-op = LedAt 1 × LedAt 3 × LedAt 4
  Led branch-op = LedAt 1 × LedAt 2
  Led goto-op = LedAt 1
  Led block-op = Unit {0}
  Led call-op = LedCall
  Led pair-op = LedAt 1 × LedAt 2
  Led unpair-op = LedAt 1 × LedAt 2
  Led query-op = LedAt 1 × LedAt 2 × LedAt 3
  Led constant-formal-op = LedAt 1
  Led arithmetic-formal-op = LedAt 1 × LedAt 3 × LedAt 4
  Led branch-formal-op = LedAt 1 × LedAt 2
  Led goto-formal-op = LedAt 1
  Led call-formal-op = LedCall

  abbrev LedAction : Action → Type 0
  LedAction (KN v z) = LedAt 1
  LedAction (AR v p a b) = LedAt 1 × LedAt 3 × LedAt 4
  LedAction (IF v l) = LedAt 1 × LedAt 2
  LedAction (GO l) = LedAt 1
  LedAction (CL p xs) = LedCall
  LedAction (AD g m) = LedAt 1 × LedAt 2
  LedAction (RM g m) = LedAt 1 × LedAt 2
  LedAction (QY v g m) = LedAt 1 × LedAt 2 × LedAt 3

  module _ (o : ℕ) (a : Action) (q : frame_stmt w.standing.frame ≡ some (DO o a)) where
    numbers-covered : Covers numbers here.at (numbered_action around a)
    unfolding frame_stmt stmt_at enclosing
    numbers-covered =
        let s = w.standing in
        subst (λ i. Covers numbers i (numbered_action around a)) (sym (stands_at s (DO o a) q))
        (in-innermost t fs s.sound.chained s.frame (last-is s) (λ es. Covers numbers (place_of o) (numbered_action es a)) (λ es h. action-numbered numbers s.name t s.keeps w.numbers-stand (enclosing s.frame) es h (pred s.frame.next) o a q))

    names : Each (Resolved fs) (action_names a)
    names = let s = w.standing in (next-action (limits_by activations limit) t s.keeps s.stack s.sound s.frame (last-is s) o a q).names

    -- a field that has a name's word here and its number there
    leads : (i n : ℕ) → Resolved fs n → get_elem? (resolved_action around a) i ≡ some (name_word around n) → get_elem? (numbered_action around a) i ≡ some (number_of around n) → LedAt i
    unfolding resolved_stmt
    leads i n r word number =
        found-by-search n r (here.at + i) (read numbers here.at (numbered_action around a) numbers-covered i (number_of around n) number)
        ∙ ap (first_by_links w.standing) (sym (read code here.at (resolved_action around a) (covered w.standing (DO o a) q) i (name_word around n) word))

  argument-led : (o p : ℕ) (xs : List ℕ) → frame_stmt w.standing.frame ≡ some (DO o (CL p xs)) → (i : ℕ) → i < get_or code (here.at + 2) 0 → LedAt (3 + i)
  unfolding resolved_action numbered_action action_names
  argument-led o p xs q i h =
      let x = get_elem-in xs i (omega (arith, count-is w.standing o p xs q)) in
      let three : suc (suc (suc i)) ≡ 3 + i = omega arith in
      subst LedAt three
      (leads o (CL p xs) q (suc (suc (suc i))) x.0 (each_at (Resolved fs) xs i x.0 x.1 (names o (CL p xs) q).1) (get_elem?-map (name_word around) xs i ∙ ap (map (name_word around)) x.1)
      (get_elem?-map (number_of around) xs i ∙ ap (map (number_of around)) x.1))

  action-led : (o : ℕ) (a : Action) → frame_stmt w.standing.frame ≡ some (DO o a) → LedAction a
  unfolding resolved_action numbered_action action_names
  action-led o (KN v z) q = leads o (KN v z) q 1 v (names o (KN v z) q).0 refl refl
  action-led o (AR v p a b) q =
      let l = leads o (AR v p a b) q in
      let n = names o (AR v p a b) q in
      (l 1 v n.0 refl refl, l 3 a n.1.0 refl refl, l 4 b n.1.1.0 refl refl)
  action-led o (IF v x) q =
      let l = leads o (IF v x) q in
      let n = names o (IF v x) q in
      (l 1 x n.1.0 refl refl, l 2 v n.0 refl refl)
  action-led o (GO x) q = leads o (GO x) q 1 x (names o (GO x) q).0 refl refl
  action-led o (CL p xs) q = (leads o (CL p xs) q 1 p (names o (CL p xs) q).0 refl refl, argument-led o p xs q)
  action-led o (AD g m) q =
      let l = leads o (AD g m) q in
      let n = names o (AD g m) q in
      (l 1 g n.0 refl refl, l 2 m n.1.0 refl refl)
  action-led o (RM g m) q =
      let l = leads o (RM g m) q in
      let n = names o (RM g m) q in
      (l 1 g n.0 refl refl, l 2 m n.1.0 refl refl)
  action-led o (QY v g m) q =
      let l = leads o (QY v g m) q in
      let n = names o (QY v g m) q in
      (l 1 v n.0 refl refl, l 2 g n.1.0 refl refl, l 3 m n.1.1.0 refl refl)

  led-by-op : (x : Stmt) → frame_stmt w.standing.frame ≡ some x → (p : Op) → OpIs around x p → Led p
  led-by-op x q constant-op k = action-led _ _ (q ∙ ap some k.3)
  led-by-op x q add-op k = action-led _ _ (q ∙ ap some k.4)
  led-by-op x q subtract-op k = action-led _ _ (q ∙ ap some k.4)
  led-by-op x q compare-op k = action-led _ _ (q ∙ ap some k.4)
  led-by-op x q branch-op k = action-led _ _ (q ∙ ap some k.3)
  led-by-op x q goto-op k = action-led _ _ (q ∙ ap some k.2)
  led-by-op x q block-op k = tt
  led-by-op x q call-op k = action-led _ _ (q ∙ ap some k.3)
  led-by-op x q pair-op k = action-led _ _ (q ∙ ap some k.3)
  led-by-op x q unpair-op k = action-led _ _ (q ∙ ap some k.3)
  led-by-op x q query-op k = action-led _ _ (q ∙ ap some k.4)
  led-by-op x q constant-formal-op k = action-led _ _ (q ∙ ap some k.3)
  led-by-op x q arithmetic-formal-op k = action-led _ _ (q ∙ ap some k.5)
  led-by-op x q branch-formal-op k = action-led _ _ (q ∙ ap some k.3)
  led-by-op x q goto-formal-op k = action-led _ _ (q ∙ ap some k.2)
  led-by-op x q call-formal-op k = action-led _ _ (q ∙ ap some k.3)

  pub led : (here.at ≡ here.end → ⊥) → Led (op_of (get_or code here.at 0))
  led d =
      let s = w.standing in
      let x = next-stmt s d in
      led-by-op x.0 x.1 (op_of (get_or code here.at 0)) (op-is around code here.at s.name x.0 (covered s x.0 x.1))

  -- The looked-up name

  looked-up-number : get_or numbers (get_or blocks here.live 0 + 2) 0 ≡ number_of around w.standing.name
  unfolding enclosing
  looked-up-number =
      let s = w.standing in
      ap (λ k. get_or numbers (k + 2) 0) (held s).block-is
      ∙ in-innermost t fs s.sound.chained s.frame (last-is s) (λ es. get_or numbers (place_of (block_at s.frame.text) + 2) 0 ≡ number_of es s.name) (λ es h. looked-up-numbered numbers w.standing.name t w.standing.keeps w.numbers-stand (enclosing s.frame) es h)

  pub looked-by-search : (get_or code (get_or blocks here.live 0 + 2) 0 ≡ 0 → ⊥)
      → first_at numbers blocks froms here.live (get_or blocks here.live 0 + 2) ≡ first_by_links w.standing (get_or code (get_or blocks here.live 0 + 2) 0)
  looked-by-search d =
      let s = w.standing in
      let word = looked-up-here s in
      let c = seen t s.keeps fs s.sound.chained s.name (λ z. d (word ∙ z)) in
      seen-by-search s.name c.0 c.1 (get_or blocks here.live 0 + 2) looked-up-number ∙ ap (first_by_links s) (sym word)
