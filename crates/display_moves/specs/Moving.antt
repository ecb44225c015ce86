-- Leaving, jumping and entering, of an engine that runs (`Running`). `restorable`, `restored`: what putting the display right asks, and what it comes
-- to, for an activation that is live; `leaves_to`, `jumps_to`, `enters-to`: the state of the arrays after each move, from what was read and written.
use Rattle.std.specs.Prelude.{ℕ, suc, ◌+◌, ◌-◌, ◌*◌, ◌≤◌, ◌<◌, List, ◌∷◌, ◌≡◌, refl, ℤ, length, get_or, set}
use native.Mathlib.Omega.{arith}
use Rattle.std.proofs.Math.Option.{some}
use Rattle.std.proofs.Common.{sym, ap, ◌∙◌, subst, length-set}
use Rattle.std.proofs.Math.ListN.{get_elem?}
use Rattle.language.specs.Text.{Block, block_at, block_decls}
use Rattle.laws.specs.Lists.{get_elem-in}
use Rattle.grammar.specs.Rules.{Keeps}
use Rattle.grammar.specs.Formed.{block-few}
use Rattle.frames.specs.Frame.{Frame, numbered}
use Rattle.frames.specs.Numbered.{numbered-suc, numbered-index}
use Rattle.coordinates.specs.Enclosure.{Enclosing, enclosed, Enclosure, Encloses}
use Rattle.coordinates.specs.Chain.{enclosing, enclosure_of, level_of, display_from}
use Rattle.coordinates.proofs.Levels.{frame-encloses}
use Rattle.resolved.specs.Resolved.{place_of, end_place, level_in}
use Rattle.resolved.proofs.Places.{block-fields, end_is, end-bound, place-bound, enclosed-formed}
use Rattle.arrays.specs.Holds.{Shows}
use Rattle.arrays.specs.Displays.{ShowsFrom, holds-links, shows-innermost}
use Rattle.arrays.proofs.Reading.{level-read, end_read}
use Rattle.run_moves.specs.Effects.{Cleared}
use Rattle.resolved.specs.Layout.{formals_in, names_in, end_in, first_in, cell_from}
use Rattle.steps.specs.Means.{JumpsTo, EntersAt}
use Rattle.steps.specs.Here.{many, numbered-here, live-few, downward, encloses-here}
use Rattle.steps.specs.Loop.{leaves, jumped}
use Rattle.steps.specs.Entered.{body-head, entered}
use Rattle.run_state.specs.declared.Registers.{Registers}
use Rattle.run_state.specs.Limits.{goes_to}
use Rattle.display_moves.specs.Running.{Running, Succeeds, HeadThere, BoundsThere, Restorable, LeaveReady, JumpReady, Linkable}

-- what is read of an activation's block
abbrev pub level_at : List ℕ → List ℕ → ℕ → ℕ
level_at code blocks k = level_in (get_or code (get_or blocks k 0) 0)

abbrev pub end_at : List ℕ → List ℕ → ℕ → ℕ
end_at code blocks k = end_in (get_or code (get_or blocks k 0 + 1) 0)

-- an enclosed block's first three words stand in the script
within-script : (t : Block) → Keeps t → (e : Enclosing) (es : Enclosure) → Encloses t (e ∷ es) → place_of (block_at e.text) + 3 ≤ 4096
within-script t keeps e es h =
    let f = enclosed-formed t keeps e es h in
    omega (arith, end_is e.text (suc (length es)) e.formals (place_of (block_at e.text)) f, block-fields e.text, end-bound t keeps e es h)

module _ {code : List ℕ} {activations limit : ℕ} {cells : List ℤ} {blocks nexts links display : List ℕ} {table : List ℤ} {here : Registers}
    (w : Running code activations limit cells blocks nexts links display table here) where
  abbrev fs : List Frame
  fs = w.standing.stack.frames

  -- Activations that are live

  live-frame : (k : ℕ) → k ≤ here.live → (f : Frame) × (get_elem? fs k ≡ some f)
  live-frame k h = get_elem-in fs k (omega (arith, many w.standing))

  frame-stands : (k : ℕ) (h : k ≤ here.live) → numbered fs (suc k) ≡ some (live-frame k h).0
  frame-stands k h = numbered-suc fs k ∙ (live-frame k h).1

  block_within : (k : ℕ) → k ≤ here.live → get_or blocks k 0 + 3 ≤ 4096
  unfolding enclosing
  block_within k h =
      let f = live-frame k h in
      let t = w.standing.program in
      let e = frame-encloses t fs w.standing.sound.chained (suc k) f.0 (frame-stands k h) in
      omega (arith, (w.standing.holds k f.0 f.1).block-is, within-script t w.standing.keeps (enclosing f.0) (enclosure_of fs f.0.link) e)

  level-there : (k : ℕ) → k ≤ here.live → level_at code blocks k ≡ level_of fs (suc k)
  level-there k h =
      let s = w.standing in
      let f = live-frame k h in
      level-read code s.name s.program s.keeps s.covers fs s.sound.chained blocks (set nexts here.live here.at) links cells
      s.holds k f.0 f.1

  end-there : (k : ℕ) (f : Frame) → numbered fs (suc k) ≡ some f → end_at code blocks k ≡ end_place f.text
  end-there k f e =
      let s = w.standing in
      end_read code s.name s.program s.keeps s.covers fs s.sound.chained blocks (set nexts here.live here.at) links cells
      s.holds k f (numbered-index fs (suc k) f e)

  few-live : here.live < 256
  few-live = omega (arith, live-few w.standing)

  -- the words of its block can be read
  pub head-there : {k : ℕ} → k ≤ here.live → HeadThere blocks k
  head-there {k} h = record { few = omega (arith, few-live); within = omega (arith, block_within k h) }

  pub bounds-there : {k : ℕ} → k ≤ here.live → BoundsThere blocks k
  bounds-there {k} h = record { few = omega (arith, few-live); within = omega (arith, block_within k h) }

  shows-own : ShowsFrom fs (suc here.live) display
  shows-own = subst (λ k. ShowsFrom fs k display) (many w.standing) (shows-innermost fs display w.shows)

  -- the innermost activation itself
  pub shows-home : (home : ℕ) → home ≡ here.live → ShowsFrom fs (suc home) display
  shows-home home e = subst (λ k. ShowsFrom fs (suc k) display) (sym e) shows-own

  pub end-home : (home : ℕ) → home ≡ here.live → here.end ≡ end_at code blocks home
  end-home home e = w.standing.end_is ∙ sym (end-there home w.standing.frame (ap (λ k. numbered fs (suc k)) e ∙ numbered-here w.standing))

  -- The display put right

  module _ (home level sure : ℕ) (high : home ≤ here.live) (level-is : level ≡ level_at code blocks home)
      (sure-is : sure ≡ level_at code blocks here.live) where
    pub restorable : Restorable links display home level sure
    restorable =
        let s = w.standing in
        record {
          frames = fs;
          old = suc here.live;
          down = downward s;
          few = omega (arith, many s, live-few s);
          links-are = holds-links fs blocks (set nexts here.live here.at) links cells s.holds;
          frame = (live-frame home high).0;
          there = frame-stands home high;
          level-is = level-is ∙ level-there home high;
          level-high = omega arith;
          sure-is = sure-is ∙ level-there here.live (omega arith);
          shows = shows-own;
          display-long = w.display-long;
        }

    pub restored : (display' : List ℕ) → ((r : Restorable links display home level sure) → ShowsFrom r.frames (suc home) display')
        → ShowsFrom fs (suc home) display'
    unfolding restorable
    restored display' k = k restorable

  home-live : (home at' : ℕ) → JumpsTo w.standing home at' → home ≤ here.live
  home-live home at' j = (jumped w.standing home at' j).home-high

  module _ (display' : List ℕ) (long : length display' ≡ 256) where
    -- A return

    module _ (ended : here.at ≡ here.end) (above : 1 ≤ here.live) (home : ℕ) (below : home ≡ here.live - 1) where
      pub leaves_to : ShowsFrom fs (suc home) display' → (r : Registers) → r.live ≡ home → r.at ≡ get_or nexts home 0 → r.end ≡ end_at code blocks home
          → r.pairs ≡ here.pairs
          → Succeeds w cells blocks nexts links display' table r
      leaves_to shows r live at end pairs =
          let l = leaves w.standing ended above in
          let one : here.live ≡ suc home = omega arith in
          let e : end_place l.frame.text ≡ r.end = sym (end-there home l.frame (ap (numbered fs) (sym one) ∙ l.stands)) ∙ sym end in
          let a : get_or nexts (here.live - 1) 0 ≡ r.at = ap (λ k. get_or nexts k 0) (sym below) ∙ sym at in
          subst (λ (n : Registers). Succeeds w cells blocks nexts links display' table n)
          (λ i. goes_to r ((sym below ∙ sym live) i) (a i) (e i) (sym pairs i))
          (record {
            running = record {
              standing = l.standing;
              shows = λ j m q. shows j m (ap (λ k. numbered (display_from fs k) j) (sym one) ∙ ap (λ (ms : List ℕ). numbered ms j) (sym l.display) ∙ q);
              display-long = long;
            };
            follows = l.follows;
          })

    -- A jump

    module _ (home at' : ℕ) (j : JumpsTo w.standing home at') where
      pub jumps_to : ShowsFrom fs (suc home) display' → (r : Registers) → r.live ≡ home → r.at ≡ at' → r.end ≡ end_at code blocks home → r.pairs ≡ here.pairs
          → Succeeds w cells blocks nexts links display' table r
      jumps_to shows r live at end pairs =
          let l = jumped w.standing home at' j in
          let e : end_place l.frame.text ≡ r.end = sym (end-there home l.frame l.stands) ∙ sym end in
          subst (λ (n : Registers). Succeeds w cells blocks nexts links display' table n)
          (λ i. goes_to r (sym live i) (sym at i) (e i) (sym pairs i))
          (record {
            running = record {
              standing = l.standing;
              shows = λ i m q. shows i m
                  (ap (λ (ms : List ℕ). numbered ms i) (sym l.display) ∙ q);
              display-long = long;
            };
            follows = l.follows;
          })

-- A return and a jump from what was read and written on the way

pub one_below : (n : ℕ) → n - 1 ≤ n
one_below n = omega arith

pub few-below : {code blocks nexts links display : List ℕ} {here : Registers} → LeaveReady code blocks nexts links display here → here.live - 1 < 256
few-below r = omega (arith, few-live r.running)

pub leaves-restored : {code blocks nexts links display : List ℕ} {here : Registers} (r : LeaveReady code blocks nexts links display here)
    {level sure next end : ℕ} {display' : List ℕ} → sure ≡ level_at code blocks here.live → level ≡ level_at code blocks (here.live - 1)
    → ((v : Restorable links display (here.live - 1) level sure) → ShowsFrom v.frames (suc (here.live - 1)) display')
    → length display' ≡ length display → next ≡ get_or nexts (here.live - 1) 0 → end ≡ end_at code blocks (here.live - 1)
    → Succeeds r.running r.cells blocks nexts links display' r.table (goes_to here (here.live - 1) next end here.pairs)
leaves-restored {here = here} r {display' = display'} sure level shows long next end =
    leaves_to r.running display' (long ∙ r.running.display-long) r.ended r.above (here.live - 1) refl
    (restored r.running (here.live - 1) _ _ (omega arith) level sure display' shows) _ refl next end refl

module _ {code blocks links display : List ℕ} {here : Registers} {home at : ℕ} (r : JumpReady code blocks links display here home at) where
  pub home-high : {live : ℕ} → here.live ≡ live → home ≤ live
  home-high e = omega (arith, home-live r.running home at r.jumps)

  pub jumps-here : home ≡ here.live → Succeeds r.running r.cells blocks r.nexts links display r.table (goes_to here here.live at here.end here.pairs)
  jumps-here e =
      jumps_to r.running display r.running.display-long home at r.jumps (shows-home r.running home e) _ (sym e) refl (end-home r.running home e) refl

  pub jumps-restored : {level sure end : ℕ} {display' : List ℕ} → sure ≡ level_at code blocks here.live → level ≡ level_at code blocks home
      → ((v : Restorable links display home level sure) → ShowsFrom v.frames (suc home) display')
      → length display' ≡ length display → end ≡ end_at code blocks home
      → Succeeds r.running r.cells blocks r.nexts links display' r.table (goes_to here home at end here.pairs)
  jumps-restored {display' = display'} sure level shows long end =
      jumps_to r.running display' (long ∙ r.running.display-long) home at r.jumps
      (restored r.running home _ _ (home-live r.running home at r.jumps) level sure display' shows) _ refl refl end refl

-- An entry

module _ {code : List ℕ} {activations limit : ℕ} {cells : List ℤ} {blocks nexts links display : List ℕ} {table : List ℤ} {here : Registers}
    (w : Running code activations limit cells blocks nexts links display table here) (body link back : ℕ) (cells' : List ℤ)
    (j : EntersAt w.standing body link back cells') where
  abbrev around : Enclosure
  around = enclosure_of w.standing.stack.frames (suc link)

  -- the block's first two words
  abbrev head : ℕ
  head = get_or code body 0

  abbrev bounds : ℕ
  bounds = get_or code (body + 1) 0

  -- what entering reads and writes is within its arrays
  pub record Fits : Type 0 where
    pub body-within : body + 3 ≤ 4096
    pub back-within : back ≤ 4096
    pub room : here.live + 1 < 256
    pub link-high : link ≤ here.live
    pub formals-few : formals_in head ≤ 32
    pub names-few : names_in head ≤ 32

  pub entry-fits : Fits
  unfolding enclosing
  entry-fits =
      let s = w.standing in
      let h = body-head s body link back cells' j in
      let e = enclosed j.formals j.text in
      let few = block-few (suc (length around)) j.formals (2 * place_of (block_at j.text)) j.text
      (enclosed-formed s.program s.keeps e around j.encloses) in
      record {
        body-within = omega (arith, j.body_is, within-script s.program s.keeps e around j.encloses);
        back-within = omega (
          arith,
          j.back_is,
          place-bound s.program s.keeps (enclosing s.frame)
              (enclosure_of s.stack.frames s.frame.link) (encloses-here s) (suc s.frame.next) (omega arith),
        );
        room = omega (arith, j.room, s.sound.few);
        link-high = j.link-high;
        formals-few = omega (arith, h.formals);
        names-few = omega (arith, h.names);
      }

  pub linkable : Linkable code blocks links display here.live link
  linkable =
      record {
        nexts = nexts;
        activations = activations;
        limit = limit;
        cells = cells;
        table = table;
        here = here;
        running = w;
        high = j.link-high;
      }

  pub linked : (display' : List ℕ) → ((v : Linkable code blocks links display here.live link) → ShowsFrom v.running.standing.stack.frames
      (suc link) display')
      → ShowsFrom w.standing.stack.frames (suc link) display'
  unfolding linkable
  linked display' k = k linkable

  -- the new activation, and its first cell
  abbrev fresh : ℕ
  fresh = here.live + 1

  abbrev first : ℕ
  first = 32 * fresh

  pub enters-to : (cells'' : List ℤ) → Cleared cells' (cell_from fresh (formals_in head)) (cell_from fresh (names_in head)) cells''
      → (display' : List ℕ) → length display' ≡ 256 → ShowsFrom w.standing.stack.frames (suc link) display'
      → (r : Registers) → r.live ≡ fresh → r.at ≡ first_in bounds → r.end ≡ end_in bounds → r.pairs ≡ here.pairs
      → Succeeds w cells'' (set blocks fresh body) (set nexts here.live back) (set links fresh link)
      (set display' (level_in head) first) table r
  enters-to cells'' cleared display' long shows r live at end pairs =
      let h = body-head w.standing body link back cells' j in
      let c : Cleared cells' (cell_from fresh (length j.formals)) (cell_from fresh (length j.formals + length (block_decls j.text))) cells'' =
      subst (λ (T : Type 0). T) (λ i. Cleared cells' (cell_from fresh (h.formals i)) (cell_from fresh (h.names i)) cells'') cleared in
      let e = entered w.standing body link back cells' j cells'' c in
      let level = h.level in
      subst (λ (n : Registers). Succeeds w cells'' (set blocks fresh body) (set nexts here.live back) (set links fresh link)
      (set display' (level_in head) first) table n)
      (λ i. goes_to r (sym live i) ((sym h.first ∙ sym at) i) ((sym h.ends ∙ sym end) i) (sym pairs i))
      (record {
        running = record {
          standing = e.standing;
          shows = subst (λ k. Shows e.standing.stack.frames (set display' k first)) (sym level) (e.shows display' (omega arith) shows);
          display-long = length-set display' (level_in head) first ∙ long;
        };
        follows = e.follows;
      })

  -- the same of the numbers as they were read and written
  module _ {h b : ℕ} (head_read : h ≡ head) (bounds-read : b ≡ bounds) where
    pub enters-as : {block next up entry level formals names from to at end : ℕ} → block ≡ body → next ≡ back
        → up ≡ link → entry ≡ first
        → level ≡ level_in h → formals ≡ formals_in h → names ≡ names_in h → from ≡ cell_from fresh formals → to ≡ cell_from fresh names → at ≡ first_in b → end ≡ end_in b
        → {cells'' : List ℤ} → Cleared cells' from to cells''
        → (display' : List ℕ) → length display' ≡ 256 → ShowsFrom w.standing.stack.frames (suc link) display'
        → Succeeds w cells'' (set blocks fresh block) (set nexts here.live next) (set links fresh up) (set display' level entry) table
        (goes_to here fresh at end here.pairs)
    enters-as e₁ e₂ e₃ e₄ level formals names from to at end {cells''} cleared display' long shows =
        let c = rw (from, to, formals, names, head_read) at cleared in
        rw (e₁, e₂, e₃, e₄, level, at, end, head_read, bounds-read) (enters-to cells'' c display' long shows
        (goes_to here fresh (first_in bounds) (end_in bounds) here.pairs) refl refl refl refl)
