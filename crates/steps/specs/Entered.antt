-- After an entry. `body-head`: what stands at the place of the block that is entered. `entered`: with the records of the new activation written
-- and its own names' words cleared, the engine stands at the first statement of the block; `shows`, there: the display of the link with one
-- entry more is the display then.
use Rattle.std.specs.Prelude.{ℕ, suc, ◌+◌, ◌*◌, ◌/◌, ◌%◌, ◌≤◌, ◌<◌, List, [], ◌∷◌, ◌++◌, ◌≡◌, refl, ℤ, pos, length, get_or, set}
use Rattle.std.proofs.Common.{arith, sym, ap, ◌∙◌, subst}
use Rattle.std.proofs.Math.Option.{some}
use Rattle.std.proofs.Math.ListN.{get_elem?, length-set}
use Rattle.language.specs.Basics.{but_last}
use Rattle.language.specs.Text.{block_decls}
use Rattle.language.specs.Machine.{Limits}
use Rattle.laws.specs.Lists.{get_elem-bound}
use Rattle.frames.specs.Frame.{Frame, Stack, frame_number, continue, new_frame, with_frames, stepped}
use Rattle.frames.specs.Numbered.{numbered-high}
use Rattle.frame_laws.specs.Bounds.{BoundedFrames}
use Rattle.frame_laws.specs.BoundedFrames.{bounded-first}
use Rattle.frame_laws.specs.Innermost.{but_last-innermost}
use Rattle.coordinates.specs.Enclosure.{enclosed}
use Rattle.coordinates.specs.Chain.{enclosure_of, level_of}
use Rattle.coordinates.proofs.Coordinates.{level-of-text}
use Rattle.coordinates.proofs.Sound.{Sound}
use Rattle.resolved.specs.Resolved.{end_place, stmt_place, head_word, bounds_word, level_in}
use Rattle.resolved.proofs.Standing.{head-stands, bounds-stands}
use Rattle.resolved.proofs.Words.{head-level, head-formals, head-names, bounds-end, bounds-first}
use Rattle.resolved.specs.Layout.{formals_in, names_in, end_in, first_in}
use Rattle.arrays.specs.Holds.{Holds, Shows}
use Rattle.arrays.proofs.Running.{holds_pushed}
use Rattle.arrays.specs.Displays.{ShowsFrom, shows-pushed}
use Rattle.run_moves.specs.Effects.{Cleared}
use Rattle.steps.specs.Standing.{Standing}
use Rattle.steps.specs.Means.{Follows, EntersAt}
use Rattle.steps.specs.Here.{many, last-is, live-few, downward}
use Rattle.steps.specs.Loop.{sound-after, follows-step}
use Rattle.steps.specs.Going.{ahead, ahead-many}

module _ {code : List ℕ} {l : Limits} {cells : List ℤ} {blocks nexts links : List ℕ} {table : List ℤ} {pairs live at end : ℕ} (w : Standing code l cells blocks nexts links table pairs live at end)
    (body link back : ℕ) (cells' : List ℤ) (j : EntersAt w body link back cells') where
  -- the block's first words
  pub record BodyHead : Type 0 where
    pub level : level_in (get_or code body 0) ≡ suc (level_of w.stack.frames (suc link))
    pub formals : formals_in (get_or code body 0) ≡ length j.formals
    pub names : names_in (get_or code body 0) ≡ length j.formals + length (block_decls j.text)
    pub ends : end_in (get_or code (body + 1) 0) ≡ end_place j.text
    pub first : first_in (get_or code (body + 1) 0) ≡ stmt_place j.text 1

  pub body-head : BodyHead
  body-head =
      let t = w.program in
      let e = enclosed j.formals j.text in
      let es = enclosure_of w.stack.frames (suc link) in
      let head : get_or code body 0 ≡ head_word e (suc (length es)) = ap (λ i. get_or code i 0) j.body_is ∙ head-stands code w.name t w.keeps w.covers e es j.encloses in
      let bounds : get_or code (body + 1) 0 ≡ bounds_word j.text = ap (λ i. get_or code (i + 1) 0) j.body_is ∙ bounds-stands code w.name t w.keeps w.covers e es j.encloses in
      record {
        level = ap level_in head ∙ head-level t w.keeps e es j.encloses ∙ ap suc (sym (level-of-text w.stack.frames (suc link)));
        formals = ap formals_in head ∙ head-formals t w.keeps e es j.encloses;
        names = ap names_in head ∙ head-names t w.keeps e es j.encloses;
        ends = ap end_in bounds ∙ bounds-end t w.keeps e es j.encloses;
        first = ap first_in bounds ∙ bounds-first t w.keeps e es j.encloses;
      }

  abbrev new : Frame
  new = new_frame j.formals j.arguments j.text (suc link)

  abbrev gs : List Frame
  gs = ahead w ++ (new ∷ [])

  abbrev after : Stack
  after = with_frames w.stack gs

  sound : Sound l w.program (stepped w.stack after)
  sound = sound-after w after j.steps

  bounded : BoundedFrames (ahead w)
  unfolding stepped with_frames
  bounded = bounded-first (ahead w) (new ∷ []) sound.bounded.each

  deep : length (ahead w) ≡ live + 1
  deep = ahead-many w ∙ omega arith

  room : live + 1 < 256
  room = omega (arith, j.room, w.sound.few)

  under : but_last w.stack.frames ≡ w.below
  under = but_last-innermost w.stack w.below w.frame w.frames-are

  one : suc live ≡ live + 1
  one = omega arith

  -- arguments lie in the frames before
  given : (i x : ℕ) → get_elem? j.arguments i ≡ some x → frame_number x ≤ length w.stack.frames
  given i x e = let d = j.designate i x e in numbered-high w.stack.frames (frame_number x) d.1.home d.1.stands

  module _ (cells'' : List ℤ) (cleared : Cleared cells' (32 * (live + 1) + length j.formals) (32 * (live + 1) + (length j.formals + length (block_decls j.text))) cells'') where
    held : Holds gs (set blocks (live + 1) body) (set (set nexts live back) (live + 1) (stmt_place j.text 1)) (set links (live + 1) link) cells''
    held =
        let fs = w.stack.frames in
        let few = live-few w in
        let n = many w in
        let z : 32 * length fs ≡ 32 * suc live = ap (λ k. 32 * k) n in
        let h = holds_pushed fs blocks nexts links cells w.sound.bounded.each live at n (omega (arith, w.nexts-long)) w.holds w.frame (last-is w) (suc w.frame.next)
        (subst (λ (ps : List Frame). BoundedFrames (ps ++ (continue w.frame (suc w.frame.next) ∷ []))) (sym under) bounded) j.formals j.arguments j.text (suc link) j.count given cells''
        (λ c p. cleared.kept c (omega arith) ∙ j.kept c (omega arith))
        (λ i x e. ap (λ c. get_or cells'' (c + i) (pos 0)) z ∙ cleared.kept (32 * suc live + i) (omega (arith, get_elem-bound j.arguments i x e, j.count)) ∙ j.handed i x e)
        (λ i p q. ap (λ c. get_or cells'' (c + i) (pos 0)) z ∙ cleared.zeros (32 * suc live + i) (omega (arith, j.count)) (omega (arith, j.count)))
        (omega (arith, room, w.blocks-long)) (omega (arith, room, w.nexts-long)) (omega (arith, room, w.links-long)) in
        subst (λ (T : Type 0). T)
        (λ i. Holds ((under i ++ (continue w.frame (suc w.frame.next) ∷ [])) ++ (new ∷ [])) (set blocks (one i) (sym j.body_is i)) (set (set nexts live (sym j.back_is i)) (one i) (stmt_place j.text 1)) (set links (one i) link) cells'') h

    pub record Entered : Type 0 where
      pub standing : Standing code l cells'' (set blocks (live + 1) body) (set nexts live back) (set links (live + 1) link) table pairs (live + 1) (stmt_place j.text 1) (end_place j.text)
      pub follows : Follows w standing.stack standing.program standing.name
      pub shows : (display : List ℕ) → suc (level_of w.stack.frames (suc link)) < length display → ShowsFrom w.stack.frames (suc link) display
          → Shows standing.stack.frames (set display (suc (level_of w.stack.frames (suc link))) (32 * (live + 1)))

    shown : (display : List ℕ) → suc (level_of w.stack.frames (suc link)) < length display → ShowsFrom w.stack.frames (suc link) display
        → Shows gs (set display (suc (level_of w.stack.frames (suc link))) (32 * (live + 1)))
    shown display h shows =
        let n : length w.stack.frames ≡ live + 1 = many w ∙ one in
        subst (λ (T : Type 0). T)
        (λ i. Shows ((under i ++ (continue w.frame (suc w.frame.next) ∷ [])) ++ (new ∷ [])) (set display (suc (level_of w.stack.frames (suc link))) (32 * n i)))
        (shows-pushed w.stack.frames (downward w) w.frame (last-is w) (suc w.frame.next) display j.formals j.arguments j.text (suc link) (omega (arith, j.link-high)) h shows)

    pub entered : Entered
    unfolding stepped with_frames new_frame
    entered =
        record {
          standing = record {
            name = w.name;
            program = w.program;
            keeps = w.keeps;
            covers = w.covers;
            stack = stepped w.stack after;
            sound = sound;
            below = ahead w;
            frame = new;
            frames-are = refl;
            depth = deep;
            table_is = w.table_is;
            holds = held;
            end_is = refl;
            cells-long = cleared.as_long ∙ j.as_long ∙ w.cells-long;
            blocks-long = length-set blocks (live + 1) body ∙ w.blocks-long;
            nexts-long = length-set nexts live back ∙ w.nexts-long;
            links-long = length-set links (live + 1) link ∙ w.links-long;
          };
          follows = follows-step w after j.steps;
          shows = shown;
        }
