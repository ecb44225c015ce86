-- The innermost activation goes on. `ahead`: the frames with its next statement number risen, which is what a statement acts on; they are like
-- those before it (`ahead-like`), keep the bounds (`ahead-bounded`), and the arrays hold them with the place after the statement
-- (`ahead-holds`). `goes_on`: a step that leaves frames like these, held by the arrays, is one after which the engine goes on; `stays_on`: so is
-- one that stores nothing, `stores-on`: and one that stores a word. `cell-found`, `value_found`, `cell-there`: a name's cell and value, as an engine finds it.
use Prim.Native.Nat.{ℕ, suc, pred, ◌+◌, ◌*◌, ◌≤◌, ◌<◌}
use Rattle.std.proofs.Common.{arith, sym, ◌∙◌, length-set, inr}
use Rattle.std.specs.Prelude.{List, [], ◌∷◌, ◌++◌, ◌≡◌, ℤ, pos, get_or, set}
use Rattle.std.proofs.Math.Option.{some, map}
use Rattle.std.proofs.Math.Path.{refl, ap, subst}
use Rattle.std.proofs.Math.ListN.{length}
use Rattle.language.specs.Basics.{last?, but_last}
use Rattle.language.specs.Text.{Kind, Stmt}
use Rattle.language.specs.Encoding.{stmt_fields}
use Rattle.language.specs.Table.{Table}
use Rattle.language.specs.Machine.{Limits}
use Rattle.laws.specs.Tests.{by-lookup}
use Rattle.laws.specs.Lists.{snoc-length, but_last-snoc, last-split}
use Rattle.frames.specs.Frame.{Frame, Stack, acted, numbered, designates, frame_number, word_at, put_word, continue, with_frames, table_changed, stepped, frame_stmt, frame_step}
use Rattle.frames.specs.Numbered.{numbered-suc, last-numbered}
use Rattle.frame_laws.specs.Bounds.{Points, BoundedFrames}
use Rattle.frame_laws.specs.BoundedFrames.{points-alike}
use Rattle.frame_laws.specs.BoundedSteps.{advanced-bounded}
use Rattle.frame_laws.specs.Likeness.{Like, LikeFrames, numbered-none, numbered-like}
use Rattle.frame_laws.specs.Continuing.{like-continued, word_at-advanced}
use Rattle.frame_laws.specs.Storing.{like-put}
use Rattle.coordinates.specs.Chain.{enclosing, enclosure_of, display_from, display_of, outline, SameOutlines}
use Rattle.coordinates.proofs.Display.{display-alike}
use Rattle.coordinates.proofs.Designated.{Designated}
use Rattle.coordinates.proofs.Next.{Resolved}
use Rattle.resolved.specs.Resolved.{end_place, stmt_place, name_word}
use Rattle.arrays.specs.Holds.{cell_of, target_of, Holds}
use Rattle.arrays.proofs.Cells.{points-celled, name-points, cell-bound}
use Rattle.arrays.proofs.Storing.{word_held, holds-stored}
use Rattle.arrays.proofs.Running.{holds_on}
use Rattle.run_moves.specs.Acting.{Finding, Scene}
use Rattle.steps.specs.Standing.{Standing, Finds}
use Rattle.steps.specs.Means.{GoesOn}
use Rattle.steps.specs.Here.{many, last-is, here, live-few, downward, goes-on-at}
use Rattle.steps.specs.Loop.{sound-after, follows-step}

like-outline : (f g : Frame) → Like f g → outline f ≡ outline g
unfolding outline enclosing
like-outline f g h = λ i. (record { formals = sym h.formals i; text = sym h.text i }, sym h.link i)

pub like-outlines : (fs gs : List Frame) → LikeFrames fs gs → (b : ℕ) → SameOutlines b fs gs
like-outlines fs gs like b i h =
    by-lookup (numbered fs i) (λ e. ap (map outline) e ∙ sym (ap (map outline) (numbered-none fs gs like i e)))
    (λ f e. let g = numbered-like fs gs like i f e in
    ap (map outline) e ∙ ap (λ o. some o) (like-outline f g.0 g.2) ∙ sym (ap (map outline) g.1))

pub like-trans : (fs gs hs : List Frame) → LikeFrames fs gs → LikeFrames gs hs → LikeFrames fs hs
like-trans fs gs hs p q =
    record {
      count = q.count ∙ p.count;
      each = λ k f e.
          let g = p.each k f e in
          let h = q.each k g.0 g.1 in (
            h.0,
            h.1,
            record {
              formals = h.2.formals ∙ g.2.formals;
              text = h.2.text ∙ g.2.text;
              link = h.2.link ∙ g.2.link;
              handed = λ i s. h.2.handed i (omega (arith, ap length g.2.formals)) ∙ g.2.handed i s;
            },
          );
    }

module _ {code : List ℕ} {l : Limits} {cells : List ℤ} {blocks nexts links : List ℕ} {table : List ℤ} {pairs live at end : ℕ} (w : Standing code l cells blocks nexts links table pairs live at end) where
  -- what a statement finds
  abbrev pub scene_of : Scene
  scene_of = record { code = code; cells = cells; activations = l.activations; live = live; at = at }

  abbrev pub ahead : List Frame
  ahead = w.below ++ (continue w.frame (suc w.frame.next) ∷ [])

  abbrev pub ahead_stack : Stack
  ahead_stack = with_frames w.stack ahead

  pub ahead-like : LikeFrames w.stack.frames ahead
  ahead-like = subst (λ (fs : List Frame). LikeFrames fs ahead) (sym w.frames-are) (like-continued w.below w.frame (suc w.frame.next))

  pub ahead-many : length ahead ≡ suc live
  ahead-many = ahead-like.count ∙ many w

  pub ahead-held : Holds ahead blocks (set nexts live (stmt_place w.frame.text (suc w.frame.next))) links cells
  ahead-held =
      let i = suc w.frame.next in
      let under : but_last w.stack.frames ≡ w.below = ap but_last w.frames-are ∙ but_last-snoc w.below w.frame in
      subst (λ (fs : List Frame). Holds (fs ++ (continue w.frame i ∷ [])) blocks (set nexts live (stmt_place w.frame.text i)) links cells) under
      (holds_on w.stack.frames blocks nexts links cells w.sound.bounded.each live at (many w) (omega (arith, w.nexts-long, live-few w)) w.holds w.frame (last-is w) i)

  -- The engine after a step

  module _ (v : Stack) (step : frame_step l w.stack ≡ acted v) (like : LikeFrames w.stack.frames v.frames) where
    same-display : display_of v.frames ≡ display_of w.stack.frames
    unfolding display_of
    same-display =
        ap (display_from v.frames) like.count
        ∙ display-alike w.stack.frames v.frames (length w.stack.frames) (like-outlines w.stack.frames v.frames like (length w.stack.frames)) (downward w) (length w.stack.frames) (omega arith)

    pub goes_on : (cells' table' : List ℤ) (pairs' at' : ℕ) → v.table ≡ record { words = table'; used = pairs' } → Holds v.frames blocks (set nexts live at') links cells'
        → length cells' ≡ 8224 → GoesOn w cells' table' pairs' at'
    unfolding stepped
    goes_on cells' table' pairs' at' t holds long =
        let g = like.each live w.frame (here w) in
        let count : length v.frames ≡ suc live = like.count ∙ many w in
        let last : last? v.frames ≡ some g.0 = last-numbered v.frames ∙ ap (numbered v.frames) count ∙ numbered-suc v.frames live ∙ g.1 in
        let parts : v.frames ≡ but_last v.frames ++ (g.0 ∷ []) = last-split v.frames g.0 last in
        record {
          standing = record {
            name = w.name;
            program = w.program;
            keeps = w.keeps;
            covers = w.covers;
            stack = stepped w.stack v;
            sound = sound-after w v step;
            below = but_last v.frames;
            frame = g.0;
            frames-are = parts;
            depth = omega (arith, ap length parts, snoc-length (but_last v.frames) g.0);
            table_is = t;
            holds = holds;
            end_is = w.end_is ∙ ap end_place (sym g.2.text);
            cells-long = long;
            blocks-long = w.blocks-long;
            nexts-long = w.nexts-long;
            links-long = w.links-long;
          };
          follows = follows-step w v step;
          same-display = same-display;
        }

  -- After the next statement

  module _ (x : Stmt) (q : frame_stmt w.frame ≡ some x) where
    pub ahead-bounded : BoundedFrames ahead
    unfolding with_frames
    ahead-bounded = (advanced-bounded l w.stack w.below w.frame x w.sound.bounded w.frames-are q).each

    pub ahead-holds : Holds ahead blocks (set nexts live (at + length (stmt_fields x))) links cells
    ahead-holds = subst (λ i. Holds ahead blocks (set nexts live i) links cells) (goes-on-at w x q) ahead-held

    pub points-ahead : (k y : ℕ) → Points w.stack.frames k y → Points ahead k y
    points-ahead k y p = points-alike w.stack.frames ahead k y (λ j f s e. let g = ahead-like.each j f e in (g.0, g.1, g.2.formals, g.2.text)) p

    -- with another table
    pub stays_on : (t : Table) → frame_step l w.stack ≡ acted (table_changed ahead_stack t) → GoesOn w cells t.words t.used (at + length (stmt_fields x))
    unfolding table_changed with_frames
    stays_on t step = goes_on (table_changed ahead_stack t) step ahead-like cells t.words t.used (at + length (stmt_fields x)) refl ahead-holds w.cells-long

    pub passes_on : frame_step l w.stack ≡ acted ahead_stack → GoesOn w cells table pairs (at + length (stmt_fields x))
    unfolding with_frames
    passes_on step = goes_on ahead_stack step ahead-like cells table pairs (at + length (stmt_fields x)) w.table_is ahead-holds w.cells-long

    pub stores-on : (y : ℕ) (z : ℤ) → Points w.stack.frames (length w.stack.frames) y → frame_step l w.stack ≡ acted (with_frames ahead_stack (put_word ahead y z))
        → GoesOn w (set cells (cell_of y) z) table pairs (at + length (stmt_fields x))
    unfolding with_frames
    stores-on y z p step =
        let many-words : 32 * length ahead ≤ length cells = omega (arith, ahead-many, w.cells-long, live-few w) in
        let there = points-ahead (length w.stack.frames) y p in
        let target : Points ahead (length ahead) y = subst (λ k. Points ahead k y) (sym ahead-like.count) there in
        goes_on (with_frames ahead_stack (put_word ahead y z)) step (like-trans w.stack.frames ahead (put_word ahead y z) ahead-like (like-put ahead y z (inr target)))
        (set cells (cell_of y) z) table pairs (at + length (stmt_fields x)) w.table_is
        (holds-stored ahead blocks (set nexts live (at + length (stmt_fields x))) links cells ahead-bounded ahead-holds (length w.stack.frames) y there z many-words)
        (length-set cells (cell_of y) z ∙ w.cells-long)

  -- Names

  module _ (F : Finding) (finds : Finds w.stack.frames F) (n : ℕ) (r : Resolved w.stack.frames n) (i : ℕ)
      (word : get_or code (at + i) 0 ≡ name_word (enclosure_of w.stack.frames (length w.stack.frames)) n) where
    pub cell-found : F.cell (get_or code (at + i) 0) ≡ cell_of (designates w.stack.frames n)
    cell-found = ap F.cell word ∙ (finds n r).cell-is

    pub home_found : F.home (get_or code (at + i) 0) ≡ pred (frame_number (designates w.stack.frames n))
    home_found = ap F.home word ∙ (finds n r).home-is

    pub target_found : F.target (get_or code (at + i) 0) ≡ target_of w.stack.frames (designates w.stack.frames n)
    target_found = ap F.target word ∙ (finds n r).target_is

    module _ (k : Kind) (d : Designated w.stack.frames (designates w.stack.frames n) k) where
      pub points-found : Points w.stack.frames (length w.stack.frames) (designates w.stack.frames n)
      points-found = name-points w.stack.frames n k w.sound.bounded.each d

      pub cell-there : F.cell (get_or code (at + i) 0) < 8192
      cell-there =
          let y = designates w.stack.frames n in
          omega (arith, cell-found, cell-bound y (points-celled w.stack.frames (length w.stack.frames) y w.sound.bounded.each (omega (arith, many w, live-few w)) points-found))

      -- the value of a variable, in the frames that the statement acts on
      pub value_found : word_at ahead_stack.frames (designates w.stack.frames n) ≡ get_or cells (F.cell (get_or code (at + i) 0)) (pos 0)
      value_found =
          word_at-advanced w.stack w.below w.frame (suc w.frame.next) w.frames-are (designates w.stack.frames n)
          ∙ sym (word_held w.stack.frames blocks (set nexts live at) links cells w.sound.bounded.each w.holds (length w.stack.frames) (designates w.stack.frames n) points-found)
          ∙ ap (λ c. get_or cells c (pos 0)) (sym cell-found)
