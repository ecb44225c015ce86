-- What an engine knows of the statement that comes next, from any stack that is `Sound` (Sound.antt): `next-action` and `next-block` give the
-- records `NextAction` and `NextBlock`. `Resolved fs n` has all that is known of a name: its coordinate, with what the search, the links and
-- the display make of it, and the instance that it designates.
use Rattle.std.specs.Prelude.{ℕ, pred, ◌-◌, ◌≤◌, ◌≡◌, length, get_or}
use Rattle.std.proofs.Common.{arith, sym, ◌∙◌}
use mathlib.Core.List.{List, [], ◌∷◌}
use Rattle.std.proofs.Math.Option.{some}
use Rattle.std.proofs.Math.Path.{refl}
use Rattle.language.specs.Basics.{last?, lookup}
use Rattle.language.specs.Text.{variable, label, procedure, Action, CL, GO, IF, KN, AR, AD, RM, QY, Block, BK, DO}
use Rattle.language.specs.Scope.{Meaning}
use Rattle.language.specs.Machine.{Limits}
use Rattle.laws.specs.Each.{Each, each_map}
use Rattle.grammar.specs.Rules.{Is, FormedAction, ScopedAction, Keeps}
use Rattle.frames.specs.Frame.{Frame, Stack, numbered, frame_names, seek_name, finally, designates, links_followed, frame_stmt}
use Rattle.frames.specs.Numbered.{numbered-low, numbered-high, last-numbered}
use Rattle.frame_laws.specs.Formed.{InForm, stmt-in-form, block-in-form, action-in-form}
use Rattle.frame_laws.specs.Bounds.{FrameBounded}
use Rattle.frame_laws.specs.Names.{numbered-bounded}
use Rattle.coordinates.specs.Enclosure.{enclosed, Coordinate, coordinate_of, as-block, Encloses}
use Rattle.coordinates.specs.Chain.{enclosing, enclosure_of, level_of, climb, display_of, Chained}
use Rattle.coordinates.proofs.Declared.{coordinate-declares}
use Rattle.coordinates.proofs.Coordinates.{level-of-text, instance_at, DeclaringFrame, declaring-frame, found, designates-by-display, links-counted}
use Rattle.coordinates.proofs.Kept.{chained-downward}
use Rattle.coordinates.proofs.Levels.{level-bound, names-bound, in-innermost, enclosure-level}
use Rattle.coordinates.proofs.Visible.{action_names, scope_of, Located}
use Rattle.coordinates.proofs.Statements.{statement-coordinates}
use Rattle.coordinates.proofs.Designated.{Designated, Wired, designates-kind, designates-a, statement-scoped}
use Rattle.coordinates.proofs.Index.{is-action, index_of, indexed-next}
use Rattle.coordinates.proofs.Sound.{Sound}

-- what is known of a name n of the next statement
pub record Resolved (fs : List Frame) (n : ℕ) : Type 0 where
  pub coordinate : Coordinate
  pub here : coordinate_of (enclosure_of fs (length fs)) n ≡ some coordinate
  pub level-low : 1 ≤ coordinate.level
  pub level-high : coordinate.level ≤ level_of fs (length fs)
  pub position-low : 1 ≤ coordinate.position
  pub position-high : coordinate.position ≤ 32
  pub declarer : DeclaringFrame fs (length fs) n coordinate
  pub by-search : let links = level_of fs (length fs) - coordinate.level in seek_name fs n ≡ some (instance_at (climb fs (length fs) links) coordinate.position links)
  pub by-display : designates fs n ≡ finally fs (instance_at (get_or (display_of fs) (pred coordinate.level) 0) coordinate.position 0)
  pub links : links_followed fs n ≡ level_of fs (length fs) - coordinate.level
  pub meaning : Meaning
  pub instance : Designated fs (designates fs n) meaning.kind

name-resolved : (t : Block) → Keeps t → (fs : List Frame) → Chained t fs → Wired fs → (n : ℕ) → (m : Meaning) × Located (enclosure_of fs (length fs)) n m → Resolved fs n
name-resolved t keeps fs chain wired n at =
    let c = at.1.coordinate in
    let e = at.1.found in
    let down = chained-downward t fs chain in
    let d = coordinate-declares (enclosure_of fs (length fs)) n c e in
    let g = declaring-frame fs down (length fs) n c e in
    let few = names-bound t keeps fs chain (climb fs (length fs) (level_of fs (length fs) - c.level)) g.frame g.stands in
    record {
      coordinate = c;
      here = e;
      level-low = d.low;
      level-high = omega (arith, d.high, level-of-text fs (length fs));
      position-low = numbered-low (frame_names g.frame) c.position n g.named;
      position-high = omega (arith, few, numbered-high (frame_names g.frame) c.position n g.named);
      declarer = g;
      by-search = found fs down n c e;
      by-display = designates-by-display fs down n c e;
      links = links-counted fs down n c e;
      meaning = at.0;
      instance = designates-kind t keeps fs chain wired n at.0 at.1;
    }

-- the kind of instance that each name of an action designates; an argument may be of any kind
abbrev pub OfKinds : List Frame → Action → Type 0
OfKinds fs (CL p xs) = Designated fs (designates fs p) procedure
OfKinds fs (GO x) = Designated fs (designates fs x) label
OfKinds fs (IF v x) = Designated fs (designates fs v) variable × Designated fs (designates fs x) label
OfKinds fs (KN x z) = Designated fs (designates fs x) variable
OfKinds fs (AR x o a b) = Designated fs (designates fs x) variable × Designated fs (designates fs a) variable × Designated fs (designates fs b) variable
OfKinds fs (AD g m) = Designated fs (designates fs g) variable × Designated fs (designates fs m) variable
OfKinds fs (RM g m) = Designated fs (designates fs g) variable × Designated fs (designates fs m) variable
OfKinds fs (QY x g m) = Designated fs (designates fs x) variable × Designated fs (designates fs g) variable × Designated fs (designates fs m) variable

-- The innermost frame f is about to do the action a at offset `at`.
pub record NextAction (t : Block) (fs : List Frame) (f : Frame) (at : ℕ) (a : Action) : Type 0 where
  pub frame : FrameBounded fs (pred (length fs)) f
  pub level : (1 ≤ level_of fs (length fs)) × (level_of fs (length fs) ≤ 16)
  pub formed : FormedAction a
  pub scoped : ScopedAction a (scope_of (enclosure_of fs (length fs)))
  pub names : Each (Resolved fs) (action_names a)
  pub kinds : OfKinds fs a
  pub listed : lookup at (index_of t) ≡ some (is-action (enclosure_of fs (length fs)) a)

-- The innermost frame f is about to enter the block b, which lies one level deeper.
pub record NextBlock (t : Block) (fs : List Frame) (f : Frame) (b : Block) : Type 0 where
  pub frame : FrameBounded fs (pred (length fs)) f
  pub level : (1 ≤ level_of fs (length fs)) × (level_of fs (length fs) ≤ 15)
  pub formed : InForm b []
  pub stands : Encloses t (enclosed [] b ∷ enclosure_of fs (length fs))

module _ (l : Limits) (t : Block) (keeps : Keeps t) (s : Stack) (sound : Sound l t s) (f : Frame) (last : last? s.frames ≡ some f) where
  -- the innermost frame, by its number
  innermost : numbered s.frames (length s.frames) ≡ some f
  innermost = sym (last-numbered s.frames) ∙ last

  pub innermost-bounded : FrameBounded s.frames (pred (length s.frames)) f
  innermost-bounded = numbered-bounded s.frames (length s.frames) f sound.bounded.each innermost

  variable-of : (n : ℕ) → Is variable (scope_of (enclosure_of s.frames (length s.frames))) n → Designated s.frames (designates s.frames n) variable
  variable-of = designates-a t keeps s.frames sound.chained sound.wired variable

  kinds-of : (a : Action) → ScopedAction a (scope_of (enclosure_of s.frames (length s.frames))) → OfKinds s.frames a
  unfolding ScopedAction
  kinds-of (CL p xs) h = designates-a t keeps s.frames sound.chained sound.wired procedure p h.called
  kinds-of (GO x) h = designates-a t keeps s.frames sound.chained sound.wired label x h
  kinds-of (IF v x) h = (variable-of v h.0, designates-a t keeps s.frames sound.chained sound.wired label x h.1)
  kinds-of (KN x z) h = variable-of x h
  kinds-of (AR x o a b) h = (variable-of x h.0, variable-of a h.1, variable-of b h.2)
  kinds-of (AD g m) h = (variable-of g h.0, variable-of m h.1)
  kinds-of (RM g m) h = (variable-of g h.0, variable-of m h.1)
  kinds-of (QY x g m) h = (variable-of x h.0, variable-of g h.1, variable-of m h.2)

  pub next-action : (at : ℕ) (a : Action) → frame_stmt f ≡ some (DO at a) → NextAction t s.frames f at a
  unfolding frame_stmt
  next-action at a q =
      let scoped = statement-scoped t keeps s.frames sound.chained f at a last q in
      record {
        frame = innermost-bounded;
        level = level-bound t keeps s.frames sound.chained (length s.frames) f innermost;
        formed = action-in-form at a (stmt-in-form f.text f.formals (pred f.next) (DO at a) innermost-bounded.in-form q);
        scoped = scoped;
        names = each_map (λ n. (m : Meaning) × Located (enclosure_of s.frames (length s.frames)) n m) (Resolved s.frames) (action_names a) (name-resolved t keeps s.frames sound.chained sound.wired) (statement-coordinates t keeps s.frames sound.chained f at a last q);
        kinds = kinds-of a scoped;
        listed = indexed-next t keeps s.frames sound.chained f at a last q;
      }

  block-stands : (b : Block) → frame_stmt f ≡ some (BK b) → Encloses t (enclosed [] b ∷ enclosure_of s.frames (length s.frames))
  unfolding frame_stmt enclosing
  block-stands b q = in-innermost t s.frames sound.chained f last (λ es. Encloses t (enclosed [] b ∷ es)) (λ es w. (as-block (pred f.next) q refl, w))

  pub next-block : (b : Block) → frame_stmt f ≡ some (BK b) → NextBlock t s.frames f b
  unfolding frame_stmt
  next-block b q =
      let stands = block-stands b q in
      let deeper = (enclosure-level t keeps (enclosed [] b ∷ enclosure_of s.frames (length s.frames)) stands).1 in
      record {
        frame = innermost-bounded;
        level = ((level-bound t keeps s.frames sound.chained (length s.frames) f innermost).0, omega (arith, level-of-text s.frames (length s.frames)));
        formed = block-in-form b (stmt-in-form f.text f.formals (pred f.next) (BK b) innermost-bounded.in-form q);
        stands = stands;
      }
