-- A name that its coordinate's block declares, and one that is a formal there; which of the two is known from the text, since the frame has
-- the formals of the block. `own_name`: a declared name's designator is frame number times 64 plus position; `own-word`: its word is the
-- frame's at that position; `own-display`: a body or label found so is entered with the first entries of the display, as many as its
-- level. `formal-name`: a formal's word is the designator.
use Rattle.std.specs.Prelude.{ℕ, pred, ◌+◌, ◌*◌, ◌-◌, ◌≤◌, ◌<◌, List, ◌≡◌, pos, length, get_or, take}
use Rattle.std.proofs.Common.{arith, ◌∙◌, le-leb}
use Rattle.std.proofs.Math.Option.{some}
use Rattle.std.proofs.Math.Path.{ap}
use Rattle.std.proofs.lemmas.Bool.{lt-leb}
use Rattle.frames.specs.Frame.{Frame, numbered, designator_in, designates, frame_number, place, word_at}
use Rattle.frame_laws.specs.Finding.{word_at-found, finally-formal, finally-declared}
use Rattle.coordinates.specs.Enclosure.{Coordinate, coordinate_of}
use Rattle.coordinates.specs.Chain.{enclosure_of, level_of, climb, display_from, display_of, Downward}
use Rattle.coordinates.proofs.Declared.{coordinate-declares}
use Rattle.coordinates.proofs.Coordinates.{level-of-text, instance_at, DeclaringFrame, declaring-frame, designates-by-links}
use Rattle.coordinates.proofs.Display.{display-prefix}
use Rattle.coordinates.proofs.Designated.{number-of, place-of}

module _ (fs : List Frame) (down : Downward fs) (n : ℕ) (c : Coordinate) (here : coordinate_of (enclosure_of fs (length fs)) n ≡ some c) where
  -- the frame that declares the name, and its number
  abbrev pub declarer : DeclaringFrame fs (length fs) n c
  declarer = declaring-frame fs down (length fs) n c here

  abbrev pub number : ℕ
  number = climb fs (length fs) (level_of fs (length fs) - c.level)

  pub formal-name : c.position ≤ length declarer.frame.formals → designates fs n ≡ designator_in (get_or declarer.frame.words (pred c.position) (pos 0))
  formal-name h =
      designates-by-links fs down n c here ∙ finally-formal fs (instance_at number c.position (level_of fs (length fs) - c.level)) declarer.frame declarer.stands (le-leb c.position (length declarer.frame.formals) h)

  pub own_name : length declarer.frame.formals < c.position → designates fs n ≡ number * 64 + c.position
  own_name h =
      designates-by-links fs down n c here ∙ finally-declared fs (instance_at number c.position (level_of fs (length fs) - c.level)) declarer.frame declarer.stands (lt-leb c.position (length declarer.frame.formals) h)

  -- positions are at most 32 in a script that keeps the rules
  pub own-number : length declarer.frame.formals < c.position → c.position < 64 → frame_number (designates fs n) ≡ number
  own-number h s = ap frame_number (own_name h) ∙ number-of number c.position s

  pub own-word : length declarer.frame.formals < c.position → c.position < 64 → word_at fs (designates fs n) ≡ get_or declarer.frame.words (c.position - 1) (pos 0)
  own-word h s =
      word_at-found fs (designates fs n) declarer.frame (ap (numbered fs) (own-number h s) ∙ declarer.stands)
      ∙ ap (λ i. get_or declarer.frame.words i (pos 0)) (ap place (own_name h) ∙ place-of number c.position s)

  pub own-display : length declarer.frame.formals < c.position → c.position < 64 → display_from fs (frame_number (designates fs n)) ≡ take c.level (display_of fs)
  unfolding display_of
  own-display h s =
      let d = coordinate-declares (enclosure_of fs (length fs)) n c here in
      let l : c.level ≤ level_of fs (length fs) = omega (arith, d.high, level-of-text fs (length fs)) in
      ap (display_from fs) (own-number h s) ∙ display-prefix fs down (length fs) c.level l
