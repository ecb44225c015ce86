-- A name of the next statement, by its word: `no-formal`: where the word is direct the name is no formal; `a-formal`: else it is the formal at the word's
-- position of the activation so many links further out. `as-procedure`: the kind that the word of a procedure says;
-- `passer-there`: the passer of a formal procedure stands at its own cell.
use Rattle.std.specs.Prelude.{ℕ, suc, pred, ◌+◌, ◌-◌, ◌≤◌, true, false, List, ◌≡◌, refl, leb, ℤ, length, get_or, set}
use Rattle.std.proofs.Common.{arith, sym, ap, ◌∙◌}
use Rattle.std.proofs.Math.Option.{none, some}
use borrow.Author.Tests.{leb-true, leb-false, le-leb}
use Rattle.std.proofs.Math.ListN.{get_elem?}
use Rattle.language.specs.Text.{Kind, variable, label, procedure, Formal}
use Rattle.language.specs.Encoding.{kind_field}
use Rattle.language.specs.Machine.{Limits}
use Rattle.laws.specs.Tests.{split}
use Rattle.frames.specs.Frame.{Frame, numbered, designates}
use Rattle.frames.specs.Numbered.{numbered-low, numbered-index}
use Rattle.coordinates.specs.Enclosure.{Coordinate}
use Rattle.coordinates.specs.Chain.{enclosing, enclosure_of, level_of, climb}
use Rattle.coordinates.proofs.Coordinates.{instance_at}
use Rattle.coordinates.proofs.Levels.{enclosure-of-text}
use Rattle.coordinates.proofs.Designated.{Designated}
use Rattle.coordinates.proofs.Next.{Resolved}
use Rattle.f_search.specs.Passers.{formal_of, passer}
use Rattle.f_search.proofs.Entered.{formal-from, formal-there, declared-there}
use Rattle.resolved.specs.Resolved.{position_in, level_in, kind_in, direct, name_word}
use Rattle.resolved.proofs.NameWords as words
use Rattle.arrays.proofs.Found.{direct_is, formal-is}
use Rattle.arrays.proofs.Names.{follow, follow-climbs, named-by-links}
use Rattle.steps.specs.Standing.{Standing}
use Rattle.steps.specs.Here.{many, numbered-here, downward}
use Rattle.steps.specs.Reads.{links-there}
use Rattle.steps.specs.Finding.{first_by_links}
use Rattle.search_moves.specs.Running.{formal_in, Passers}

procedure-only : (k : Kind) → kind_field k ≡ kind_field procedure → k ≡ procedure
unfolding kind_field
procedure-only variable e = absurd (omega arith)
procedure-only label e = absurd (omega arith)
procedure-only procedure e = refl

module _ {code : List ℕ} {l : Limits} {cells : List ℤ} {blocks nexts links : List ℕ} {table : List ℤ} {pairs live at end : ℕ} (s : Standing code l cells blocks nexts links table pairs live at end)
    (n : ℕ) (r : Resolved s.stack.frames n) where
  abbrev fs : List Frame
  fs = s.stack.frames

  abbrev v : ℕ
  v = name_word (enclosure_of fs (length fs)) n

  abbrev c : Coordinate
  c = r.coordinate

  abbrev holder : Frame
  holder = r.declarer.frame

  abbrev up : ℕ
  up = level_of fs (length fs) - c.level

  innermost : numbered fs (length fs) ≡ some s.frame
  innermost = ap (numbered fs) (many s) ∙ numbered-here s

  word-is : words.NameIs v c (enclosing holder)
  word-is =
      words.name-is (enclosure_of fs (length fs)) (words.narrow-of-text s.program s.keeps (enclosure_of fs (length fs)) (enclosure-of-text s.program fs s.sound.chained (length fs) s.frame innermost)) n c r.here (enclosing holder) r.declarer.block

  pub no-formal : direct v ≡ true → formal_of fs (length fs) n ≡ none
  unfolding enclosing
  no-formal d =
      split (leb c.position (length holder.formals))
      (λ q. absurd (omega (arith, direct_is v d, word-is.formal (leb-true c.position (length holder.formals) q))))
      (λ q. formal-from fs (downward s) (length fs) n c r.here ∙ declared-there fs (instance_at (climb fs (length fs) up) c.position (0 + up)) holder r.declarer.stands q)

  word-kind : Designated fs (designates fs n) procedure → kind_in v ≡ kind_field procedure
  word-kind p = (named-by-links s.program s.keeps fs s.sound.chained n c r.here s.sound.wired blocks (set nexts live at) links cells s.holds).kind procedure p

  pub as-procedure : Designated fs (designates fs n) procedure → kind_in v ≡ 2
  unfolding kind_field
  as-procedure p = word-kind p

  -- A formal

  -- the activation that has it
  abbrev pub holder_by : ℕ
  holder_by = follow links (pred (length fs)) (level_of fs (length fs) - level_in v)

  holder-is : climb fs (length fs) up ≡ suc holder_by
  holder-is =
      let low = numbered-low fs (climb fs (length fs) up) holder r.declarer.stands in
      let e : holder_by ≡ pred (climb fs (length fs) up) =
      ap (λ j. follow links (pred (length fs)) (level_of fs (length fs) - j)) word-is.level
      ∙ follow-climbs fs (downward s) links (links-there s) up (length fs) s.frame innermost (omega (arith, r.level-low, r.level-high)) in
      omega arith

  position-is : c.position ≡ suc (position_in v)
  position-is = omega (arith, word-is.position, r.position-low)

  module _ (d : direct v ≡ false) where
    formal-high : c.position ≤ length holder.formals
    unfolding enclosing
    formal-high =
        split (leb c.position (length holder.formals)) (λ q. leb-true c.position (length holder.formals) q)
        (λ q. absurd (omega (arith, formal-is v d, word-is.declared (leb-false c.position (length holder.formals) q))))

    pub a-formal : formal_of fs (length fs) n ≡ some (formal_in holder_by (position_in v))
    a-formal =
        formal-from fs (downward s) (length fs) n c r.here
        ∙ formal-there fs (instance_at (climb fs (length fs) up) c.position (0 + up)) holder r.declarer.stands (le-leb c.position (length holder.formals) formal-high)
        ∙ (λ i. some (record { frame = holder-is i; position = position-is i }))

    stands : get_elem? fs holder_by ≡ some holder
    stands = numbered-index fs (suc holder_by) holder (ap (numbered fs) (sym holder-is) ∙ r.declarer.stands)

    the-formal : (m : Formal) × (get_elem? holder.formals (pred c.position) ≡ some m)
    unfolding enclosing
    the-formal = words.formal-there (enclosure_of fs (length fs)) n c r.here (enclosing holder) r.declarer.block formal-high

    its-kind : Designated fs (designates fs n) procedure → the-formal.0.kind ≡ procedure
    unfolding enclosing
    its-kind p =
        procedure-only the-formal.0.kind (sym (word-is.formal-kind the-formal.0 the-formal.1) ∙ word-kind p)

    pub passer-there : Designated fs (designates fs n) procedure → (passers : List ℕ) → Passers fs passers
        → get_or passers (first_by_links s v + position_in v) 0 ≡ pred (passer fs (formal_in holder_by (position_in v)))
    passer-there p passers are =
        are holder_by (position_in v) holder the-formal.0 stands (ap (get_elem? holder.formals) word-is.position ∙ the-formal.1) (its-kind p)
