-- The looked-up name at a run's end: what it reads as in the innermost activation has the cell of what it designates.
use Rattle.std.specs.Prelude.{ℕ, ◌≤◌, List, ◌≡◌, eqb, ℤ, length, get_or, set}
use Rattle.std.proofs.Common.{arith, sym, ◌∙◌, subst, eqb-true, eq-eqb, ne_eqb}
use Rattle.std.proofs.Math.Option.{some}
use Rattle.std.proofs.Math.Path.{ap}
use Rattle.std.proofs.lemmas.Bool.{eqb-false}
use Rattle.language.specs.Copy.{renamed}
use Rattle.language.specs.Machine.{Activation}
use Rattle.laws.specs.Tests.{split}
use Rattle.laws.specs.Rising.{rising_none}
use Rattle.frames.specs.Frame.{designates}
use Rattle.frames.specs.Related.{joined, designator_for, designator_at}
use Rattle.frames.proofs.Find.{designates-name}
use Rattle.coordinates.specs.Enclosure.{Coordinate, coordinate_of}
use Rattle.coordinates.specs.Chain.{enclosure_of}
use Rattle.resolved.specs.Resolved.{name_word}
use Rattle.arrays.specs.Holds.{cell_of, designator_of}
use Rattle.arrays.proofs.Cells.{Celled, cell-bound, designator-of-cell}
use Rattle.arrays.proofs.Names.{seen}
use Rattle.arrays.proofs.Found.{named-celled}
use Rattle.steps.specs.Here.{many, live-few}
use Rattle.steps.specs.Finding.{word_of, unseen-word}
use Rattle.copy_names.specs.Owner.{cell_in}
use Rattle.copy_names.specs.Finding.{cell-of-looked}
use Rattle.copy_texts.specs.Texts.{read_as}
use Rattle.run_state.specs.declared.Registers.{Registers}
use Rattle.run_state.specs.Limits.{limits_by}
use Rattle.copy_moves.specs.Running.{Running}
use Rattle.copy_moves.specs.Looked.{Lookable, looked_up}
use Rattle.copy_run.specs.Words.{innermost-activation}
use Rattle.copy_run.specs.Here.{many-copies, sorted-here}

module _ {code names : List ℕ} {activations limit : ℕ} {cells : List ℤ} {area : List ℕ} {width : ℕ} {blocks nexts links firsts starts targets looked : List ℕ} {table : List ℤ} {here : Registers}
    (w : Running code names activations limit cells area width blocks nexts links firsts starts targets looked table here) where
  abbrev a : Activation
  a = (innermost-activation w).0

  abbrev name : ℕ
  name = w.standing.name

  abbrev word : ℕ
  word = word_of w.standing name

  is_read : get_or looked here.live 0 ≡ read_as a.reads word name
  is_read =
      w.looks.each here.live a (innermost-activation w).1
      ∙ ap (λ k. read_as a.reads (name_word (enclosure_of w.standing.stack.frames k) name) name) (sym (many w.standing))

  -- not visible
  unseen-reads : word ≡ 0 → get_or looked here.live 0 ≡ 0
  unfolding read_as
  unseen-reads z = is_read ∙ rw (eq-eqb word 0 z, read_as)

  -- visible
  module _ (d : word ≡ 0 → ⊥) where
    seen-reads : get_or looked here.live 0 ≡ renamed (joined a.reads) name
    unfolding read_as
    seen-reads = is_read ∙ rw (ne_eqb word 0 d, read_as)

    coordinate : (c : Coordinate) × (coordinate_of (enclosure_of w.standing.stack.frames (length w.standing.stack.frames)) name ≡ some c)
    coordinate = seen w.standing.program w.standing.keeps w.standing.stack.frames w.standing.sound.chained name d

    celled : Celled (designates w.standing.stack.frames name)
    celled =
        named-celled (limits_by activations limit) w.standing.program w.standing.keeps w.standing.stack w.standing.sound blocks (set nexts here.live here.at) links cells
        w.standing.holds name coordinate.0 coordinate.1

    designates-some : designates w.standing.stack.frames name ≡ 0 → ⊥
    designates-some z = let c = celled in omega (arith, c.number-low)

    found : (cell_in firsts starts here.live (get_or looked here.live 0) ≡ cell_of (designates w.standing.stack.frames name)) × (get_or firsts 0 0 ≤ get_or looked here.live 0)
    found =
        subst (λ x. (cell_in firsts starts here.live x ≡ cell_of (designates w.standing.stack.frames name)) × (get_or firsts 0 0 ≤ x)) (sym seen-reads)
        (cell-of-looked w.copies w.standing.stack w.related firsts starts w.new-names here.live a (many-copies w) (innermost-activation w).1 name w.name-small designates-some)

    -- a name as written has no instance, so what it reads as is not 0
    reads-some : get_or looked here.live 0 ≡ 0 → ⊥
    unfolding designator_at designator_for
    reads-some z =
        designates-some
        (designates-name w.copies w.standing.stack w.related here.live a (many-copies w) (innermost-activation w).1 name w.name-small
        ∙ ap (designator_at w.copies.live) (sym seen-reads ∙ z)
        ∙ ap designator_for (rising_none 65536 w.copies.live w.copies.fresh 1 0 w.related.rising (omega arith)))

  by_word : {X : Type 0} → (word ≡ 0 → X) → ((word ≡ 0 → ⊥) → X) → X
  by_word h k = split (eqb word 0) (λ t. h (eqb-true word 0 t)) (λ t. k (eqb-false word 0 t))

  pub lookable : Lookable firsts starts looked here.live
  lookable =
      record {
        few = omega (arith, live-few w.standing);
        found = λ d. by_word (λ z. absurd (d (unseen-reads z))) λ k. record {
          few = omega (arith, live-few w.standing);
          sorted = sorted-here w;
          new = (found k).1;
          has = omega (arith, (found k).0, cell-bound (designates w.standing.stack.frames name) (celled k));
        };
      }

  pub looked-designates : looked_up firsts starts looked here.live ≡ designates w.standing.stack.frames name
  unfolding looked_up
  looked-designates = by_word nothing something
    where
      nothing : word ≡ 0 → looked_up firsts starts looked here.live ≡ designates w.standing.stack.frames name
      nothing z = rw (eq-eqb (get_or looked here.live 0) 0 (unseen-reads z), looked_up) (sym (unseen-word w.standing name z))

      something : (word ≡ 0 → ⊥) → looked_up firsts starts looked here.live ≡ designates w.standing.stack.frames name
      something d =
          rw (ne_eqb (get_or looked here.live 0) 0 (reads-some d), looked_up)
          (ap designator_of (found d).0 ∙ designator-of-cell (designates w.standing.stack.frames name) (celled d))
