-- Names found by an engine that runs (`Running`): its way of finding them is right (`finds-by-chain`), and what it may read of a name of the next
-- statement (`reachable`), or of the looked-up one (`seen-reached`). `not_seen`, `seen-designates`, `seen-links`: what is found of the latter.
use Rattle.std.specs.Prelude.{ℕ, pred, ◌+◌, ◌*◌, ◌-◌, ◌≤◌, ◌<◌, List, ◌≡◌, eqb, ℤ, length, get_or, set}
use Rattle.std.proofs.Common.{arith, sym, ap, ◌∙◌, subst, eqb-true}
use Rattle.std.proofs.Math.Option.{some}
use Rattle.std.proofs.lemmas.Bool.{eqb-false}
use Rattle.laws.specs.Tests.{split}
use Rattle.frames.specs.Frame.{Frame, designates, links_followed}
use Rattle.frame_laws.specs.Finding.{seek_name-starts, links-none}
use Rattle.coordinates.specs.Enclosure.{Coordinate, coordinate_of}
use Rattle.coordinates.specs.Chain.{enclosure_of, level_of}
use Rattle.coordinates.proofs.Coordinates.{sought-none-iff}
use Rattle.coordinates.proofs.Next.{Resolved}
use Rattle.resolved.specs.Resolved.{level_in}
use Rattle.resolved.proofs.NameWords.{word-none-iff}
use Rattle.arrays.specs.Holds.{designator_of}
use Rattle.arrays.specs.Found.{cell_by}
use Rattle.arrays.proofs.Names.{follow, seen, named-by-links, followed-links}
use Rattle.run_sheet.specs.Named.{looked-up-none, looked-up-some}
use Rattle.steps.specs.Standing.{Standing, Finds}
use Rattle.steps.specs.Here.{many, here as innermost, live-few, downward}
use Rattle.steps.specs.Reads.{level-here, block_within, looked-up-here}
use Rattle.steps.specs.Finding.{by_first, Reaches, word_of, first_by_links, reached-by-links, finds-by-links, unseen-word, seen-by-links}
use Rattle.chain_records.specs.declared.Activation.{Activation}
use Rattle.run_state.specs.declared.Registers.{Registers}
use Rattle.chain_links.specs.Records.{blocks_in, nexts_in, links_in}
use Rattle.run_cells.specs.Finding.{Reachable}
use Rattle.chain_links.specs.Finding.{home_of, first_cell, by_chain, Seen}
use Rattle.run_state.specs.Limits.{limits_by}
use Rattle.chain_links.specs.Running.{Running, links_to, links-none-to, links-some-to, found_by, Reached}
use Rattle.chain_links.specs.Moving.{linked}
use Rattle.chain_links.specs.Names.{found_in}

module _ {code : List ℕ} {activations limit : ℕ} {cells : List ℤ} {records : List Activation} {table : List ℤ} {here : Registers}
    (w : Running code activations limit cells records table here) where
  abbrev st : Standing code (limits_by activations limit) cells (blocks_in records) (nexts_in records) (links_in records) table here.pairs here.live
      here.at here.end
  st = w.standing

  abbrev fs : List Frame
  fs = st.stack.frames

  live-is : pred (length fs) ≡ here.live
  live-is = ap pred (many st)

  pub level-there : level_of fs (length fs) ≡ here.level
  level-there = sym (w.level-is ∙ level-here st)

  first-is : (v : ℕ) → first_by_links st v ≡ first_cell records here.live here.level v
  first-is v = λ i. 32 * follow (links_in records) (live-is i) (level-there i - level_in v)

  pub finds-by-chain : Finds fs (by_chain cells records here.live here.level)
  finds-by-chain = subst (λ (f : ℕ → ℕ). Finds fs (by_first cells f)) (λ i v. first-is v i) (finds-by-links st)

  -- a name that is seen
  module _ (n : ℕ) (c : Coordinate) (e : coordinate_of (enclosure_of fs (length fs)) n ≡ some c) where
    seen_at : Seen records here.live here.level (word_of st n)
    seen_at =
        let a = named-by-links st.program st.keeps fs st.sound.chained n c e st.sound.wired (blocks_in records)
        (set (nexts_in records) here.live here.at) (links_in records) cells st.holds in
        record { linked = linked w; outer = subst (λ m. level_in (word_of st n) ≤ m) level-there a.level-high }

  as-reachable : (v : ℕ) → Reaches cells here.live (first_cell records here.live here.level v) v
      → Reachable cells (first_cell records here.live here.level v) v
  as-reachable v r = record { own = omega (arith, r.own, live-few st); whole = r.whole; cell = r.cell }

  -- the names of the next statement

  pub seen-name : (n : ℕ) → Resolved fs n → Seen records here.live here.level (word_of st n)
  seen-name n r = seen_at n r.coordinate r.here

  pub reached : (n : ℕ) → Resolved fs n → Reaches cells here.live (first_cell records here.live here.level (word_of st n)) (word_of st n)
  reached n r = subst (λ m. Reaches cells here.live m (word_of st n)) (first-is (word_of st n)) (reached-by-links st n r)

  pub reachable : (n : ℕ) → Resolved fs n → Reachable cells (first_cell records here.live here.level (word_of st n)) (word_of st n)
  reachable n r = as-reachable (word_of st n) (reached n r)

  -- The looked-up name

  pub word-within : get_or (blocks_in records) here.live 0 + 3 ≤ 4096
  word-within = block_within st here.live st.frame (innermost st)

  module _ (v : ℕ) (e : v ≡ get_or code (get_or (blocks_in records) here.live 0 + 2) 0) where
    abbrev name : ℕ
    name = st.name

    is_word : v ≡ word_of st name
    is_word = e ∙ looked-up-here st

    pub not_seen : v ≡ 0 → (0 ≡ designates fs name) × (0 ≡ links_followed fs name)
    not_seen z =
        let no_word : word_of st name ≡ 0 = sym is_word ∙ z in
        let none-there = (sought-none-iff fs (downward st) (length fs) (length fs) name 0 (omega arith)).1
        ((word-none-iff (enclosure_of fs (length fs)) name).0 no_word) in
        (sym (unseen-word st name no_word), sym (links-none fs name (seek_name-starts fs name ∙ none-there)))

    module _ (d : v ≡ 0 → ⊥) where
      coordinate : (c : Coordinate) × (coordinate_of (enclosure_of fs (length fs)) name ≡ some c)
      coordinate = seen st.program st.keeps fs st.sound.chained name (λ z. d (is_word ∙ z))

      found : Reaches cells here.live (first_cell records here.live here.level (word_of st name)) (word_of st name)
          × (designator_of (cell_by cells (first_cell records here.live here.level (word_of st name)) (word_of st name)) ≡ designates fs name)
      found =
          subst (λ m. Reaches cells here.live m (word_of st name) × (designator_of (cell_by cells m (word_of st name)) ≡ designates fs name))
          (first-is (word_of st name))
          (seen-by-links st name (λ z. d (is_word ∙ z)))

      seen-outer : level_in v ≤ here.level
      seen-outer = subst (λ u. level_in u ≤ here.level) (sym is_word) (seen_at name coordinate.0 coordinate.1).outer

      seen-reached : Reachable cells (first_cell records here.live here.level v) v
      seen-reached =
          subst (λ u. Reachable cells (first_cell records here.live here.level u) u) (sym is_word) (as-reachable (word_of st name) found.0)

      pub seen-designates : (c : ℕ) → c ≡ cell_by cells (first_cell records here.live here.level v) v → designator_of c ≡ designates fs name
      seen-designates c q = ap designator_of (q ∙ ap (λ u. cell_by cells (first_cell records here.live here.level u) u) is_word) ∙ found.1

      pub seen-links : here.level - level_in v ≡ links_followed fs name
      seen-links =
          ap (λ u. here.level - level_in u) is_word
          ∙ sym (followed-links st.program st.keeps fs st.sound.chained name coordinate.0 coordinate.1
          ∙ ap (λ m. m - level_in (word_of st name)) level-there)

    zero-outer : v ≡ 0 → level_in v ≤ here.level
    zero-outer z = omega arith

    pub outer-there : level_in v ≤ here.level
    outer-there = split (eqb v 0) (λ t. zero-outer (eqb-true v 0 t)) (λ t. seen-outer (eqb-false v 0 t))

    -- the activation that so many links lead to
    module _ (home : ℕ) (few : home < 256) (led : home ≡ follow (links_in records) here.live (links_to here.level v)) where
      is_home : (v ≡ 0 → ⊥) → home ≡ home_of records here.live here.level v
      is_home d = led ∙ ap (follow (links_in records) here.live) (links-some-to here.level v d)

      pub reached-there : Reached cells here v home
      reached-there =
          record {
            few = few;
            outer = outer-there;
            low = omega (arith, w.level-is);
            nameable = λ d. let r = subst (λ h. Reachable cells (32 * h) v) (sym (is_home d)) (seen-reached d) in record { own = r.own; whole = r.whole };
          }

      found_none : v ≡ 0 → found_by cells here v home ≡ found_in fs name
      found_none z =
          let p = not_seen z in
          λ i. record {
            designator = (looked-up-none cells (32 * home) v z ∙ p.0) i;
            links = (links-none-to here.level v z ∙ p.1) i;
          }

      found_some : (v ≡ 0 → ⊥) → found_by cells here v home ≡ found_in fs name
      found_some d =
          let same = ap (λ h. cell_by cells (32 * h) v) (is_home d) in
          λ i. record {
            designator = (looked-up-some cells (32 * home) v d ∙ seen-designates d (cell_by cells (32 * home) v) same) i;
            links = (links-some-to here.level v d ∙ seen-links d) i;
          }

      pub found-there : found_by cells here v home ≡ found_in fs name
      found-there = split (eqb v 0) (λ t. found_none (eqb-true v 0 t)) (λ t. found_some (eqb-false v 0 t))
