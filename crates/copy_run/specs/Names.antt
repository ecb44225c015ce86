-- A name of the next statement: where a field of the innermost activation's copy reads as a visible name does, and a field of the resolved script has the
-- name's word, the new name there has a cell, and all that it leads to is what the links find: `named`.
use Rattle.std.specs.Prelude.{ℕ, pred, ◌+◌, ◌-◌, ◌≤◌, ◌<◌, List, ◌≡◌, ℤ, set}
use Rattle.std.proofs.Common.{arith, ◌∙◌}
use Rattle.std.proofs.Math.Option.{some}
use Rattle.std.proofs.Math.Path.{sym, ap}
use Rattle.std.proofs.Math.IntN.{pos}
use Rattle.std.proofs.Math.ListN.{length, get_or, get_elem?}
use Rattle.language.specs.Copy.{renamed}
use Rattle.language.specs.Machine.{Activation}
use Rattle.frames.specs.Frame.{Frame, numbered, designates, frame_number, place}
use Rattle.frames.specs.Numbered.{numbered-index}
use Rattle.frames.specs.Related.{joined}
use Rattle.frame_laws.specs.Finding.{decl_of-found}
use Rattle.coordinates.specs.Chain.{enclosing, level_of}
use Rattle.coordinates.proofs.Levels.{enclosure-of-text}
use Rattle.coordinates.proofs.Next.{Resolved}
use Rattle.resolved.specs.Resolved.{name_word}
use Rattle.resolved.proofs.NameWords.{narrow-of-text, name-is}
use Rattle.arrays.specs.Holds.{cell_of, target_of, formal_word}
use Rattle.arrays.proofs.Cells.{Celled, cell-bound, cell-activation, target_found}
use Rattle.arrays.proofs.Found.{named-celled}
use Rattle.run_moves.specs.Acting.{Finding, field}
use Rattle.steps.specs.Here.{many, numbered-here, downward}
use Rattle.steps.specs.Finding.{by_first, first_by_links, finds-by-links}
use Rattle.resolved.specs.Layout.{cell_from, activation_in, held_from}
use Rattle.copy_names.specs.Owner.{cell_in}
use Rattle.copy_texts.specs.Texts.{reading}
use Rattle.copy_statements.specs.Doing.{text, cell, target}
use Rattle.copy_statements.specs.Ready.{Named}
use Rattle.run_state.specs.declared.Registers.{Registers}
use Rattle.copy_moves.specs.Running.{Running}
use Rattle.copy_run.specs.Agreeing.{Agrees}
use Rattle.copy_run.specs.Depth.{reads-deep}
use Rattle.copy_run.specs.Words.{reading-named, copy_of, scene_in, around}

module _ {code names : List ℕ} {activations limit : ℕ} {cells : List ℤ} {area : List ℕ} {width : ℕ} {blocks nexts links firsts starts targets looked : List ℕ} {table : List ℤ} {here : Registers}
    (w : Running code names activations limit cells area width blocks nexts links firsts starts targets looked table here) where
  abbrev fs : List Frame
  fs = w.standing.stack.frames

  -- the way of finding names that the statement is held to
  abbrev pub by_links : Finding
  by_links = by_first cells (first_by_links w.standing)

  -- each name that is seen from an activation's text reads there as a new one, with the cell of what it designates
  abbrev pub CellOfName : Activation → Type 0
  CellOfName a =
      (m : ℕ) → m < 65536 → Resolved fs m
      → (cell_in firsts starts here.live (renamed (joined a.reads) m) ≡ cell_of (designates fs m)) × (get_or firsts 0 0 ≤ renamed (joined a.reads) m)

  module _ (a : Activation) (innermost : get_elem? w.copies.live here.live ≡ some a) (n : ℕ) (r : Resolved fs n) where
    celled : Celled (designates fs n)
    celled =
        named-celled _ w.standing.program w.standing.keeps w.standing.stack w.standing.sound blocks (set nexts here.live here.at) links cells
        w.standing.holds n r.coordinate r.here

    pub reads-name : reading a.reads (name_word (around w) n) n ≡ renamed (joined a.reads) n
    reads-name =
        let v = w.standing in
        let within = enclosure-of-text v.program fs v.sound.chained (length fs) v.frame (ap (numbered fs) (many v) ∙ numbered-here v) in
        let level = (name-is (around w) (narrow-of-text v.program v.keeps (around w) within) n r.coordinate r.here (enclosing r.declarer.frame) r.declarer.block).level in
        let deep = reads-deep w.copies v.stack w.related (downward v) here.live a innermost ∙ ap (level_of fs) (sym (many v)) in
        reading-named a.reads (name_word (around w) n) n (omega (arith, r.level-low)) (omega (arith, r.level-high))

    -- what the name's declaration leads to is noted at its cell
    aimed : get_or targets (cell_of (designates fs n)) 0 ≡ target_of fs (designates fs n)
    unfolding cell_of
    aimed =
        let x = designates fs n in
        let d = r.instance in
        let f = d.home in
        let j = place x - length f.formals in
        let cell-is : cell_from (pred (frame_number x)) (place x) ≡ cell_from (pred (frame_number x)) (length f.formals + j) = omega (arith, d.past) in
        ap (λ i. get_or targets i 0) cell-is
        ∙ w.aims.each (pred (frame_number x)) j f d.decl (numbered-index fs (frame_number x) f d.stands) (sym (decl_of-found fs x f d.stands) ∙ d.declared)
        ∙ sym (target_found fs x f d.decl d.stands d.declared)

    module _ (small : n < 65536) (cell-of-name : CellOfName a) (i : ℕ) (reads : text (copy_of w) (scene_in w) i ≡ reading a.reads (name_word (around w) n) n) where
      text-is : text (copy_of w) (scene_in w) i ≡ renamed (joined a.reads) n
      text-is = reads ∙ reads-name

      cell-is : cell (copy_of w) (scene_in w) i ≡ cell_of (designates fs n)
      cell-is = ap (cell_in firsts starts here.live) text-is ∙ (cell-of-name n small r).0

      target_is : target (copy_of w) (scene_in w) i ≡ target_of fs (designates fs n)
      target_is = ap (λ k. get_or targets k 0) cell-is ∙ aimed

      name_new : Named (copy_of w) (scene_in w) i
      name_new = record { new = omega (arith, text-is, (cell-of-name n small r).1); has = omega (arith, cell-is, cell-bound (designates fs n) celled) }

      name-agrees : (j : ℕ) → field (scene_in w) j ≡ name_word (around w) n → Agrees (copy_of w) (scene_in w) by_links i j
      unfolding formal_word
      name-agrees j word =
          let found = finds-by-links w.standing n r in
          record {
            cell-is = cell-is ∙ sym (ap by_links.cell word ∙ found.cell-is);
            home-is = ap (λ k. activation_in k) cell-is ∙ cell-activation (designates fs n) celled ∙ sym (ap by_links.home word ∙ found.home-is);
            target_is = target_is ∙ sym (ap by_links.target word ∙ found.target_is);
            handed-is = (λ k. pos (held_from (cell-is k) (target_is k))) ∙ sym (ap by_links.handed word ∙ found.handed-is);
          }

      pub named : (j : ℕ) → field (scene_in w) j ≡ name_word (around w) n → Agrees (copy_of w) (scene_in w) by_links i j × Named (copy_of w) (scene_in w) i
      named j word = (name-agrees j word, name_new)
