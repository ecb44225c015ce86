-- What `Meaning` asks, of an engine that runs: the words of names and the fields at the next statement (`named_here`, `written-here`), and the cells
-- of its names (`cells-here`, `sorted-here`). So the statement means a step: `means-here`, `ready-here`.
use Rattle.std.specs.Prelude.{ℕ, suc, pred, List, ◌≡◌, ℤ, length}
use Rattle.std.proofs.Math.Option.{some}
use Rattle.std.proofs.Common.{sym, ◌∙◌}
use Rattle.std.proofs.Math.Path.{subst}
use Rattle.std.proofs.Math.ListN.{get_elem?}
use Rattle.language.specs.Text.{stmt_at}
use Rattle.language.specs.Encoding.{block_fields, stmt_fields}
use Rattle.language.specs.Machine.{Activation}
use Rattle.frames.specs.Frame.{frame_stmt}
use Rattle.frames.specs.Related.{as-deep}
use Rattle.coordinates.specs.Chain.{enclosing, enclosure_of}
use Rattle.coordinates.proofs.Levels.{in-innermost}
use Rattle.resolved.specs.Resolved.{place_of, Covers}
use Rattle.resolve_fields.specs.Walk.{stmt_words}
use Rattle.copy_fields.specs.NameFields.{name_words}
use Rattle.copy_fields.specs.Standing.{stmt-fields-named, stmt-fields-stand}
use Rattle.copy_names.specs.Owner.{Sorted}
use Rattle.copy_names.specs.Finding.{sorted, cell-of-name}
use Rattle.steps.specs.Means.{Means}
use Rattle.steps.specs.Here.{many, last-is, encloses-here, stands_at}
use Rattle.copy_statements.specs.Doing.{doing}
use Rattle.copy_statements.specs.Ready.{Ready}
use Rattle.run_state.specs.declared.Registers.{Registers}
use Rattle.copy_moves.specs.Running.{Running}
use Rattle.copy_run.specs.Words.{copy_of, scene_in, around, NamedHere, WrittenHere, innermost-activation}
use Rattle.copy_run.specs.Names.{CellOfName}
use Rattle.copy_run.specs.Meaning.{ready, means}

module _ {code names : List ℕ} {activations limit : ℕ} {cells : List ℤ} {area : List ℕ} {width : ℕ} {blocks nexts links firsts starts targets looked : List ℕ} {table : List ℤ} {here : Registers}
    (w : Running code names activations limit cells area width blocks nexts links firsts starts targets looked table here) where
  pub named_here : NamedHere w
  unfolding frame_stmt enclosing
  named_here x q =
      let s = w.standing in
      subst (λ i. Covers names i (stmt_words name_words x (around w))) (sym (stands_at s x q))
      (in-innermost s.program s.stack.frames s.sound.chained s.frame (last-is s) (λ es. Covers names (place_of (stmt_at x)) (stmt_words name_words x es))
      (λ es h. stmt-fields-named names s.program s.keeps w.names_stand (enclosing s.frame) es h (pred s.frame.next) x q))

  pub written-here : WrittenHere w
  unfolding frame_stmt enclosing
  written-here x q =
      let s = w.standing in
      subst (λ i. Covers (block_fields s.program) i (stmt_fields x)) (sym (stands_at s x q))
      (stmt-fields-stand s.program s.keeps (enclosing s.frame) (enclosure_of s.stack.frames s.frame.link) (encloses-here s) (pred s.frame.next) x q)

  pub many-copies : length w.copies.live ≡ suc here.live
  many-copies = as-deep w.copies w.standing.stack w.related ∙ many w.standing

  module _ (a : Activation) (e : get_elem? w.copies.live here.live ≡ some a) where
    pub cells-here : CellOfName w a
    cells-here = cell-of-name w.copies w.standing.stack w.related firsts starts w.new-names here.live a many-copies e

    pub sorted-at : Sorted firsts here.live
    sorted-at = sorted w.copies w.standing.stack w.related firsts starts w.new-names here.live a many-copies e

  pub sorted-here : Sorted firsts here.live
  sorted-here = let a = innermost-activation w in sorted-at a.0 a.1

  pub means-here : (here.at ≡ here.end → ⊥) → Means w.standing (doing (copy_of w) (scene_in w))
  means-here d =
      let a = innermost-activation w in
      means w a.0 a.1 named_here written-here (cells-here a.0 a.1) d

  pub ready-here : (here.at ≡ here.end → ⊥) → Ready (copy_of w) (scene_in w)
  ready-here d =
      let a = innermost-activation w in
      ready w a.0 a.1 named_here written-here (cells-here a.0 a.1) d (sorted-at a.0 a.1)
