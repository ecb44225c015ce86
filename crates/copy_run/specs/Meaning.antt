-- The next statement, read from the innermost activation's copy, is ready to be done (`ready`), does what the resolved script's statement does with
-- names found by links (`same`), and so means a step of the frame machine (`means`).
use Rattle.std.specs.Prelude.{ℕ, List, ◌≡◌, ℤ}
use Rattle.std.proofs.Common.{arith, sym, subst}
use Rattle.std.proofs.Math.Option.{some}
use Rattle.std.proofs.Math.ListN.{get_elem?}
use Rattle.language.specs.Text.{Stmt, CL, GO, IF, KN, AR, AD, RM, QY, BK, DO}
use Rattle.language.specs.Machine.{Activation}
use Rattle.frames.specs.Frame.{frame_stmt}
use Rattle.resolved.proofs.Places.{stmt-fields}
use Rattle.run_moves.specs.Acting.{acting}
use Rattle.steps.specs.Means.{Means}
use Rattle.steps.specs.Here.{live-few, next-stmt}
use Rattle.steps.specs.Finding.{finds-by-links}
use Rattle.steps.specs.Acts.{acting-means}
use Rattle.copy_names.specs.Owner.{Sorted}
use Rattle.copy_statements.specs.Doing.{doing}
use Rattle.copy_statements.specs.Ready.{Ready}
use Rattle.run_state.specs.declared.Registers.{Registers}
use Rattle.copy_moves.specs.Running.{Running}
use Rattle.copy_run.specs.Words.{copy_of, scene_in, NamedHere, WrittenHere, fields-there}
use Rattle.copy_run.specs.Names.{by_links, CellOfName}
use Rattle.copy_run.specs.Statements.{Comes, constant-comes, arithmetic-comes, branch-comes, goto-comes, block-comes, add-comes, remove-comes, query-comes}
use Rattle.copy_run.specs.Calling.{call-comes}

module _ {code names : List ℕ} {activations limit : ℕ} {cells : List ℤ} {area : List ℕ} {width : ℕ} {blocks nexts links firsts starts targets looked : List ℕ} {table : List ℤ} {here : Registers}
    (w : Running code names activations limit cells area width blocks nexts links firsts starts targets looked table here)
    (a : Activation) (innermost : get_elem? w.copies.live here.live ≡ some a)
    (fields-named : NamedHere w) (written : WrittenHere w) (cell-of-name : CellOfName w a) where
  by-statement : (x : Stmt) → frame_stmt w.standing.frame ≡ some x → Comes (copy_of w) (scene_in w) (by_links w)
  by-statement (BK b) q = block-comes w a innermost fields-named written cell-of-name b q
  by-statement (DO o (KN t z)) q = constant-comes w a innermost fields-named written cell-of-name o t z q
  by-statement (DO o (AR t p l r)) q = arithmetic-comes w a innermost fields-named written cell-of-name o t p l r q
  by-statement (DO o (IF v l)) q = branch-comes w a innermost fields-named written cell-of-name o v l q
  by-statement (DO o (GO l)) q = goto-comes w a innermost fields-named written cell-of-name o l q
  by-statement (DO o (CL p xs)) q = call-comes w a innermost fields-named written cell-of-name o p xs q
  by-statement (DO o (AD g m)) q = add-comes w a innermost fields-named written cell-of-name o g m q
  by-statement (DO o (RM g m)) q = remove-comes w a innermost fields-named written cell-of-name o g m q
  by-statement (DO o (QY t g m)) q = query-comes w a innermost fields-named written cell-of-name o t g m q

  module _ (d : here.at ≡ here.end → ⊥) where
    pub same : doing (copy_of w) (scene_in w) ≡ acting (by_links w) (scene_in w)
    same =
        let x = next-stmt w.standing d in
        (by-statement x.0 x.1).same

    pub ready : Sorted firsts here.live → Ready (copy_of w) (scene_in w)
    ready sorted =
        let x = next-stmt w.standing d in
        record {
          few = omega (arith, live-few w.standing);
          sorted = sorted;
          mark = fields-there w x.0 x.1 1 (stmt-fields x.0);
          by = (by-statement x.0 x.1).by;
        }

    pub means : Means w.standing (doing (copy_of w) (scene_in w))
    means = subst (Means w.standing) (sym same) (acting-means w.standing (by_links w) (finds-by-links w.standing) d)
