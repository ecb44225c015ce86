use Rattle.std.proofs.Common.{◌≡◌, rules, pos, get_or, w32, FitsSigned, Err, refl, ◌∙◌}
use mir.Facts.{to_z-of_z}
use Rattle.table_pairs.specs.Outcomes.{Change, table_of}
use Rattle.run_statements.specs.Answers.{query-gives, query-refuses}
use Rattle.run_statements.proofs.membership.query.Goals as goal

pub returns : goal.returns
returns c =
    let ws = c.args.cells.now in
    let f : FitsSigned w32 (get_or ws c.args.group (pos 0)) = search rules in
    let g : FitsSigned w32 (get_or ws c.args.member (pos 0)) = search rules in
    let v : FitsSigned w32 c.in_ok-value.value = search rules in
    let d = query-gives ws (table_of c.args.table.now c.args.pairs) c.args.group c.args.member c.args.target (to_z-of_z f) (to_z-of_z g) (c.in_ok-value.ensures {u = tt}) refl in
    record { value = d.0; cells_after = (rw (to_z-of_z v) at c.store.ensures) ∙ d.1 }

pub returns-in_err-value : goal.returns-in_err-value
returns-in_err-value c =
    let ws = c.args.cells.now in
    let f : FitsSigned w32 (get_or ws c.args.group (pos 0)) = search rules in
    let g : FitsSigned w32 (get_or ws c.args.member (pos 0)) = search rules in
    let e : ◌≡◌ {A = Change} c.from_residual.result (Err c.in_err-value.field-0.0) = search rules in
    let d = query-refuses ws (table_of c.args.table.now c.args.pairs) c.args.group c.args.member c.args.target (to_z-of_z f) (to_z-of_z g) (c.in_err-value.ensures {u = tt}) refl in
    record { value = e ∙ d.0; cells_after = d.1 }
