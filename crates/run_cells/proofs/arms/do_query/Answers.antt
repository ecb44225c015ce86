-- `do_query` meets its contract.
use Rattle.run_statements.specs.Pieces.{only-cells}
use Rattle.run_statements.specs.Doing.{query-done}
use Rattle.steps.specs.Finding.{by_first}
use Rattle.run_cells.specs.Calling.{word_after}
use Rattle.run_cells.specs.Cells.{cell-by}
use Rattle.run_cells.proofs.arms.do_query.Goals as goal

pub returns : goal.returns
returns c =
    λ first_of p q u.
    let ws = c.args.cells.now in
    let name = word_after c.args.code.now c.args.at in
    query-done (by_first ws first_of) (only-cells c.args.code.now ws c.args.at) (cell-by ws first_of (name 1) p c.cell-target.ensures.0)
    (cell-by ws first_of (name 2) q c.cell-group.ensures.0) (cell-by ws first_of (name 3) u c.cell-member.ensures.0)
