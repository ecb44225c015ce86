-- `held` meets its contract.
use Rattle.std.specs.Prelude.{get_or}
use Rattle.std.proofs.Common.{arith, sym, ◌∙◌}
use Rattle.run_statements.specs.Words.{read-value, held-is}
use Rattle.run_cells.proofs.names.held.Goals as goal

pub returns : goal.returns
returns c =
    let cells = c.args.cells.now in
    let is = sym (read-value cells {c = c.own.result} (omega arith) c.own.ensures.0) ∙ c.whole.ensures.0 in
    (sym (held-is cells c.args.first (get_or c.args.code.now c.args.place 0) is), c.whole.ensures.1)
