-- `cell` meets its contract.
use Rattle.std.specs.Prelude.{true, false, ◌≡◌, get_or}
use Rattle.std.proofs.Common.{sym, ap, ◌∙◌}
use Rattle.resolved.specs.Resolved.{direct}
use Rattle.run_statements.specs.Words.{is-direct, is-formal}
use Rattle.run_statements.specs.Doing.{direct-cell}
use Rattle.run_cells.specs.Cells.{held-cell}
use Rattle.run_cells.proofs.names.cell.Goals as goal

pub returns-then-formal_of-eq0 : goal.returns-then-formal_of-eq0
returns-then-formal_of-eq0 c =
    let word = get_or c.args.code.now c.args.place 0 in
    let d : direct word ≡ true = sym (ap direct c.code_at.ensures.0) ∙ is-direct _ (sym c.formal_of.ensures.0 ∙ c.if-formal_of-eq0.true) in
    (direct-cell c.args.cells.now c.args.first word c.own.ensures.0 d, c.own.ensures.1)

pub held-requires : goal.held-requires
held-requires c = (
  c.requires.0,
  record {
    reachable = c.requires.1;
    is = sym (ap direct c.code_at.ensures.0) ∙ is-formal _ (λ e. c.if-formal_of-eq0.false (c.formal_of.ensures.0 ∙ e));
  },
)

pub returns : goal.returns
returns c =
    let word = get_or c.args.code.now c.args.place 0 in
    let d : direct word ≡ false = sym (ap direct c.code_at.ensures.0) ∙ is-formal _ (λ e. c.if-formal_of-eq0.false (c.formal_of.ensures.0 ∙ e)) in
    (c.cell_of.ensures.0 ∙ held-cell c.args.cells.now c.args.first word d c.held.ensures.0, c.cell_of.ensures.1)
