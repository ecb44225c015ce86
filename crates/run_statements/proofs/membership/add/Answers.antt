-- `add` meets its contract.
use lib.IntN.{ℤ}
use Rattle.language.specs.Table.{added}
use Rattle.run_moves.specs.Acting.{answer}
use Rattle.table_pairs.specs.Outcomes.{table_of}
use Rattle.run_statements.specs.Answers.{changed-by}
use mir.Facts.{to_z-of_z}
use Rattle.std.proofs.Common.{rules, pos, get_or, w32, FitsSigned}
use Rattle.run_statements.proofs.membership.add.Goals as goal

pub returns : goal.returns
unfolding answer
returns c =
    let ws = c.args.cells.now in
    let f : FitsSigned w32 (get_or ws c.args.group (pos 0)) = search rules in
    let g : FitsSigned w32 (get_or ws c.args.member (pos 0)) = search rules in
    let d = changed-by (λ (a b : ℤ). added c.args.limit a b (table_of c.args.table.now c.args.pairs)) c.args.table.now (to_z-of_z f) (to_z-of_z g)
    c.add_pair.ensures.value c.add_pair.ensures.table_after in
    record { value = d.0; table_after = d.1; keeps_list = c.add_pair.ensures.keeps_list }
