-- `run_program` meets its contract: the engine can stand where the program begins, and runs from there.
use Rattle.run_state.specs.Listed.{list-starts, list-ran}
use Rattle.display_run.specs.Ending.{starts, program-run}
use Rattle.display_run.proofs.run.run_program.Goals as goal

-- the place where the start is made
pub run-requires : goal.run-requires
run-requires c =
    record { running = search starts; has_list = list-starts _ c.begin-start.ensures c.requires.has_list }

pub returns : goal.returns
returns c =
    let e = c.begin-start.ensures in
    record { ended = λ b. program-run b _ e _ c.run.result _ _ _ _ _ c.run.ensures.run_from; keeps_list = list-ran _ e c.run.ensures.keeps_list }
