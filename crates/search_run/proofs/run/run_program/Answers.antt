-- The engine can stand where the program begins, and runs from there.
use Rattle.run_state.specs.Listed.{list-starts, list-ran}
use Rattle.search_run.specs.Ending.{starts, program-run}
use Rattle.search_run.proofs.run.run_program.Goals as goal

pub run-requires : goal.run-requires
run-requires c = record {
  running = starts c.requires.beginning c.begin-start.result c.begin-start.ensures;
  has_list = list-starts _ c.begin-start.ensures c.requires.has_list;
}

pub returns : goal.returns
returns c = record {
  ended = λ b. program-run b _ c.begin-start.ensures _ c.run.result _ _ _ _ _ c.run.ensures.run_from;
  keeps_list = list-ran _ c.begin-start.ensures c.run.ensures.keeps_list;
}
