-- The engine can stand where the program begins, and runs from there.
use Rattle.std.proofs.Common.{refl}
use Rattle.run_state.specs.Listed.{list-starts, list-ran}
use Rattle.copy_run.specs.Starting.{beginnable}
use Rattle.copy_run.specs.Ending.{begin-ready, program-run}
use Rattle.copy_run.proofs.run.run_program.Goals as goal

pub begin-start-requires : goal.begin-start-requires
begin-start-requires c = beginnable c.requires.beginning

pub run-requires : goal.run-requires
run-requires c =
    record {
      ready = begin-ready c.requires.beginning c.begin-start.ensures refl refl refl refl refl;
      has_list = list-starts _ c.begin-start.ensures.registers-are c.requires.has_list;
    }

pub returns : goal.returns
returns c =
    record {
      ended = λ b. program-run b c.begin-start.ensures refl refl refl refl refl c.run.result c.run.ensures.run_from;
      keeps_list = list-ran _ c.begin-start.ensures.registers-are c.run.ensures.keeps_list;
    }
