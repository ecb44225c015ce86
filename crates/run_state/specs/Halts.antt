-- How a run ends, after so many steps: the program is left, no step is left, or the next statement has a cause to stop. Where activations are left live
-- a name is looked up: `named_by`.
use Rattle.std.specs.Prelude.{ℕ, ◌+◌, ◌*◌}
use Rattle.language.specs.declared.Stop.{Stop}
use Rattle.language.specs.declared.End.{End}
use Rattle.language.specs.declared.End.TheVariants.{Finished, Spent, Stopped}
use Rattle.run_state.specs.declared.Registers.{Registers}
use Rattle.run_state.specs.declared.Halt.{Halt}

abbrev pub finished_after : Registers → ℕ → Halt
finished_after here steps =
    record { end = Finished; steps = steps; offset = 0; live = 0; pairs = here.pairs; designator = 0; links = 0 }

abbrev pub halt_of : Registers → End → ℕ → ℕ → Halt
halt_of here end steps offset =
    record { end = end; steps = steps; offset = offset; live = here.live + 1; pairs = here.pairs; designator = 0; links = 0 }

abbrev pub spent_after : Registers → ℕ → Halt
spent_after here steps = halt_of here Spent steps 0

abbrev pub stopped_after : Registers → Stop → ℕ → Halt
stopped_after here cause steps = halt_of here (Stopped cause) steps (2 * here.at)

abbrev pub named_by : Halt → ℕ → ℕ → Halt
named_by h designator links =
    record {
      end = h.end;
      steps = h.steps;
      offset = h.offset;
      live = h.live;
      pairs = h.pairs;
      designator = designator;
      links = links;
    }
