-- Where an activation of the stack goes on as the innermost one.
use Rattle.std.specs.Prelude.{ℕ, ◌+◌, List, get_or}
use Rattle.resolved.specs.Layout.{end_in}
use Rattle.run_state.specs.declared.Registers.{Registers}
use Rattle.run_state.specs.Limits.{goes_to}

abbrev pub now_at : List ℕ → List ℕ → Registers → ℕ → ℕ → Registers
now_at code blocks here home at =
    goes_to here home at (end_in (get_or code (get_or blocks home 0 + 1) 0)) here.pairs
