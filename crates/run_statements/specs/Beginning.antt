-- Where a program begins, for every engine.
use Rattle.std.specs.Prelude.{ℕ, List, get_or}
use Rattle.resolved.specs.Layout.{end_in, first_in}
use Rattle.run_state.specs.declared.Registers.{Registers}

abbrev pub start_by : List ℕ → ℕ → Registers
start_by code pairs = record { live = 0; at = first_in (get_or code 1 0); end = end_in (get_or code 1 0); pairs = pairs; level = 0; fresh = 0 }
