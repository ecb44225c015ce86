-- What every engine has between two steps: the limits of a call, and the registers as they go on.
use Rattle.std.specs.Prelude.{ℕ, List, ℤ}
use Rattle.language.specs.Machine.{Limits}
use Rattle.run_state.specs.declared.Registers.{Registers}

abbrev pub limits_by : ℕ → ℕ → Limits
limits_by activations limit = record { activations = activations; limit = limit }

-- another activation, place, end and number of pairs; what one engine alone keeps stays
abbrev pub goes_to : Registers → ℕ → ℕ → ℕ → ℕ → Registers
goes_to here live at end pairs = record { live = live; at = at; end = end; pairs = pairs; level = here.level; fresh = here.fresh }
