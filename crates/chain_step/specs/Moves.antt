-- What a move means for the engine: whether the innermost activation stays the innermost one, and what is read off the others.
use Rattle.std.specs.Prelude.{ℕ, Bool, true, false, eqb}
use Rattle.run_moves.specs.declared.Move.{Move}
use Rattle.run_moves.specs.declared.Move.TheVariants.{On, Table as Asks, Jump, Enter, Stop}
use Rattle.run_state.specs.declared.Registers.{Registers}
use Rattle.run_state.specs.Limits.{goes_to}
use Rattle.chain_links.specs.declared.Entry.{Entry}
use Rattle.run_state.specs.declared.Turn.{Turn}
use Rattle.run_state.specs.declared.Turn.TheVariants.{Went, Finished, Stopped}

unfoldable pub stays_in : Registers → Move → Bool
stays_in here (On p) = true
stays_in here (Asks p g m t a) = false
stays_in here (Jump home p) = eqb home here.live
stays_in here (Enter b l k) = false
stays_in here (Stop c) = true

-- another place of the same activation, with so many pairs in use
abbrev pub placed : Registers → ℕ → ℕ → Registers
placed here place pairs = goes_to here here.live place here.end pairs

unfoldable pub stayed_by : Registers → Move → Turn
stayed_by here (On p) = Went (placed here p here.pairs)
stayed_by here (Asks p g m t a) = Finished
stayed_by here (Jump home p) = Went (placed here p here.pairs)
stayed_by here (Enter b l k) = Finished
stayed_by here (Stop c) = Stopped c

unfoldable pub is_asked : Move → Bool
is_asked (On p) = false
is_asked (Asks p g m t a) = true
is_asked (Jump home p) = false
is_asked (Enter b l k) = false
is_asked (Stop c) = false

unfoldable pub is_entry : Move → Bool
is_entry (On p) = false
is_entry (Asks p g m t a) = false
is_entry (Jump home p) = false
is_entry (Enter b l k) = true
is_entry (Stop c) = false

abbrev pub no_entry : Entry
no_entry = record { body = 0; link = 0; back = 0 }

unfoldable pub entry_of : Move → Entry
entry_of (On p) = no_entry
entry_of (Asks p g m t a) = no_entry
entry_of (Jump home p) = no_entry
entry_of (Enter b l k) = record { body = b; link = l; back = k }
entry_of (Stop c) = no_entry

unfoldable pub home_at : Move → ℕ
home_at (On p) = 0
home_at (Asks p g m t a) = 0
home_at (Jump home p) = home
home_at (Enter b l k) = 0
home_at (Stop c) = 0

unfoldable pub place_at : Move → ℕ
place_at (On p) = 0
place_at (Asks p g m t a) = 0
place_at (Jump home p) = p
place_at (Enter b l k) = 0
place_at (Stop c) = 0

-- Of what a step has come to

abbrev pub is_went : Turn → Bool
is_went (Went n) = true
is_went Finished = false
is_went (Stopped c) = false

abbrev pub is_finished : Turn → Bool
is_finished (Went n) = false
is_finished Finished = true
is_finished (Stopped c) = false

abbrev pub next_in : Registers → Turn → Registers
next_in here (Went n) = n
next_in here Finished = here
next_in here (Stopped c) = here
