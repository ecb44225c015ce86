-- What `came_to` makes of a move.
use Rattle.run_moves.specs.declared.Move.{Move}
use Rattle.run_moves.specs.declared.Move.TheVariants.{On, Table as Asks, Jump as Leap, Enter as Opens, Stop as Halt}
use Rattle.run_statements.specs.declared.moved.Moved.{Moved}
use Rattle.run_statements.specs.declared.moved.Moved.TheVariants.{Went, Table, Jump, Enter, Stop}

unfoldable pub moved_by : Move → Moved
moved_by (On p) = Went p
moved_by (Asks p g m t a) = Table p g m t a
moved_by (Leap h p) = Jump p h
moved_by (Opens b l p) = Enter b l p
moved_by (Halt c) = Stop c
