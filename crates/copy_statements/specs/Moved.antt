-- What a statement of a copy comes to (`Came`).
use Rattle.std.specs.Prelude.{List, ◌≡◌, ℤ}
use Rattle.std.proofs.Common.{ap, ◌∙◌}
use Rattle.run_moves.specs.declared.Move.{Move}
use Rattle.run_moves.specs.Acting.{Happened}
use Rattle.run_statements.specs.Scenes.{Done}
use Rattle.run_statements.specs.declared.moved.Moved.{Moved}
use Rattle.run_statements.specs.Moved.{moved_by}

abbrev pub Came : Happened → Moved → List ℤ → Type 0
Came h r cells = (r ≡ moved_by h.move) × (cells ≡ h.cells)

pub came : (h : Happened) {r : Moved} {m : Move} {cells : List ℤ} → r ≡ moved_by m → Done h m cells → Came h r cells
came h e a = (e ∙ ap moved_by a.0, a.1)
