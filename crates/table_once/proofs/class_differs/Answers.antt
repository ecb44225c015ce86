use mathlib.Core.Logic.{⊎_elim}
use Rattle.table_slots.proofs.Passes.{wanted-of}
use Rattle.table_once.proofs.class_differs.Goals as goal

pub returns-clause-table_bound : goal.returns-clause-table_bound
returns-clause-table_bound c e j l o =
    ⊎_elim (λ r. r) (λ t. c.count_class.ensures.table_bound e j l (wanted-of _ c.args.table.now c.args.classes c.args.class c.insert_all.new.marks j t o)) (c.insert_all.ensures j l o)
