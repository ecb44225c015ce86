-- One formal whose record was read at an offset, after names that are held.
use Rattle.std.specs.Prelude.{ℕ, true, false, List, leb, set, Ok, Err}
use Rattle.language.specs.Basics.{among}
use Rattle.language.specs.declared.Refusal.TheVariants.{FieldRange, NameTwice}
use Rattle.check_records.specs.declared.Reading.{Reading}
use Rattle.check_records.specs.declared.Reading.TheVariants.{Taken, Refused}
use Rattle.language.specs.Faults.{fault, Progress}

-- 4 for its kind, then 8 for its name
unfoldable pub held_of : Reading → ℕ → List ℕ → Progress
held_of (Taken m next f0 f1 f2 f3) at ns = elim (leb f1 2) [
  | true ↦ elim (among f0 ns) [ true ↦ Err (fault NameTwice at) | false ↦ Ok next ]
  | false ↦ Err (fault FieldRange at)
]
held_of (Refused c o) at ns = Err (fault c o)

-- the names afterwards: where reading goes on, its name stands at a place
unfoldable pub names_with : Progress → Reading → List ℕ → ℕ → List ℕ
names_with (Ok next) (Taken m n f0 f1 f2 f3) ns k = set ns k f0
names_with (Ok next) (Refused c o) ns k = ns
names_with (Err e) x ns k = ns
