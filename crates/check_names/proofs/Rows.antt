-- The readings of `check_records` as data, for proofs by hand; and by cases on one, and on where reading goes on.
use Rattle.std.specs.Prelude.{Ok, Err}
use Prim.Native.Nat.{ℕ}
use mathlib.Core.Path.{◌≡◌, refl}
use Rattle.language.specs.declared.Refusal.{Refusal}
use Rattle.check_marks.specs.declared.Mark.{Mark}
use Rattle.check_records.specs.declared.Reading.{Reading}
use Rattle.check_records.specs.declared.Reading.TheVariants.{Taken, Refused as Away}
use Rattle.language.specs.Faults.{fault, Progress}
use Rattle.walks.specs.Data.{Datum, enums}
use Rattle.check_records.specs.contracts.Reading as R
use Rattle.check_records.proofs.Reading.TheLaws as R'

abbrev pub readings : Datum
readings = enums R.the_type R'.the_laws R'.the_plain tt

pub by-progress : {X : Type 1} (r : Progress) → ((at : ℕ) → r ≡ Ok at → X) → ((c : Refusal) (o : ℕ) → r ≡ Err (fault c o) → X) → X
by-progress (Ok at) f g = f at refl
by-progress (Err e) f g = g e.cause e.offset refl

pub by-reading : {X : Type 1} (r : Reading) → ((m : Mark) (next f0 f1 f2 f3 : ℕ) → r ≡ Taken m next f0 f1 f2 f3 → X)
    → ((c : Refusal) (o : ℕ) → r ≡ Away c o → X) → X
by-reading (Taken m next f0 f1 f2 f3) f g = f m next f0 f1 f2 f3 refl
by-reading (Away c o) f g = g c o refl
