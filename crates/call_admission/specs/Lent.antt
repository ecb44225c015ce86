-- What a call is lent and fed, in the code's words, and its admission in two parts.
use Rattle.std.specs.Prelude.{ℕ, ◌*◌, ◌/◌, Bool, true, false, List, ℤ, length, Option as MayBe, None, Some, Ok, Err}
use Rattle.std.proofs.Math.Option.{Option, none, some}
use Rattle.language.specs.Check.{accepted, refused, check}
use Rattle.language.specs.Call.{Engine, Fed, holds_at_least}
use Rattle.language.specs.declared.Refusal.{Refusal}
use Rattle.language.specs.declared.Refusal.TheVariants.{AreaTooShort}
use Rattle.language.specs.Faults.{fault, Verdict}
use Rattle.table_pairs.specs.Outcomes.{table_of}
use Rattle.call_admission.specs.declared.CallNumbers.{CallNumbers}

-- what one engine alone is lent: so many activation records, or so many words of copying area
abbrev pub Area : Type 0
Area = MayBe ℕ

abbrev pub held_in : Area → Option ℕ
held_in None = none
held_in (Some held) = some held

abbrev pub engine_of : Area → Area → Bool → Engine
engine_of records area links = record { records = held_in records; area = held_in area; links = links }

abbrev pub fed_of : CallNumbers → List ℕ → List ℤ → List ℤ → List ℤ → Fed
fed_of k script table groups sheet =
    record {
      script = script;
      activations = k.d;
      allowance = k.n;
      limit = k.g;
      tally = k.tally;
      name = k.name;
      lent = record { sheet = sheet; table = table_of table k.count; groups = groups };
    }

-- what the tests before the script check look at
abbrev pub with_records : Area → Engine
with_records records = engine_of records None false

-- a refusal of a test, which has no offset
unfoldable pub due_of : Option Refusal → Verdict
due_of none = Ok tt
due_of (some c) = Err (fault c 0)

-- the check's verdict, and then the copying area's
unfoldable pub checked_then : List ℕ → ℕ → Option ℕ → Verdict
checked_then script d area =
    elim (check script) [
      | refused c o ↦ Err (fault c o)
      | accepted t ↦ elim (holds_at_least (d * (length script / 2)) area) [ true ↦ Ok tt | false ↦ Err (fault AreaTooShort 0) ]
    ]
