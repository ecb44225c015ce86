-- What reading one record gives, as the code's enums have it: the definitions' readers over the bytes from an offset on.
use Rattle.std.specs.Prelude.{ℕ, ◌+◌, ◌*◌, ◌≤◌, ◌<◌, List, get_or, take, drop, Ok, Err}
use Rattle.language.specs.Encoding.{fields_of}
use Rattle.language.specs.Structure.{Reading as Outcome, read, refuse, Record, block_marks, formal_marks, decl_marks, stmt_marks, take-record}
use Rattle.check_marks.specs.Marks.{decl_mark, stmt_mark, only_mark}
use Rattle.check_marks.specs.declared.Mark.{Mark}
use Rattle.check_marks.specs.declared.Mark.TheVariants.{BK, FM}
use Rattle.check_marks.specs.declared.Place.{Place}
use Rattle.check_marks.specs.declared.Place.TheVariants.{Block, Formal, Declaration, Statement}
use Rattle.check_records.specs.declared.Reading.{Reading}
use Rattle.check_records.specs.declared.Reading.TheVariants.{Taken, Refused}
use Rattle.language.specs.Faults.{fault, Progress}

-- the fields from a byte offset on
unfoldable pub unread : List ℕ → ℕ → List ℕ
unread bs at = fields_of (drop at bs)

unfoldable pub taken : {M : Type 0} → (M → Mark) → Outcome (Record M) → Reading
taken f (read r at ws) = Taken (f r.mark) at (get_or r.fields 0 0) (get_or r.fields 1 0) (get_or r.fields 2 0) (get_or r.fields 3 0)
taken f (refuse c o) = Refused c o

-- the record at an offset, at each place
unfoldable pub record_at : Place → List ℕ → ℕ → Reading
record_at Block bs at = taken (only_mark BK) (take-record block_marks at (unread bs at))
record_at Formal bs at = taken (only_mark FM) (take-record formal_marks at (unread bs at))
record_at Declaration bs at = taken decl_mark (take-record decl_marks at (unread bs at))
record_at Statement bs at = taken stmt_mark (take-record stmt_marks at (unread bs at))

-- a record of n fields with the mark m, its fields from an offset on
abbrev pub taken_at : Mark → ℕ → List ℕ → ℕ → Reading
taken_at m n bs from =
    Taken m (from + 2 * n) (get_or (take n (unread bs from)) 0 0) (get_or (take n (unread bs from)) 1 0)
    (get_or (take n (unread bs from)) 2 0) (get_or (take n (unread bs from)) 3 0)

-- a record taken lies in the n bytes of the script, and its fields are of 16 bits
abbrev pub Within : ℕ → ℕ → Reading → Type 0
Within n at (Taken m next f0 f1 f2 f3) =
    (at + 2 ≤ next) × (next ≤ n) × (f0 < 65536) × (f1 < 65536) × (f2 < 65536) × (f3 < 65536)
Within n at (Refused c o) = Unit {0}

-- where reading goes on, whatever was read
abbrev pub progress_of : Reading → Progress
progress_of (Taken m next f0 f1 f2 f3) = Ok next
progress_of (Refused c o) = Err (fault c o)

unfoldable pub forget : {A : Type 0} → Outcome A → Progress
forget (read a at ws) = Ok at
forget (refuse c o) = Err (fault c o)
