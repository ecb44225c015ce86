-- A record's own fields and name judged, as the code's enums have it: what the definitions' readers test of each record before they go on.
use Rattle.std.specs.Prelude.{ℕ, zero, suc, ◌+◌, ◌≤◌, Bool, true, false, ◌&&◌, List, leb, Ok, Err}
use Rattle.language.specs.Basics.{among}
use Rattle.language.specs.Structure.{DeclMark, is_vR, is_lB, is_pR, StmtMark, is_bK, is_cL, is_gO, is_iF, is_kN, is_aR, is_aD, is_rM, is_qY, fields}
use Rattle.language.specs.declared.Refusal.TheVariants.{FieldRange, NestingDepth, TooManyNames, NameTwice}
use Rattle.language.specs.Faults.{fault, Progress}
use Rattle.check_marks.specs.declared.Place.TheVariants.{Declaration}
use Rattle.check_records.specs.declared.Reading.{Reading}
use Rattle.check_records.specs.declared.Reading.TheVariants.{Taken, Refused as Untaken}
use Rattle.check_records.specs.Taking.{forget, record_at}
use Rattle.check_bounds.specs.Marks.{decl_mark_of}

-- a BK: 6 where no level is left, then 7 for its declarations beside the names held
unfoldable pub opened_of : ℕ → ℕ → ℕ → ℕ → ℕ → Progress
opened_of zero at next d held = Err (fault NestingDepth at)
opened_of (suc left) at next d held = elim (leb (held + d) 32) [ true ↦ Ok next | false ↦ Err (fault TooManyNames at) ]

-- a declaration's second field: 4 for a label's index, 7 for a procedure's p
unfoldable pub ranged_of : DeclMark → ℕ → ℕ → ℕ → ℕ → Progress
ranged_of is_vR at next f1 s = Ok next
ranged_of is_lB at next f1 s = elim (leb 1 f1 && leb f1 s) [ true ↦ Ok next | false ↦ Err (fault FieldRange at) ]
ranged_of is_pR at next f1 s = elim (leb f1 32) [ true ↦ Ok next | false ↦ Err (fault TooManyNames at) ]

-- then its name: 8 where its level has it already
unfoldable pub once_at : Progress → Bool → ℕ → Progress
once_at (Ok next) true at = Err (fault NameTwice at)
once_at (Ok next) false at = Ok next
once_at (Err e) twice at = Err e

-- the record as it was read, or the refusal by a test of it
unfoldable pub judged : Progress → Reading → Reading
judged (Ok next) r = r
judged (Err e) r = Untaken e.cause e.offset

unfoldable pub headed : Reading → ℕ → ℕ → List ℕ → Reading
headed (Taken m next f0 f1 f2 f3) at s ns = judged (once_at (ranged_of (decl_mark_of m) at next f1 s) (among f0 ns) at) (Taken m next f0 f1 f2 f3)
headed (Untaken c o) at s ns = Untaken c o

-- a declaration's own record at an offset, read and judged
abbrev pub heading_at : List ℕ → ℕ → ℕ → List ℕ → Reading
heading_at bs at s ns = headed (record_at Declaration bs at) at s ns

-- a procedure has at most 32 formals
abbrev pub FewFormals : DeclMark → ℕ → Type 0
FewFormals is_vR p = Unit {0}
FewFormals is_lB p = Unit {0}
FewFormals is_pR p = p ≤ 32

-- a statement other than BK: 4 for CL's a and AR's operation, and CL's arguments passed over
unfoldable pub action_of : StmtMark → ℕ → ℕ → ℕ → List ℕ → Progress
action_of is_bK o f1 at ws = Ok at
action_of is_cL o f1 at ws = elim (leb f1 32) [ true ↦ forget (fields o f1 at ws) | false ↦ Err (fault FieldRange o) ]
action_of is_gO o f1 at ws = Ok at
action_of is_iF o f1 at ws = Ok at
action_of is_kN o f1 at ws = Ok at
action_of is_aR o f1 at ws = elim (leb f1 2) [ true ↦ Ok at | false ↦ Err (fault FieldRange o) ]
action_of is_aD o f1 at ws = Ok at
action_of is_rM o f1 at ws = Ok at
action_of is_qY o f1 at ws = Ok at
