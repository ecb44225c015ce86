-- Bounds, and Causes and numbers: the whole call of an engine. Which refusal is due is one thing (`admission`), what comes back is another.
use Rattle.std.specs.Prelude.{ℕ, ◌+◌, ◌*◌, ◌/◌, Bool, true, false, ◌&&◌, List, [], ◌∷◌, ◌++◌, ◌≡◌, leb, ℤ, length, drop}
use Rattle.std.proofs.Math.Option.{Option, none, some}
use Rattle.language.specs.Text.{Block}
use Rattle.language.specs.Check.{Checked, accepted, refused, check}
use Rattle.language.specs.Table.{Table, right}
use Rattle.language.specs.Groups.{list_fits, list_right, relisted}
use Rattle.language.specs.Machine.{Limits, Outcome, run, start}
use Rattle.language.specs.Sheet.{sheet_share, sheet_words, looked_up_designator, looked_up_links}
use Rattle.language.specs.declared.Refusal.{Refusal}
use Rattle.language.specs.declared.Refusal.TheVariants.{LimitRange, AreaTooShort, TableNotRight}
use Rattle.language.specs.declared.End.TheVariants.{Refused}
use Rattle.language.specs.declared.Answer.{Answer}

-- What every engine is lent, as it finds it and as it leaves it.
pub record Lent : Type 0 where
  pub sheet : List ℤ
  pub table : Table
  pub groups : List ℤ

-- An engine: how many activation records and how many words of copying area it is lent beside that (`none`: it uses no such area), and
-- whether it reports links.
pub record Engine : Type 0 where
  pub records : Option ℕ
  pub area : Option ℕ
  pub links : Bool

abbrev pub copying : ℕ → Engine
copying words = record { records = none; area = some words; links = false }

abbrev pub chain : ℕ → Engine
chain activations = record { records = some activations; area = none; links = true }

abbrev pub display : Engine
display = record { records = none; area = none; links = false }

-- of request 1
abbrev pub search : Engine
search = record { records = none; area = none; links = false }

-- What a call is fed; D, N and G are `activations`, `allowance` and `limit`.
pub record Fed : Type 0 where
  pub script : List ℕ
  pub activations : ℕ
  pub allowance : ℕ
  pub limit : ℕ
  pub tally : ℕ
  pub name : ℕ
  pub lent : Lent

pub record Reply : Type 0 where
  pub answer : Answer
  pub lent : Lent

abbrev pub limits_of : Fed → Limits
limits_of f = record { activations = f.activations; limit = f.limit }

-- Which refusal is due

-- 12
unfoldable pub limits_fit : Fed → Bool
limits_fit f =
    leb 1 f.activations && leb f.activations 256 && leb f.allowance 1000000 && leb 1 f.limit &&
    leb f.limit 65535 && leb f.tally 1000000000000

-- 13: an area that an engine uses holds what is asked
unfoldable pub holds_at_least : ℕ → Option ℕ → Bool
holds_at_least asked none = true
holds_at_least asked (some held) = leb asked held

unfoldable pub sheet_fits : Fed → Bool
sheet_fits f = leb (f.activations * sheet_share) (length f.lent.sheet)

unfoldable pub records_fit : Engine → Fed → Bool
records_fit e f = holds_at_least f.activations e.records

unfoldable pub area_fits : Engine → Fed → Bool
area_fits e f = holds_at_least (f.activations * (length f.script / 2)) e.area

-- A test, and the refusal that is due where it fails.
pub record Test : Type 0 where
  pub holds : Bool
  pub otherwise : Refusal

unfoldable pub first_failing : List Test → Option Refusal
first_failing [] = none
first_failing (t ∷ ts) = elim t.holds [ true ↦ first_failing ts | false ↦ some t.otherwise ]

-- The order of refusals: these tests, the script check, the tests after it.
unfoldable pub tests_before : Engine → Fed → List Test
tests_before e f =
    record { holds = limits_fit f; otherwise = LimitRange } ∷
    record { holds = sheet_fits f; otherwise = AreaTooShort } ∷
    record { holds = records_fit e f; otherwise = AreaTooShort } ∷
    record { holds = list_fits f.lent.table f.lent.groups; otherwise = AreaTooShort } ∷
    record { holds = right f.limit f.lent.table; otherwise = TableNotRight } ∷
    record { holds = list_right f.lent.table f.lent.groups; otherwise = TableNotRight } ∷ []

unfoldable pub tests_after : Engine → Fed → List Test
tests_after e f = record { holds = area_fits e f; otherwise = AreaTooShort } ∷ []

-- the refusal due, with its offset, or the program to run
unfoldable pub admission : Engine → Fed → Checked
admission e f =
    elim (first_failing (tests_before e f)) [
      | some c ↦ refused c 0
      | none ↦ elim (check f.script) [
        | refused c o ↦ refused c o
        | accepted t ↦ elim (first_failing (tests_after e f)) [ some c ↦ refused c 0 | none ↦ accepted t ]
      ]
    ]

-- What comes back

unfoldable pub turned_away : Fed → Refusal → ℕ → Reply
turned_away f c o =
    record { answer = record { end = Refused c; steps = 0; offset = o; pairs = f.lent.table.used; sheet = 0; tally = f.tally; designator = 0; links = 0 }; lent = f.lent }

-- of the links followed, those that the engine reports
unfoldable pub links_of : Engine → ℕ → ℕ
links_of e followed = elim e.links [ true ↦ followed | false ↦ 0 ]

-- the sheet's words, and past them what was there
unfoldable pub written : List ℤ → List ℤ → List ℤ
written ws sheet = ws ++ drop (length ws) sheet

unfoldable pub replied : Engine → Fed → Outcome → Reply
replied e f r =
    let s = r.final in let ws = sheet_words s in
    record { answer = record { end = r.end; steps = s.steps; offset = r.offset; pairs = s.table.used; sheet = length ws; tally = f.tally + s.steps; designator = looked_up_designator s f.name; links = links_of e (looked_up_links s f.name) }; lent = record { sheet = written ws f.lent.sheet; table = s.table; groups = relisted s.table f.lent.groups } }

unfoldable pub run_of : Fed → Block → Outcome
run_of f t = run (limits_of f) f.allowance (start t f.lent.table)

-- The whole call.
unfoldable pub reply : Engine → Fed → Reply
reply e f = elim (admission e f) [ refused c o ↦ turned_away f c o | accepted t ↦ replied e f (run_of f t) ]

-- What an engine leaves of an area that it alone is lent, be it of words or of records: its length always, and every element where the
-- call is refused.
pub record Leaves {A : Type 0} (e : Engine) (f : Fed) (before after : List A) : Type 0 where
  pub as_long : length after ≡ length before
  pub untouched : (c : Refusal) (o : ℕ) → admission e f ≡ refused c o → after ≡ before
