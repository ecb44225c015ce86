-- The visible names as the check keeps them: an entry holds the offset of the record that declares its name, from whose bytes the name's
-- meaning is read.
use Rattle.std.specs.Prelude.{ℕ, zero, suc, ◌+◌, ◌/◌, ◌%◌, true, false, List, [], ◌∷◌, map, eqb, drop, Ok, Err}
use Rattle.std.proofs.Math.Option.{none, some}
use Rattle.language.specs.Text.{Kind, variable, label, procedure}
use Rattle.language.specs.Encoding.{LB-mark, PR-mark, FM-mark}
use Rattle.language.specs.Scope.{Meaning, Scope, fine, wrong, uses, ◌then◌}
use Rattle.language.specs.Scope as definitions
use Rattle.language.specs.Faults.{fault, Verdict}
use Rattle.laws.specs.Fields.{field_at}
use Rattle.check_uses.specs.declared.Kind as code
use Rattle.check_uses.specs.declared.Kind.TheVariants.{Variable, Label, Procedure}

abbrev pub kind_from : ℕ → Kind
kind_from zero = variable
kind_from (suc zero) = label
kind_from (suc (suc n)) = procedure

-- the definitions' kind for the code's
abbrev pub kind_meant : code.Kind → Kind
kind_meant Variable = variable
kind_meant Label = label
kind_meant Procedure = procedure

-- the kinds of so many formals from an offset on
unfoldable pub kinds_at : List ℕ → ℕ → ℕ → List Kind
kinds_at bs from zero = []
kinds_at bs from (suc k) = kind_from (field_at bs (from + 4)) ∷ kinds_at bs (from + 6) k

-- what the name stands for that the record at an offset declares
unfoldable pub meaning_at : List ℕ → ℕ → Meaning
meaning_at bs place =
    elim (eqb (field_at bs place) PR-mark) [
      | true ↦ record { kind = procedure; takes = some (kinds_at bs (place + 6) (field_at bs (place + 4))) }
      | false ↦ elim (eqb (field_at bs place) LB-mark) [
        | true ↦ record { kind = label; takes = none }
        | false ↦ elim (eqb (field_at bs place) FM-mark) [
          | true ↦ record { kind = kind_from (field_at bs (place + 4)); takes = none }
          | false ↦ record { kind = variable; takes = none }
        ]
      ]
    ]

-- the definitions' scope
unfoldable pub scope_of : List ℕ → List ℕ → Scope
scope_of bs es = map (λ (e : ℕ). (e % 65536, meaning_at bs (e / 65536))) es

-- the entries from `top` on are in use
abbrev pub scope_from : List ℕ → List ℕ → ℕ → Scope
scope_from bs es top = scope_of bs (drop top es)

-- a verdict as the code gives it
abbrev pub verdict_of : definitions.Judgement → Verdict
verdict_of fine = Ok tt
verdict_of (wrong c o) = Err (fault c o)

-- two names of one record, and three variables, left to right
abbrev pub pair_judged : Scope → ℕ → Kind → ℕ → Kind → ℕ → definitions.Judgement
pair_judged sc at k n j m = ◌then◌ (uses sc at k n) (uses sc at j m)

abbrev pub triple_judged : Scope → ℕ → ℕ → ℕ → ℕ → definitions.Judgement
triple_judged sc at n m l = ◌then◌ (uses sc at variable n) (pair_judged sc at variable m variable l)
