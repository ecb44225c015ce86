-- The names that a statement uses, by its mark.
use Rattle.std.specs.Prelude.{ℕ, ◌+◌, true, false, List, eqb}
use Rattle.language.specs.Text.{variable, label}
use Rattle.language.specs.Encoding.{CL-mark, GO-mark, IF-mark, KN-mark, AR-mark, QY-mark}
use Rattle.language.specs.Scope.{Scope, uses, judge_action}
use Rattle.language.specs.Scope as definitions
use Rattle.laws.specs.Fields.{field_at}
use Rattle.check_uses.specs.Meanings.{pair_judged, triple_judged}
use Rattle.check_calls.specs.Calls.{call_at}

-- which names a statement has, by its mark
pub data Shape : Type 0 where
  is_cL is_gO is_iF is_kN is_aR is_qY is_two : Shape

abbrev pub shape_of : ℕ → Shape
shape_of w =
    elim (eqb w CL-mark) [
      | true ↦ is_cL
      | false ↦ elim (eqb w GO-mark) [
        | true ↦ is_gO
        | false ↦ elim (eqb w IF-mark) [
          | true ↦ is_iF
          | false ↦ elim (eqb w KN-mark) [
            | true ↦ is_kN
            | false ↦ elim (eqb w AR-mark) [
              | true ↦ is_aR
              | false ↦ elim (eqb w QY-mark) [
                | true ↦ is_qY
                | false ↦ is_two
              ]
            ]
          ]
        ]
      ]
    ]

-- a statement other than BK, judged by its shape
abbrev pub judged_as : Shape → Scope → List ℕ → ℕ → definitions.Judgement
judged_as is_cL sc bs at = judge_action sc at (call_at bs at)
judged_as is_gO sc bs at = uses sc at label (field_at bs (at + 2))
judged_as is_iF sc bs at = pair_judged sc at variable (field_at bs (at + 2)) label (field_at bs (at + 4))
judged_as is_kN sc bs at = uses sc at variable (field_at bs (at + 2))
judged_as is_aR sc bs at = triple_judged sc at (field_at bs (at + 2)) (field_at bs (at + 6)) (field_at bs (at + 8))
judged_as is_qY sc bs at = triple_judged sc at (field_at bs (at + 2)) (field_at bs (at + 4)) (field_at bs (at + 6))
judged_as is_two sc bs at = pair_judged sc at variable (field_at bs (at + 2)) variable (field_at bs (at + 4))
