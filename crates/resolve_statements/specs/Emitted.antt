-- The words of a statement, from its bytes and the array of the visible names: each name with its word.
use Rattle.std.specs.Prelude.{ℕ, ◌+◌, ◌*◌, true, false, ◌&&◌, List, [], ◌∷◌, map, eqb}
use Rattle.language.specs.Text.{Action}
use Rattle.language.specs.Encoding.{action_fields, CL-mark, GO-mark, IF-mark, KN-mark, AR-mark, AD-mark, RM-mark}
use Rattle.laws.specs.Fields.{field_at, fields_at, FieldsStand}
use Rattle.coordinates.specs.Enclosure.{Enclosure}
use Rattle.resolved.specs.Resolved.{direct, chosen, resolved_action}
use Rattle.resolve_words.specs.Growth.{Grown}
use Rattle.resolve_words.specs.Visible.{word_in, used_at, AllShort, Shown}

unfoldable pub kn_words : List ℕ → List ℕ → ℕ → List ℕ
kn_words bs es at =
    let w = used_at bs es (at + 2) in chosen (direct w) 0 11 ∷ w ∷ (field_at bs (at + 4) + 65536 * field_at bs (at + 6)) ∷ 0 ∷ []

unfoldable pub ar_words : List ℕ → List ℕ → ℕ → List ℕ
ar_words bs es at =
    let w = used_at bs es (at + 2) in let a = used_at bs es (at + 6) in let b = used_at bs es (at + 8) in
    chosen (direct w && direct a && direct b) (1 + field_at bs (at + 4)) 12 ∷ w ∷ field_at bs (at + 4) ∷ a ∷ b ∷ []

unfoldable pub if_words : List ℕ → List ℕ → ℕ → List ℕ
if_words bs es at =
    let w = used_at bs es (at + 2) in let a = used_at bs es (at + 4) in chosen (direct w && direct a) 4 13 ∷ a ∷ w ∷ []

unfoldable pub go_words : List ℕ → List ℕ → ℕ → List ℕ
go_words bs es at = let a = used_at bs es (at + 2) in chosen (direct a) 5 14 ∷ a ∷ []

unfoldable pub argument_words : ℕ → List ℕ → List ℕ → ℕ → List ℕ
argument_words count bs es at = map (λ (n : ℕ). word_in n es) (fields_at bs at count)

unfoldable pub cl_words : List ℕ → List ℕ → ℕ → List ℕ
cl_words bs es at =
    let w = used_at bs es (at + 2) in
    chosen (direct w) 7 15 ∷ w ∷ field_at bs (at + 4) ∷ argument_words (field_at bs (at + 4)) bs es (at + 6)

-- AD and RM, with their operation
unfoldable pub pair_words : ℕ → List ℕ → List ℕ → ℕ → List ℕ
pair_words op bs es at = op ∷ used_at bs es (at + 2) ∷ used_at bs es (at + 4) ∷ []

unfoldable pub qy_words : List ℕ → List ℕ → ℕ → List ℕ
qy_words bs es at = 10 ∷ used_at bs es (at + 2) ∷ used_at bs es (at + 4) ∷ used_at bs es (at + 6) ∷ []

-- by the mark
abbrev pub emitted_as : ℕ → List ℕ → List ℕ → ℕ → List ℕ
emitted_as m bs es at =
    elim (eqb m AR-mark) [
      | true ↦ ar_words bs es at
      | false ↦ elim (eqb m IF-mark) [
        | true ↦ if_words bs es at
        | false ↦ elim (eqb m KN-mark) [
          | true ↦ kn_words bs es at
          | false ↦ elim (eqb m CL-mark) [
            | true ↦ cl_words bs es at
            | false ↦ elim (eqb m GO-mark) [
              | true ↦ go_words bs es at
              | false ↦ elim (eqb m AD-mark) [
                | true ↦ pair_words 8 bs es at
                | false ↦ elim (eqb m RM-mark) [
                  | true ↦ pair_words 9 bs es at
                  | false ↦ qy_words bs es at
                ]
              ]
            ]
          ]
        ]
      ]
    ]

-- words written at a place, where the words of all visible names are short
pub record Written (words : List ℕ → List ℕ → ℕ → List ℕ) (bs es : List ℕ) (at : ℕ) (code code' : List ℕ) : Type 0 where
  pub grown : AllShort es → Grown code code' at (words bs es at)

-- a statement other than BK is written as its resolved words
abbrev pub Emitted : List ℕ → List ℕ → ℕ → List ℕ → List ℕ → Type 0
Emitted bs es at code code' =
    (a : Action) (encl : Enclosure) → Shown encl es → FieldsStand bs at (action_fields a) → Grown code code' at (resolved_action encl a)
