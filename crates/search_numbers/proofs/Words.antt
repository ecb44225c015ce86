-- The number of a name by its word (`number-there`).
-- Assumes nothing.
use Prim.Native.Nat.{ℕ, pred, ◌+◌, ◌*◌}
use native.Mathlib.Omega.{arith}
use mathlib.Core.List.{List, [], ◌∷◌, map}
use mathlib.Core.Option.{Option, none, some}
use mathlib.Core.Path.{◌≡◌, refl, sym, ap, ◌∙◌}
use lib.ListN.{get_or}
use Rattle.laws.specs.Tests.{by-lookup}
use Rattle.frames.specs.Frame.{position_from}
use Rattle.coordinates.specs.Enclosure.{Enclosure, Coordinate, names_of, coordinate_of}
use Rattle.coordinates.proofs.Search.{coordinate-here, coordinate-further}
use Rattle.coordinates.proofs.Declared.{coordinate-declares}
use Rattle.resolved.specs.Resolved.{level_in, position_in, name_word, Covers}
use Rattle.resolved.proofs.NameWords.{word_none, Narrow, name-is}
use Rattle.f_search.specs.Numbers.{first_number, number_of}
use Rattle.f_search.proofs.Numbered.{number-here, number-further}
use Rattle.resolve_fields.specs.Taking.{Gives}
use Rattle.search_numbers.specs.Around.{number_at, Around}

-- as the code puts it together
pub number-from :
    (code around : List ℕ) (p w level place position : ℕ) → w ≡ get_or code p 0 → level ≡ level_in w → place ≡ get_or around level 0 → position ≡ position_in w →
    32 * place + position ≡ number_at code around p
unfolding number_at
number-from code around p w level place position a b c d =
    (λ i. 32 * c i + d i) ∙ (λ i. 32 * get_or around (b i) 0 + position_in w) ∙ (λ i. 32 * get_or around (level_in (a i)) 0 + position_in (a i))

module _ (around : List ℕ) where
  -- the number at a coordinate
  unfoldable number_by : Option Coordinate → ℕ
  number_by none = 0
  number_by (some c) = 32 * get_or around c.level 0 + pred c.position

  number_by_lem : (es : Enclosure) (n : ℕ) → Around around es → number_of es n ≡ number_by (coordinate_of es n)
  unfolding number_by number_of coordinate_of first_number
  number_by_lem [] n h = refl
  number_by_lem (e ∷ es) n h =
      by-lookup (position_from n 1 (names_of e))
      (λ q. number-further e es n q ∙ number_by_lem es n h.1 ∙ ap number_by (sym (coordinate-further e es n q)))
      (λ p q. number-here e es n p q ∙ ap (λ (x : ℕ). 32 * x + pred p) (sym h.0) ∙ ap number_by (sym (coordinate-here e es n p q)))

  outside : (es : Enclosure) → Around around es → get_or around 0 0 ≡ 0
  outside [] h = h
  outside (e ∷ es) h = outside es h.1

  -- a word of no name
  pub number-nowhere : (code : List ℕ) (es : Enclosure) → Around around es → (p : ℕ) → get_or code p 0 ≡ 0 → number_at code around p ≡ 0
  unfolding number_at
  number-nowhere code es noted p w = rw w (omega (arith, outside es noted))

  module _ (code : List ℕ) (es : Enclosure) (narrow : Narrow es) (noted : Around around es) where
    pub number-there : (p n : ℕ) → get_or code p 0 ≡ name_word es n → number_at code around p ≡ number_of es n
    unfolding number_at number_by
    number-there p n w =
        by-lookup (coordinate_of es n)
        (λ q. number-nowhere code es noted p (w ∙ word_none es n q) ∙ sym (number_by_lem es n noted ∙ ap number_by q))
        (λ c q.
        let d = coordinate-declares es n c q in
        let says = name-is es narrow n c q d.block d.stands in
        (λ i. 32 * get_or around (level_in (w i)) 0 + position_in (w i)) ∙ (λ i. 32 * get_or around (says.level i) 0 + says.position i) ∙ sym (number_by_lem es n noted ∙ ap number_by q))

    pub numbers-there : (p : ℕ) (ns : List ℕ) → Covers code p (map (name_word es) ns) → Gives (number_at code around) p (map (number_of es) ns)
    numbers-there p [] h = tt
    numbers-there p (n ∷ ns) h = (number-there p n h.0, numbers-there (p + 1) ns h.1)
