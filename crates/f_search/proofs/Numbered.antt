-- The number of a name by its coordinate: `number-coordinate`. `number-none`: a name that is not visible has 0.
use Rattle.std.specs.Prelude.{ℕ, pred, ◌+◌, [], ◌∷◌, ◌≡◌, refl}
use Rattle.std.proofs.Math.Option.{Option, none, some}
use Rattle.std.proofs.Common.{sym, ap, ◌∙◌}
use Rattle.laws.specs.Tests.{none≢some, some_inj}
use Rattle.frames.specs.Frame.{position_from}
use Rattle.coordinates.specs.Enclosure.{Enclosing, Enclosure, Coordinate, names_of, coordinate_of, at_level}
use Rattle.coordinates.proofs.Search.{coordinate-here, coordinate-further}
use Rattle.coordinates.proofs.Declared.{coordinate-declares, level-here, level-further}
use Rattle.f_search.specs.Numbers.{first_number, number_of}

-- by where the block has it
pub number-here : (e : Enclosing) (es : Enclosure) (n p : ℕ) → position_from n 1 (names_of e) ≡ some p → number_of (e ∷ es) n ≡ first_number e + pred p
unfolding number_of
number-here e es n p q = rw (q, number_of)

pub number-further : (e : Enclosing) (es : Enclosure) (n : ℕ) → position_from n 1 (names_of e) ≡ none → number_of (e ∷ es) n ≡ number_of es n
unfolding number_of
number-further e es n q = rw (q, number_of)

number-nowhere : (n : ℕ) → number_of [] n ≡ 0
unfolding number_of
number-nowhere n = refl

pub number-coordinate : (es : Enclosure) (n : ℕ) (c : Coordinate) → coordinate_of es n ≡ some c → (e : Enclosing) → at_level es c.level ≡ some e → number_of es n ≡ first_number e + pred c.position
unfolding coordinate_of
number-coordinate [] n c q e l = none≢some q
number-coordinate (x ∷ es) n c q e l = go (number-coordinate es n c) (position_from n 1 (names_of x)) refl
  where
    go : (coordinate_of es n ≡ some c → (e : Enclosing) → at_level es c.level ≡ some e → number_of es n ≡ first_number e + pred c.position) → (o : Option ℕ) → position_from n 1 (names_of x) ≡ o → number_of (x ∷ es) n ≡ first_number e + pred c.position
    go r none p =
        let further = sym (coordinate-further x es n p) ∙ q in
        let d = coordinate-declares es n c further in
        number-further x es n p ∙ r further e (sym (level-further x es c.level d.low d.high) ∙ l)
    go r (some i) p =
        let same = some_inj (sym (coordinate-here x es n i p) ∙ q) in
        let block : x ≡ e = some_inj (sym (level-here x es) ∙ ap (λ (y : Coordinate). at_level (x ∷ es) y.level) same ∙ l) in
        number-here x es n i p ∙ (λ j. first_number (block j) + pred (same j).position)

pub number-none : (es : Enclosure) (n : ℕ) → coordinate_of es n ≡ none → number_of es n ≡ 0
unfolding coordinate_of
number-none [] n q = number-nowhere n
number-none (x ∷ es) n q = go (number-none es n) (position_from n 1 (names_of x)) refl
  where
    go : (coordinate_of es n ≡ none → number_of es n ≡ 0) → (o : Option ℕ) → position_from n 1 (names_of x) ≡ o → number_of (x ∷ es) n ≡ 0
    go r none p = number-further x es n p ∙ r (sym (coordinate-further x es n p) ∙ q)
    go r (some i) p = none≢some (sym q ∙ coordinate-here x es n i p)
