-- `place_fits` meets its contract.
use Rattle.std.specs.Prelude.{◌<◌, Bool, true, ◌&&◌, ◌≡◌, ℤ, nat_abs}
use Rattle.std.specs.Int.Signed.{mag}
use Rattle.std.specs.Int.{w32}
use Rattle.std.proofs.Common.{refl, sym, ◌∙◌, arith, to_z, of_z}
use borrow.Author.Tests.{le-ltb, lt-ltb, lt-leb, le-leb}
use Rattle.laws.specs.Tests.{both}
use Rattle.language.specs.Table.{at_least_one}
use Rattle.table_search.proofs.Signed.{number-words}
use Rattle.table_places.specs.Places.{place_fits}
use Rattle.table_places.proofs.Naturals.{natural-cast, Word, natural-word, from_one}
use Rattle.table_places.proofs.place_fits.Goals as goal

-- what the test of the two words says of the numbers
tested :
    {r : Bool} (a n : ℤ) → r ≡ (at_least_one (to_z w32 (of_z w32 a)) && at_least_one (to_z w32 (of_z w32 n))) → mag a < 2147483648 →
    mag n < 2147483648 → r ≡ (at_least_one a && at_least_one n)
tested a n e h k = number-words e h k refl refl

-- numbers that passed it
record Passed (a n : ℤ) : Type 0 where
  group : at_least_one a ≡ true
  number : at_least_one n ≡ true
  group_word : Word a
  number_word : Word n

passed : {a n : ℤ} → (at_least_one a && at_least_one n) ≡ true → mag a < 2147483648 → mag n < 2147483648 → Passed a n
passed {a} {n} t h k =
    let b = both (at_least_one a) (at_least_one n) t in
    record { group = b.0; number = b.1; group_word = natural-word a h (from_one a b.0).0; number_word = natural-word n k (from_one n b.1).0 }

pub returns-then-not-numbers_fit : goal.returns-then-not-numbers_fit
unfolding place_fits
returns-then-not-numbers_fit c =
    rw (sym (tested c.args.group c.args.number c.numbers_fit.ensures c.ranges.group.sfits c.ranges.number.sfits) ∙ c.if-not-numbers_fit.true)

pub overflow_cast-group : goal.overflow_cast-group
overflow_cast-group c =
    let t = tested c.args.group c.args.number c.numbers_fit.ensures c.ranges.group.sfits c.ranges.number.sfits in
    let p = passed (sym t ∙ c.if-not-numbers_fit.false) c.ranges.group.sfits c.ranges.number.sfits in
    natural-cast c.args.group c.ranges.group.sfits (from_one c.args.group p.group).0

pub returns-then-group-last : goal.returns-then-group-last
unfolding place_fits
returns-then-group-last c =
    let t = tested c.args.group c.args.number c.numbers_fit.ensures c.ranges.group.sfits c.ranges.number.sfits in
    let p = passed (sym t ∙ c.if-not-numbers_fit.false) c.ranges.group.sfits c.ranges.number.sfits in
    rw (p.group, p.number, le-ltb c.args.last (nat_abs c.args.group) (omega (arith, p.group_word.0)))

pub overflow_cast-number : goal.overflow_cast-number
overflow_cast-number c =
    let t = tested c.args.group c.args.number c.numbers_fit.ensures c.ranges.group.sfits c.ranges.number.sfits in
    let p = passed (sym t ∙ c.if-not-numbers_fit.false) c.ranges.group.sfits c.ranges.number.sfits in
    natural-cast c.args.number c.ranges.number.sfits (from_one c.args.number p.number).0

pub returns-then-limit-number : goal.returns-then-limit-number
unfolding place_fits
returns-then-limit-number c =
    let t = tested c.args.group c.args.number c.numbers_fit.ensures c.ranges.group.sfits c.ranges.number.sfits in
    let p = passed (sym t ∙ c.if-not-numbers_fit.false) c.ranges.group.sfits c.ranges.number.sfits in
    rw (
      p.group,
      p.number,
      lt-ltb c.args.last (nat_abs c.args.group) (omega (arith, p.group_word.0)),
      lt-leb (nat_abs c.args.number) c.args.limit (omega (arith, p.number_word.0)),
    )

pub overflow_cast-result : goal.overflow_cast-result
overflow_cast-result c =
    let t = tested c.args.group c.args.number c.numbers_fit.ensures c.ranges.group.sfits c.ranges.number.sfits in
    let p = passed (sym t ∙ c.if-not-numbers_fit.false) c.ranges.group.sfits c.ranges.number.sfits in
    natural-cast c.args.number c.ranges.number.sfits (from_one c.args.number p.number).0

pub returns : goal.returns
unfolding place_fits
returns c =
    let t = tested c.args.group c.args.number c.numbers_fit.ensures c.ranges.group.sfits c.ranges.number.sfits in
    let p = passed (sym t ∙ c.if-not-numbers_fit.false) c.ranges.group.sfits c.ranges.number.sfits in
    rw (
      p.number_word.0,
      p.group,
      p.number,
      lt-ltb c.args.last (nat_abs c.args.group) (omega (arith, p.group_word.0)),
      le-leb (nat_abs c.args.number) c.args.limit (omega (arith, p.number_word.0)),
    )
