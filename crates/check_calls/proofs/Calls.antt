-- A call's arguments, one by one: visible, and of the kinds of the formals.
-- Assumes nothing.
use Rattle.language.specs.Faults.{fault}
use Rattle.std.specs.Prelude.{Some, None, is_some, Ok, Err}
use mathlib.Core.Path.{◌≡◌, refl, sym, ◌∙◌, ap}
use mathlib.Core.Bool.{Bool, true, false}
use mathlib.Core.List.{List, [], ◌∷◌, map}
use mathlib.Core.Option.{Option, none, some}
use Prim.Native.Nat.{ℕ, suc, ◌+◌, ◌*◌, ◌-◌, ◌<◌, ◌≤◌}
use native.Mathlib.Omega.{arith}
use Rattle.language.specs.Text.{Kind}
use Rattle.language.specs.Scope.{Scope, wrong, visible, all_visible, kind_in, agree, ◌then◌}
use Rattle.language.specs.declared.Refusal.TheVariants.{NotVisible}
use Rattle.laws.specs.Fields.{field_at, fields_at}
use Rattle.check_uses.specs.declared.Kind as code
use Rattle.check_uses.specs.Meanings.{kind_from, kind_meant, kinds_at, meaning_at, scope_of, verdict_of}
use Rattle.check_symbols.specs.Entries.{found_in}
use Rattle.check_symbols.specs.Entries.{Binding}
use Rattle.check_uses.proofs.Meanings.{found-lookup, kinds-agree, kinds-differ, meant_apart}

one_less_lem : (count i : ℕ) → i < count → count - i ≡ suc (count - (i + 1))
one_less_lem count i h = omega arith

none_left : (count i : ℕ) → count ≤ i → count - i ≡ 0
none_left count i h = omega arith

all_left : (count : ℕ) → count - 0 ≡ count
all_left count = omega arith

-- so many fields, and the kinds of so many formals, from the one with a number on
module _ (bs : List ℕ) (from count : ℕ) where
  words_step : (i : ℕ) → i < count → fields_at bs (from + 2 * i) (count - i) ≡ field_at bs (from + 2 * i) ∷ fields_at bs (from + 2 * (i + 1)) (count - (i + 1))
  unfolding fields_at
  words_step i h = let next : from + 2 * i + 2 ≡ from + 2 * (i + 1) = omega arith in rw (one_less_lem count i h) (rw next)

  words-done : (i : ℕ) → count ≤ i → fields_at bs from (count - i) ≡ []
  unfolding fields_at
  words-done i h = rw (none_left count i h)

  words-all : fields_at bs (from + 2 * 0) (count - 0) ≡ fields_at bs from count
  words-all = let start : from + 2 * 0 ≡ from = omega arith in rw (start, all_left count)

  kinds-step : (i : ℕ) → i < count → kinds_at bs (from + 6 * i) (count - i) ≡ kind_from (field_at bs (from + 4 + 6 * i)) ∷ kinds_at bs (from + 6 * (i + 1)) (count - (i + 1))
  unfolding kinds_at
  kinds-step i h =
      let next : from + 6 * i + 6 ≡ from + 6 * (i + 1) = omega arith in
      let field : from + 6 * i + 4 ≡ from + 4 + 6 * i = omega arith in
      rw (one_less_lem count i h) (rw (next, field))

  kinds-done : (i : ℕ) → count ≤ i → kinds_at bs from (count - i) ≡ []
  unfolding kinds_at
  kinds-done i h = rw (none_left count i h)

  kinds-all : kinds_at bs (from + 6 * 0) (count - 0) ≡ kinds_at bs from count
  kinds-all = let start : from + 6 * 0 ≡ from = omega arith in rw (start, all_left count)

module _ (bs es : List ℕ) where
  abbrev sc : Scope
  sc = scope_of bs es

  visible-hit : (o n place : ℕ) (ns : List ℕ) → found_in n es ≡ Some place → all_visible sc o (n ∷ ns) ≡ all_visible sc o ns
  unfolding all_visible visible ◌then◌
  visible-hit o n place ns e = rw (found-lookup bs n es, e)

  visible-miss : (o n : ℕ) (ns : List ℕ) → found_in n es ≡ None → all_visible sc o (n ∷ ns) ≡ wrong NotVisible o
  unfolding all_visible visible ◌then◌
  visible-miss o n ns e = rw (found-lookup bs n es, e)

  kind-hit : (n place : ℕ) → found_in n es ≡ Some place → kind_in sc n ≡ some (meaning_at bs place).kind
  unfolding kind_in
  kind-hit n place e = rw (found-lookup bs n es, e, kind_in)

  kind-miss : (n : ℕ) → found_in n es ≡ None → kind_in sc n ≡ none
  unfolding kind_in
  kind-miss n e = rw (found-lookup bs n es, e, kind_in)

  module _ (k : Kind) (ks : List Kind) (n : ℕ) (xs : List (Option Kind)) where
    agree-hit : (place : ℕ) → found_in n es ≡ Some place → (meaning_at bs place).kind ≡ k → agree (k ∷ ks) (kind_in sc n ∷ xs) ≡ agree ks xs
    unfolding agree
    agree-hit place e f = rw (kind-hit n place e, kinds-agree k (meaning_at bs place).kind f)

    agree-off : (place : ℕ) → found_in n es ≡ Some place → ((meaning_at bs place).kind ≡ k → ⊥) → agree (k ∷ ks) (kind_in sc n ∷ xs) ≡ false
    unfolding agree
    agree-off place e f = rw (kind-hit n place e, kinds-differ k (meaning_at bs place).kind f)

    agree-miss : found_in n es ≡ None → agree (k ∷ ks) (kind_in sc n ∷ xs) ≡ false
    unfolding agree
    agree-miss e = rw (kind-miss n e)

-- a name that is found, and one that is not
is_there : (b : Binding) → is_some b ≡ true → (place : ℕ) × (b ≡ Some place)
is_there (Some place) e = (place, refl)
is_there None e = cc

is_missing : (b : Binding) → is_some b ≡ false → b ≡ None
is_missing (Some place) e = cc
is_missing None e = refl

-- what is left of the arguments is judged as all of them
pub record Seeing (bs es : List ℕ) (at count i : ℕ) : Type 0 where
  pub same : all_visible (scope_of bs es) at (fields_at bs (at + 6 + 2 * i) (count - i)) ≡ all_visible (scope_of bs es) at (fields_at bs (at + 6) count)

-- and agrees where all of them do
pub record Matching (bs es : List ℕ) (at formals count i : ℕ) : Type 0 where
  pub same :
      agree (kinds_at bs (formals + 6 * i) (count - i)) (map (kind_in (scope_of bs es)) (fields_at bs (at + 6 + 2 * i) (count - i)))
      ≡ agree (kinds_at bs formals count) (map (kind_in (scope_of bs es)) (fields_at bs (at + 6) count))

pub seeing-start : (bs es : List ℕ) (at count : ℕ) → Seeing bs es at count 0
seeing-start bs es at count = record { same = rw (words-all bs (at + 6) count) }

pub matching-start : (bs es : List ℕ) (at formals count : ℕ) → Matching bs es at formals count 0
matching-start bs es at formals count = record { same = rw (words-all bs (at + 6) count, kinds-all bs formals count) }

-- one argument more, or the last one looked at
module _ (bs es : List ℕ) (at count i n : ℕ) (b : Binding) (more : i < count) (is : n ≡ field_at bs (at + 6 + 2 * i)) (found : b ≡ found_in n es) where
  arguments : fields_at bs (at + 6 + 2 * i) (count - i) ≡ n ∷ fields_at bs (at + 6 + 2 * (i + 1)) (count - (i + 1))
  arguments = words_step bs (at + 6) count i more ∙ rw is

  seeing-more : (place : ℕ) → b ≡ Some place → Seeing bs es at count i → Seeing bs es at count (i + 1)
  seeing-more place e r =
      record {
        same = sym (visible-hit bs es at n place _ (sym found ∙ e)) ∙ ap (all_visible (scope_of bs es) at) (sym arguments) ∙ r.same;
      }

  pub seeing-step : is_some b ≡ true → Seeing bs es at count i → Seeing bs es at count (i + 1)
  seeing-step e r = let s = is_there b e in seeing-more s.0 s.1 r

  pub seeing-stop : is_some b ≡ false → Seeing bs es at count i → Err (fault NotVisible at) ≡ verdict_of (all_visible (scope_of bs es) at (fields_at bs (at + 6) count))
  seeing-stop e r =
      sym (ap verdict_of (sym r.same ∙ ap (all_visible (scope_of bs es) at) arguments ∙ visible-miss bs es at n _ (sym found ∙ is_missing b e)))

  module _ (formals : ℕ) (r : Matching bs es at formals count i) where
    abbrev whole : Bool
    whole = agree (kinds_at bs formals count) (map (kind_in (scope_of bs es)) (fields_at bs (at + 6) count))

    abbrev wanted : Kind
    wanted = kind_from (field_at bs (formals + 4 + 6 * i))

    split :
        agree (wanted ∷ kinds_at bs (formals + 6 * (i + 1)) (count - (i + 1)))
        (kind_in (scope_of bs es) n ∷ map (kind_in (scope_of bs es)) (fields_at bs (at + 6 + 2 * (i + 1)) (count - (i + 1))))
        ≡ whole
    split = sym (rw (kinds-step bs formals count i more, arguments)) ∙ r.same

    pub matching-miss : b ≡ None → false ≡ whole
    matching-miss e = sym (agree-miss bs es wanted _ n _ (sym found ∙ e)) ∙ split

    -- the argument's kind and the formal's, as they were read
    module _
        (place x : ℕ) (k y : code.Kind) (there : b ≡ Some place) (read : x ≡ field_at bs (formals + 4 + 6 * i))
        (asked : kind_meant y ≡ kind_from x) (has : kind_meant k ≡ (meaning_at bs place).kind)
      where
        kind-asked : kind_meant y ≡ wanted
        kind-asked = asked ∙ ap kind_from read

        pub matching-step : k ≡ y → Matching bs es at formals count (i + 1)
        matching-step e =
            record {
              same = sym (agree-hit bs es wanted _ n _ place (sym found ∙ there) (sym has ∙ ap kind_meant e ∙ kind-asked)) ∙ split;
            }

        pub matching-off : (k ≡ y → ⊥) → false ≡ whole
        matching-off e =
            sym (agree-off bs es wanted _ n _ place (sym found ∙ there) (λ p. e (meant_apart k y (has ∙ p ∙ sym kind-asked)))) ∙ split

-- nothing left
pub seeing-end : {bs es : List ℕ} {at count i : ℕ} → count ≤ i → Seeing bs es at count i → Ok tt ≡ verdict_of (all_visible (scope_of bs es) at (fields_at bs (at + 6) count))
unfolding all_visible
seeing-end {bs} {es} {at} {count} {i} h r =
    ap verdict_of (sym (ap (all_visible (scope_of bs es) at) (words-done bs (at + 6 + 2 * i) count i h)) ∙ r.same)

pub matching-end :
    {bs es : List ℕ} {at formals count i : ℕ} → count ≤ i → Matching bs es at formals count i →
    true ≡ agree (kinds_at bs formals count) (map (kind_in (scope_of bs es)) (fields_at bs (at + 6) count))
unfolding agree
matching-end {bs} {es} {at} {formals} {count} {i} h r =
    sym (rw (words-done bs (at + 6 + 2 * i) count i h, kinds-done bs (formals + 6 * i) count i h)) ∙ r.same
