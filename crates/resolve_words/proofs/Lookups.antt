-- The entries of an enclosure give each name its word.
-- Assumes nothing.
use Rattle.std.specs.Prelude.{Some, None, unwrap_or}
use mathlib.Core.Path.{◌≡◌, refl, sym, ◌∙◌, ap, subst}
use mathlib.Core.List.{List, [], ◌∷◌, map}
use mathlib.Core.Option.{Option, none, some}
use Prim.Native.Nat.{ℕ, ◌/◌, ◌%◌, ◌^◌, ◌<◌}
use native.Mathlib.Omega.{arith}
use lib.Dec.{eqb}
use mathlib.Core.Bool.{true, false}
use Rattle.laws.specs.Each.{Each}
use Rattle.laws.specs.Lookup.{lookup-here, lookup-there}
use Rattle.laws.specs.Fields.{field_at}
use Rattle.laws.specs.Tests.{split}
use Rattle.language.specs.Basics.{lookup}
use Rattle.coordinates.specs.Enclosure.{Enclosure}
use Rattle.resolved.specs.Resolved.{visible_words, name_word}
use Rattle.check_symbols.specs.Entries.{Binding, Near, found_in}
use Rattle.resolve_words.specs.Visible.{word_in, used_at, entry_of, Short, AllShort, Fits, Shown}

module _ (n e : ℕ) (es : List ℕ) where
  found_here : eqb n (e % 65536) ≡ true → found_in n (e ∷ es) ≡ Some (e / 65536)
  unfolding found_in
  found_here t = rw (t, found_in)

  found-there : eqb n (e % 65536) ≡ false → found_in n (e ∷ es) ≡ found_in n es
  unfolding found_in
  found-there t = rw (t, found_in)

-- an entry taken apart
entry-name : (p : ℕ × ℕ) → p.0 < 65536 → p.0 ≡ entry_of p % 65536
unfolding entry_of
entry-name p h = omega arith

entry-word : (p : ℕ × ℕ) → p.0 < 65536 → entry_of p / 65536 ≡ p.1
unfolding entry_of
entry-word p h = omega arith

-- the word of what a search found
abbrev word_of : Binding → ℕ
word_of b = unwrap_or b 0

pub near_word : (b : Binding) → Near b → {w : ℕ} → w ≡ unwrap_or b 0 → w < 2 ^ 48
near_word (Some place) h e = rw e h
near_word None h e = omega arith

abbrev or_zero : Option ℕ → ℕ
or_zero none = 0
or_zero (some w) = w

found_word : (n : ℕ) (ps : List (ℕ × ℕ)) → Each Fits ps → unwrap_or (found_in n (map entry_of ps)) 0 ≡ or_zero (lookup n ps)
unfolding found_in lookup entry_of
found_word n [] h = refl
found_word n (p ∷ ps) h =
    split (eqb n p.0)
    (λ t. ap word_of (found_here n (entry_of p) (map entry_of ps) (ap (eqb n) (sym (entry-name p h.0.0)) ∙ t)) ∙ entry-word p h.0.0 ∙ ap or_zero (sym (lookup-here n p ps t)))
    (λ f. ap word_of (found-there n (entry_of p) (map entry_of ps) (ap (eqb n) (sym (entry-name p h.0.0)) ∙ f)) ∙ found_word n ps h.1 ∙ ap or_zero (sym (lookup-there n p ps f)))

or-zero : (o : Option ℕ) → or_zero o ≡ elim o [ none ↦ 0 | some w ↦ w ]
or-zero none = refl
or-zero (some w) = refl

pub word-is : (encl : Enclosure) (es : List ℕ) → Shown encl es → (n : ℕ) → word_in n es ≡ name_word encl n
unfolding word_in name_word
word-is encl es s n =
    ap (λ (l : List ℕ). word_of (found_in n l)) s.same ∙ found_word n (visible_words encl) s.fit ∙ or-zero (lookup n (visible_words encl))

found-short : (n : ℕ) (ps : List (ℕ × ℕ)) → Each Fits ps → Short (or_zero (lookup n ps))
unfolding lookup
found-short n [] h = omega arith
found-short n (p ∷ ps) h =
    split (eqb n p.0) (λ t. rw (lookup-here n p ps t) h.0.1) (λ f. rw (lookup-there n p ps f) (found-short n ps h.1))

pub all_short : (encl : Enclosure) (es : List ℕ) → Shown encl es → AllShort es
unfolding word_in
all_short encl es s n =
    subst Short (sym (ap (λ (l : List ℕ). word_of (found_in n l)) s.same ∙ found_word n (visible_words encl) s.fit)) (found-short n (visible_words encl) s.fit)

pub word-short : (encl : Enclosure) (es : List ℕ) → Shown encl es → (n : ℕ) → Short (name_word encl n)
word-short encl es s n = subst Short (word-is encl es s n) (all_short encl es s n)

-- the word of the name in a field
pub used-short : (bs es : List ℕ) → AllShort es → (o : ℕ) {a : ℕ} → a ≡ used_at bs es o → Short a
unfolding used_at
used-short bs es short o e = subst Short (sym e) (short (field_at bs o))

pub used-is : (bs es : List ℕ) (encl : Enclosure) → Shown encl es → (o n : ℕ) → field_at bs o ≡ n → used_at bs es o ≡ name_word encl n
unfolding used_at
used-is bs es encl s o n e = ap (λ (m : ℕ). word_in m es) e ∙ word-is encl es s n
