-- One formal held: what `held_of` and `names_with` come to, and that the formals before it and this one go before those that are left. Assumes nothing.
use Rattle.std.specs.Prelude.{Ok, Err}
use mathlib.Core.Path.{◌≡◌, refl, sym, ◌∙◌, ap, subst}
use mathlib.Core.Bool.{Bool, true, false}
use mathlib.Core.List.{List, []}
use Prim.Native.Nat.{ℕ, ◌+◌, ◌<◌, ◌≤◌}
use lib.Dec.{leb}
use lib.ListN.{length, take, set}
use borrow.Author.Tests.{le-leb, lt-leb, leb-true, leb-false}
use Rattle.language.specs.Basics.{among}
use Rattle.language.specs.Structure.{refuse, formals}
use Rattle.language.specs.declared.Refusal.{Refusal}
use Rattle.language.specs.declared.Refusal.TheVariants.{FieldRange, NameTwice}
use Rattle.check_marks.specs.declared.Mark.{Mark}
use Rattle.check_marks.specs.declared.Place.TheVariants.{Formal as AFormal}
use Rattle.check_records.specs.declared.Reading.{Reading}
use Rattle.check_records.specs.declared.Reading.TheVariants.{Taken, Refused}
use Rattle.language.specs.Faults.{fault, Progress}
use Rattle.check_records.specs.Taking.{unread, record_at, forget}
use Rattle.check_names.specs.Naming.{names_at, NamesOf}
use Rattle.check_names.specs.Holding.{held_of, names_with}
use Rattle.check_names.proofs.Names.{front-set}
use Rattle.check_names.proofs.FormalLaws.{SoFar, refused-there, wrong-kind, named-twice, one_more, post-refused}

-- each law takes what was read, and which reading that is
module _ {x : Reading} (at : ℕ) (ns : List ℕ) where
  pub held-refused : {c : Refusal} {o : ℕ} → x ≡ Refused c o → held_of x at ns ≡ Err (fault c o)
  unfolding held_of
  held-refused e = rw e refl

  module _ {m : Mark} {next f0 f1 f2 f3 : ℕ} (e : x ≡ Taken m next f0 f1 f2 f3) where
    pub held-range : 2 < f1 → held_of x at ns ≡ Err (fault FieldRange at)
    unfolding held_of
    held-range h = rw (e, lt-leb f1 2 h, held_of)

    pub held-twice : {b : Bool} → f1 ≤ 2 → b ≡ among f0 ns → b ≡ true → held_of x at ns ≡ Err (fault NameTwice at)
    unfolding held_of
    held-twice h s t = rw (e, le-leb f1 2 h, sym s ∙ t, held_of)

    pub held_next : {b : Bool} → f1 ≤ 2 → b ≡ among f0 ns → b ≡ false → held_of x at ns ≡ Ok next
    unfolding held_of
    held_next h s t = rw (e, le-leb f1 2 h, sym s ∙ t, held_of)

module _ (x : Reading) (ns : List ℕ) (k : ℕ) where
  pub kept-names : {r : Progress} {c : Refusal} {o : ℕ} → r ≡ Err (fault c o) → ns ≡ names_with r x ns k
  unfolding names_with
  kept-names e = rw e refl

  pub with-name : (n : ℕ) {next f0 f1 f2 f3 : ℕ} {m : Mark} → x ≡ Taken m next f0 f1 f2 f3 → set ns k f0 ≡ names_with (Ok n) x ns k
  unfolding names_with
  with-name n e = rw e refl

module _ {bs : List ℕ} {p start base : ℕ} {names : List ℕ} {at i : ℕ} (so : SoFar bs p start base names at i) (h : i < p) (room : base + i < length names)
    {x : Reading} (f : x ≡ record_at AFormal bs at) where
  abbrev ns : List ℕ
  ns = names_at names base i

  -- the formals so far, with this one; or what all of them come to
  abbrev After : Progress → List ℕ → Type 0
  After (Ok next) names' = SoFar bs p start base names' next (i + 1)
  After (Err e) names' = formals p [] start (unread bs start) ≡ refuse e.cause e.offset

  abbrev Came : Progress → Reading → Type 0
  Came r y = After r (names_with r y names (base + i))

  came : (y : Reading) → x ≡ y → Came (held_of x at ns) x
  unfolding names_with
  came (Refused c o) e = subst (λ (r : Progress). Came r x) (sym (held-refused at ns e)) (refused-there so h f e)
  came (Taken m next f0 f1 f2 f3) e = go (leb f1 2) (among f0 ns) refl refl
    where
      go : (a b : Bool) → leb f1 2 ≡ a → among f0 ns ≡ b → Came (held_of x at ns) x
      go false b l q = let w = leb-false f1 2 l in subst (λ (r : Progress). Came r x) (sym (held-range at ns e w)) (wrong-kind so h f e w)
      go true true l q =
          let w = leb-true f1 2 l in subst (λ (r : Progress). Came r x) (sym (held-twice at ns e w refl q)) (named-twice so h f e w refl q)
      go true false l q =
          let w = leb-true f1 2 l in
          subst (λ (r : Progress). Came r x) (sym (held_next at ns e w refl q))
          (subst (λ (us : List ℕ). SoFar bs p start base us next (i + 1)) (with-name x names (base + i) next e) (one_more so h f e w refl q room))

  module _ {r : Progress} {names' : List ℕ} (judged : r ≡ held_of x at ns) (held : names' ≡ names_with r x names (base + i)) where
    after : After r names'
    after = subst (After r) (sym held) (subst (λ (q : Progress). Came q x) (sym judged) (came x refl))

    pub front-kept-by : take base names' ≡ take base names
    unfolding names_with
    front-kept-by = ap (take base) held ∙ go r x
      where
        go : (q : Progress) (y : Reading) → take base (names_with q y names (base + i)) ≡ take base names
        go (Ok n) (Taken m next f0 f1 f2 f3) = front-set names base i f0
        go (Ok n) (Refused c o) = refl
        go (Err e) y = refl

    pub goes_on : {next : ℕ} → r ≡ Ok next → SoFar bs p start base names' next (i + 1)
    goes_on e = subst (λ (q : Progress). After q names') e after

    pub ends_there : {c : Refusal} {o : ℕ} → r ≡ Err (fault c o)
        → (Err (fault c o) ≡ forget (formals p [] start (unread bs start))) × NamesOf (formals p [] start (unread bs start)) (names_at names' base p)
    ends_there e = post-refused _ (names_at names' base p) (subst (λ (q : Progress). After q names') e after)
