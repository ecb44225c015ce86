-- Lists of tests with their refusals: the refusal due is that of the first test that fails. `due-exactly` is the law; an engine that makes
-- its tests one after another follows them with `fails-here` and `holds-here`.
use Rattle.std.specs.Prelude.{Bool, List, [], ◌∷◌, ◌++◌, ◌↔◌, ◌≡◌, refl}
use Rattle.std.proofs.Math.Bool.{true, false}
use Rattle.std.proofs.Math.Option.{Option, none, some}
use Rattle.std.proofs.Common.{sym, ◌∙◌}
use Rattle.std.proofs.Math.Path.{ap}
use Rattle.language.specs.Call.{Test, first_failing}
use Rattle.language.specs.declared.Refusal.{Refusal}
use Rattle.laws.specs.Tests.{split, none≢some, some_inj}
use Rattle.laws.specs.Each.{Each}

abbrev pub AllHold : List Test → Type 0
AllHold ts = Each (λ (t : Test). t.holds ≡ true) ts

-- a test with the refusal c fails, and all before it hold
pub record FailsFirst (ts : List Test) (c : Refusal) : Type 0 where
  pub earlier : List Test
  pub test : Test
  pub later : List Test
  pub order : ts ≡ earlier ++ (test ∷ later)
  pub hold : AllHold earlier
  pub fails : test.holds ≡ false
  pub refuses : test.otherwise ≡ c

module _ (t : Test) (ts : List Test) where
  pub fails-here : t.holds ≡ false → first_failing (t ∷ ts) ≡ some t.otherwise
  unfolding first_failing
  fails-here e = ap (λ (b : Bool). elim b as (λ x. Option Refusal) [ true ↦ first_failing ts | false ↦ some t.otherwise ]) e

  pub holds-here : t.holds ≡ true → first_failing (t ∷ ts) ≡ first_failing ts
  unfolding first_failing
  holds-here e = ap (λ (b : Bool). elim b as (λ x. Option Refusal) [ true ↦ first_failing ts | false ↦ some t.otherwise ]) e

none-failing : first_failing [] ≡ none
unfolding first_failing
none-failing = refl

-- a test that fails after others that hold
pub fails-after : (earlier : List Test) (t : Test) (later : List Test) → AllHold earlier → t.holds ≡ false → first_failing (earlier ++ (t ∷ later)) ≡ some t.otherwise
fails-after [] t later h e = fails-here t later e
fails-after (u ∷ us) t later h e = holds-here u (us ++ (t ∷ later)) h.0 ∙ fails-after us t later h.1 e

pub all_hold : (ts : List Test) → AllHold ts → first_failing ts ≡ none
all_hold [] h = none-failing
all_hold (t ∷ ts) h = holds-here t ts h.0 ∙ all_hold ts h.1

found-failing : (ts : List Test) (c : Refusal) → first_failing ts ≡ some c → FailsFirst ts c
found-failing [] c q = none≢some (sym none-failing ∙ q)
found-failing (t ∷ ts) c q =
    split t.holds
    (λ e. let r = found-failing ts c (sym (holds-here t ts e) ∙ q) in
    record { earlier = t ∷ r.earlier; test = r.test; later = r.later; order = ap (◌∷◌ t) r.order; hold = (e, r.hold); fails = r.fails; refuses = r.refuses })
    (λ e. record { earlier = []; test = t; later = ts; order = refl; hold = tt; fails = e; refuses = some_inj (sym (fails-here t ts e) ∙ q) })

none_found : (ts : List Test) → first_failing ts ≡ none → AllHold ts
none_found [] q = tt
none_found (t ∷ ts) q = split t.holds (λ e. (e, none_found ts (sym (holds-here t ts e) ∙ q))) (λ e. none≢some (sym q ∙ fails-here t ts e))

-- A refusal is due exactly when its test fails and all before it hold; none is due exactly when all hold.
pub due-exactly : (ts : List Test) (c : Refusal) → (first_failing ts ≡ some c) ↔ FailsFirst ts c
due-exactly ts c =
    (found-failing ts c, λ r. ap first_failing r.order ∙ fails-after r.earlier r.test r.later r.hold r.fails ∙ ap some r.refuses)

pub none-exactly : (ts : List Test) → (first_failing ts ≡ none) ↔ AllHold ts
none-exactly ts = (none_found ts, all_hold ts)
