use Rattle.std.proofs.Common.{◌≡◌, refl, ◌∙◌, sym, ap, Bool, true, false}
use Rattle.language.specs.Basics.{among}
use Rattle.check_names.proofs.Names.{either, names_slice, seen-hit, seen-miss, seen_none}
use Rattle.check_names.proofs.seen.Goals as goal
use Rattle.check_names.proofs.seen.Goals.{then-name-n, else-name-n}

either_true : (f : Bool) → either f true ≡ true
either_true true = refl
either_true false = refl

either-false : (f : Bool) → either f false ≡ f
either-false true = refl
either-false false = refl

-- what was found and what is left to look at, after a name that is the one, after another, and at the end
hit : (f z : Bool) {x y g : Bool} → x ≡ either f y → y ≡ true → g ≡ true → x ≡ either g z
hit f z p q r = p ∙ ap (either f) q ∙ either_true f ∙ sym (ap (λ (g : Bool). either g z) r)

missed : (f : Bool) {x y z g : Bool} → x ≡ either f y → y ≡ z → g ≡ f → x ≡ either g z
missed f {z = z} p q r = p ∙ ap (either f) q ∙ sym (ap (λ (g : Bool). either g z) r)

done : (f : Bool) {x y : Bool} → x ≡ either f y → y ≡ false → f ≡ x
done f p q = sym (p ∙ ap (either f) q ∙ either-false f)

pub loop-name-preserved : goal.loop-name-preserved
loop-name-preserved c =
    elim c.if-name-n.branch [
      | then-name-n w ↦
          hit c.loop-name.found _ c.loop-name.invariant (seen-hit _ c.args.n c.loop-name.name-index c.loop-name-test.true w.if-name-n.true) w.found-is
      | else-name-n w ↦
          missed c.loop-name.found c.loop-name.invariant
          (seen-miss _ c.args.n c.loop-name.name-index c.loop-name-test.true w.if-name-n.false) w.found-is
    ]

pub returns : goal.returns
returns c =
    done c.loop-name.found c.loop-name.invariant (seen_none _ c.args.n c.loop-name.name-index c.loop-name-test.false)
    ∙ ap (among c.args.n) (names_slice c.args.names.now c.args.base c.args.count)
