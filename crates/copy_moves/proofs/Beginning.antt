-- The program's start, in numbers: what its functions ask holds of the area once the script is in it, and what they make is what `BegunIn` says.
use Prim.Native.Nat.{ℕ, ◌+◌, ◌*◌, ◌-◌, ◌/◌, ◌<◌}
use native.Mathlib.Omega.{arith}
use mathlib.Core.List.{List}
use mathlib.Core.Logic.{inl}
use mathlib.Core.Path.{◌≡◌, refl, sym, ap, ◌∙◌, subst}
use lib.ListN.{length, get_or, set}
use Rattle.laws.specs.Tests.{never}
use Rattle.laws.specs.Fields.{field_at}
use Rattle.resolved.specs.Resolved.{level_in, direct}
use Rattle.resolved.specs.Layout.{first_in}
use Rattle.copy_texts.specs.Texts.{renewed, Copied, noted_from}
use Rattle.copy_texts.specs.Copying.{Renewable, Copyable}
use Rattle.copy_entry.specs.Anew.{names_at, end_at}
use Rattle.copy_moves.specs.Begun.{Beginnable, BegunIn}

module _ {script code names area : List ℕ} (w : Beginnable script code names area) {filled : List ℕ} (as_long : length filled ≡ length area) where
  pub start-renewable : {word : ℕ} → word ≡ get_or code 2 0 → Renewable filled 0 1 65536 word
  start-renewable word-is =
      record {
        fits = omega arith;
        argument = λ l d. never (w.no-formal-looked (ap level_in (sym word-is) ∙ l)) (ap direct (sym word-is) ∙ d);
      }

  module _ {end : ℕ} (end_is : end ≡ end_at code 0) where
    pub start-copyable : Copyable filled names 0 0 0 1 65536 0 0 end
    start-copyable =
        record {
          ordered = omega arith;
          script = omega (arith, end_is, w.text-within);
          old-room = omega (arith, end_is, w.text-there);
          new-room = omega (arith, end_is, w.text-there);
          apart = inl refl;
          fits = omega arith;
          noting = omega arith;
          arguments = λ q l h e d. never (w.no-formals q (omega (arith, end_is)) e) d;
        }

    pub begun : {at count word new pairs : ℕ} → at ≡ first_in (get_or code 1 0) → count ≡ names_at code 0 → word ≡ get_or code 2 0
        → {firsts targets looked area' targets' : List ℕ}
        → ((i : ℕ) → i < length script / 2 → get_or filled i 0 ≡ field_at script (2 * i))
        → new ≡ renewed filled 0 1 65536 word 0
        → Copied filled area' names 0 0 0 1 65536 0 end
        → targets' ≡ noted_from targets names 0 1 0 (end - 0)
        → BegunIn script code names area firsts targets looked pairs area' (set firsts 0 65536) targets' (set looked 0 new)
        (record { live = 0; at = at; end = end; pairs = pairs; level = 0; fresh = 65536 + count })
    begun {pairs} at-is count-is word-is {targets} {looked} {area'} f r k t =
        record {
          filled = filled;
          fields = f;
          as_long = as_long;
          copied = subst (λ (b : ℕ). Copied filled area' names 0 0 0 1 65536 0 b) end_is k;
          targets-are = t ∙ ap (noted_from targets names 0 1 0) (omega (arith, end_is));
          firsts-are = refl;
          looked-is = ap (set looked 0) (r ∙ ap (λ (x : ℕ). renewed filled 0 1 65536 x 0) word-is);
          registers-are = λ i. record { live = 0; at = at-is i; end = end_is i; pairs = pairs; level = 0; fresh = 65536 + count-is i };
        }
