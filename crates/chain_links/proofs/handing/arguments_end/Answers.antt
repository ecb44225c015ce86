-- The next statement is a BK, or has a count of arguments.
use Rattle.std.proofs.Common.{◌≡◌, ℕ, ◌+◌, List, get_or, sym, ap, ◌∙◌, rules, eq-eqb, ne_eqb}
use Rattle.resolved.specs.Layout.{operation_in}
use Rattle.chain_links.specs.Finding.{arguments_end}
use Rattle.chain_links.proofs.handing.arguments_end.Goals as goal

none-there : (code : List ℕ) (at w o : ℕ) → w ≡ get_or code at 0 → o ≡ operation_in w → o ≡ 6 → 3 ≡ arguments_end code at
unfolding arguments_end
none-there code at w o e p six =
    let q : operation_in (get_or code at 0) ≡ 6 = ap operation_in (sym e) ∙ sym p ∙ six in rw (arguments_end, eq-eqb (operation_in (get_or code at 0)) 6 q)

some-there : (code : List ℕ) (at w o n : ℕ) → w ≡ get_or code at 0 → o ≡ operation_in w → (o ≡ 6 → ⊥) → n ≡ get_or code (at + 2) 0 → 3 + n ≡ arguments_end code at
unfolding arguments_end
some-there code at w o n e p d m =
    rw (m, arguments_end, ne_eqb (operation_in (get_or code at 0)) 6 (λ q. d (p ∙ ap operation_in e ∙ q)))

pub returns-then-operation_of-eq-BLOCK : goal.returns-then-operation_of-eq-BLOCK
returns-then-operation_of-eq-BLOCK c = search (rules, none-there)

pub returns : goal.returns
returns c = search (rules, some-there)
