-- From what is read: the operation, and the name's level.
use Rattle.std.proofs.Common.{◌≡◌, ℕ, ◌+◌, ◌-◌, ◌≤◌, List, get_or, sym, ap, ◌∙◌, subst, rules}
use Rattle.resolved.specs.Resolved.{level_in}
use Rattle.resolved.specs.Layout.{operation_in}
use Rattle.run_state.specs.declared.Registers.{Registers}
use Rattle.chain_step.specs.Acted.{only_hops, none-hops, some-hops}
use Rattle.chain_step.proofs.acted.only_hops.Goals as goal

module _ (code : List ℕ) (here : Registers) (w o : ℕ) (head : w ≡ get_or code here.at 0) (is : o ≡ operation_in w) where
  block : o ≡ 6 → 0 ≡ only_hops code here
  block e = none-hops code here (ap operation_in (sym head) ∙ sym is ∙ e)

  module _ (other : o ≡ 6 → ⊥) (v l : ℕ) (name : v ≡ get_or code (here.at + 1) 0) (level : l ≡ level_in v) where
    no_block : operation_in (get_or code here.at 0) ≡ 6 → ⊥
    no_block e = other (is ∙ ap operation_in head ∙ e)

    level-is : l ≡ level_in (get_or code (here.at + 1) 0)
    level-is = level ∙ ap level_in name

    outer : ((operation_in (get_or code here.at 0) ≡ 6 → ⊥) → level_in (get_or code (here.at + 1) 0) ≤ here.level) → l ≤ here.level
    outer within = subst (λ n. n ≤ here.level) (sym level-is) (within no_block)

    named : here.level - l ≡ only_hops code here
    named = ap (λ n. here.level - n) level-is ∙ some-hops code here no_block

pub returns-then-operation_of-eq-BLOCK : goal.returns-then-operation_of-eq-BLOCK
returns-then-operation_of-eq-BLOCK c = search (rules, block)

pub overflow_sub-result : goal.overflow_sub-result
overflow_sub-result c = search (rules, outer)

pub returns : goal.returns
returns c = search (rules, named)
