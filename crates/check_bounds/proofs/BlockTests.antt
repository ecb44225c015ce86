-- A block's own record: the cases of `opened_of`. Assumes nothing.
use Rattle.std.specs.Prelude.{Ok, Err}
use mathlib.Core.Path.{◌≡◌, refl, sym, ◌∙◌}
use mathlib.Core.Bool.{Bool, true, false}
use Prim.Native.Nat.{ℕ, zero, suc, ◌+◌, ◌<◌, ◌≤◌}
use native.Mathlib.Omega.{arith}
use lib.Dec.{leb}
use borrow.Author.Tests.{le-leb, lt-leb, leb-true, leb-false}
use Rattle.language.specs.declared.Refusal.TheVariants.{NestingDepth, TooManyNames}
use Rattle.language.specs.Faults.{fault, Progress}
use Rattle.check_bounds.specs.Judging.{opened_of}

module _ (at next d held : ℕ) where
  pub opened-deep : (left : ℕ) → left ≡ 0 → Err (fault NestingDepth at) ≡ opened_of left at next d held
  unfolding opened_of
  opened-deep zero e = refl
  opened-deep (suc left) e = absurd (omega arith)

  pub opened-many : (left : ℕ) → (left ≡ 0 → ⊥) → 32 < held + d → Err (fault TooManyNames at) ≡ opened_of left at next d held
  unfolding opened_of
  opened-many zero pos h = absurd (pos refl)
  opened-many (suc left) pos h = rw (lt-leb (held + d) 32 h, opened_of)

  pub opened-fits : (left : ℕ) → (left ≡ 0 → ⊥) → held + d ≤ 32 → Ok next ≡ opened_of left at next d held
  unfolding opened_of
  opened-fits zero pos h = absurd (pos refl)
  opened-fits (suc left) pos h = rw (le-leb (held + d) 32 h, opened_of)

-- a block that passes has a level and room for its names
pub record Passed (left next d held first : ℕ) : Type 0 where
  pub positive : left ≡ 0 → ⊥
  pub few : held + d ≤ 32
  pub from_is : first ≡ next

passes : (left at next d held first : ℕ) → opened_of left at next d held ≡ Ok first → Passed left next d held first
unfolding opened_of
passes zero at next d held first e = let z : ◌≡◌ {A = ℕ} 0 1 = cc in absurd (omega arith)
passes (suc left) at next d held first e = go (leb (held + d) 32) refl
  where
    go : (b : Bool) → leb (held + d) 32 ≡ b → Passed (suc left) next d held first
    go true h =
        let w = leb-true (held + d) 32 h in
        let f : opened_of (suc left) at next d held ≡ Ok next = sym (opened-fits at next d held (suc left) (λ z. omega arith) w) in
        record { positive = λ z. omega arith; few = w; from_is = cc }
    go false h =
        let f : opened_of (suc left) at next d held ≡ Err (fault TooManyNames at) = sym (opened-many at next d held (suc left) (λ z. omega arith) (leb-false (held + d) 32 h)) in
        let z : ◌≡◌ {A = ℕ} 0 1 = cc in absurd (omega arith)

pub opened-passed : (left at next d held : ℕ) {r : Progress} {first : ℕ} → r ≡ opened_of left at next d held → r ≡ Ok first → Passed left next d held first
opened-passed left at next d held {first = first} e q = passes left at next d held first (sym e ∙ q)
