-- One word: what it becomes, and what is noted of it, by the tests of its word.
use Prim.Native.Nat.{ℕ, ◌+◌}
use mathlib.Core.Bool.{Bool, true, false}
use mathlib.Core.List.{List}
use mathlib.Core.Path.{◌≡◌, refl}
use borrow.Author.Tests.{eq-eqb, ne_eqb}
use lib.Dec.{eqb}
use lib.ListN.{get_or, set}
use Rattle.resolved.specs.Resolved.{position_in, formal_in, level_in, target_in, direct}
use Rattle.copy_texts.specs.Texts.{renewed, noted}

pub is-direct : (w : ℕ) → formal_in w ≡ 0 → direct w ≡ true
unfolding direct
is-direct w e = eq-eqb _ _ e

pub is-formal : (w : ℕ) → (formal_in w ≡ 0 → ⊥) → direct w ≡ false
unfolding direct
is-formal w d = ne_eqb _ _ d

module _ (area : List ℕ) (given level first w old : ℕ) where
  pub renewed-kept : (level_in w ≡ level → ⊥) → old ≡ renewed area given level first w old
  unfolding renewed
  renewed-kept d = rw (ne_eqb _ _ d, renewed)

  pub renewed-new : level_in w ≡ level → direct w ≡ true → first + position_in w ≡ renewed area given level first w old
  unfolding renewed
  renewed-new e d = rw (eq-eqb _ _ e, renewed, d)

  pub renewed-formal : level_in w ≡ level → direct w ≡ false → get_or area (given + position_in w) 0 ≡ renewed area given level first w old
  unfolding renewed
  renewed-formal e d = rw (eq-eqb _ _ e, renewed, d)

module _ (targets : List ℕ) (lowest level w : ℕ) where
  pub noted-new : level_in w ≡ level → direct w ≡ true → set targets (lowest + position_in w) (target_in w) ≡ noted targets lowest level w
  unfolding noted
  noted-new e d = rw (eq-eqb _ _ e, noted, d)

  pub noted-formal : direct w ≡ false → targets ≡ noted targets lowest level w
  unfolding noted
  noted-formal d = go (eqb (level_in w) level) refl
    where
      go : (t : Bool) → eqb (level_in w) level ≡ t → targets ≡ noted targets lowest level w
      go true e = rw (e, noted, d)
      go false e = rw (e, noted)

  pub noted_other : (level_in w ≡ level → ⊥) → targets ≡ noted targets lowest level w
  unfolding noted
  noted_other d = rw (ne_eqb _ _ d, noted)
