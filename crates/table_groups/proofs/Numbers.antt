-- Words of the list as unsigned numbers: what the machine computes from their bits.
use Rattle.std.proofs.Common.{◌≡◌, ℕ, ◌<◌, ◌≤◌, Bool, true, false, T, ℤ, pos, negsuc, nat_abs, refl, ap, ◌∙◌, subst, arith, w32, Fits, to_z, of_z, leb-true}
use lib.Signed.{mag, non_neg}
use mir.Facts.{to_z_pos}
use Rattle.language.specs.Table.{at_least_one}
use Rattle.table_search.proofs.Signed.{back}

-- a word that is not negative, as an unsigned number
module _ {z : ℤ} {n : ℕ} (e : z ≡ pos n) (h : mag z < 2147483648) where
  pub word-cast : T (non_neg (to_z w32 (of_z w32 z))) × Fits w32 (nat_abs (to_z w32 (of_z w32 z)))
  word-cast = rw (back z h ∙ e) (tt, record { fits = let k : n < 2147483648 = subst (λ (y : ℤ). mag y < 2147483648) e h in omega arith })

  pub word_read : nat_abs (to_z w32 (of_z w32 z)) ≡ n
  word_read = ap nat_abs (back z h ∙ e)

pub word-written : (n m : ℕ) → n ≡ m → m < 2147483648 → to_z w32 n ≡ pos m
word-written n m e h = ap (to_z w32) e ∙ to_z_pos w32 h

pub at_least_one_lem : (z : ℤ) → at_least_one z ≡ true → (z ≡ pos (nat_abs z)) × (1 ≤ nat_abs z)
unfolding at_least_one
at_least_one_lem (pos n) e = (refl, leb-true 1 n e)
at_least_one_lem (negsuc n) e = absurd (let q : ◌≡◌ {A = Bool} false true = e in let y : ◌≡◌ {A = ℕ} 0 1 = cc in omega arith)
