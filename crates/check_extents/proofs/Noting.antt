-- The table of ends: one more noted, and none at the start.
-- Assumes nothing.
use mathlib.Core.Path.{◌≡◌, refl, sym, ◌∙◌, ap, subst}
use mathlib.Core.List.{List}
use mathlib.Core.Bool.{Bool, true, false}
use Prim.Native.Nat.{ℕ, zero, suc, ◌+◌, ◌*◌, ◌/◌, ◌%◌, ◌<◌}
use native.Mathlib.Omega.{arith}
use lib.Dec.{eqb}
use lib.ListN.{get_or, set, replicate, length-set, length-replicate}
use lib.Seq.{get_or-set_same, get_or-set_other}
use borrow.Author.Tests.{eqb-true, eqb-false}
use Rattle.check_extents.specs.Passing.{Skipped, Ends}

abbrev Right : List ℕ → ℕ → Type 0
Right bs e = 0 < e % 65536 → Skipped bs (e / 65536) (e % 65536)

module _ (bs es : List ℕ) (at end k : ℕ) (inside : k < 683) (small : end < 65536) (s : Skipped bs at end) (e : Ends bs es) where
  abbrev put : List ℕ
  put = set es k (65536 * at + end)

  packed : Right bs (65536 * at + end)
  packed p =
      let offset : at ≡ (65536 * at + end) / 65536 = omega arith in
      let rest : end ≡ (65536 * at + end) % 65536 = omega arith in
      subst (λ (o : ℕ). Skipped bs o ((65536 * at + end) % 65536)) offset (subst (Skipped bs at) rest s)

  right-at : (i : ℕ) (b : Bool) → eqb i k ≡ b → Right bs (get_or put i 0)
  right-at i true q =
      subst (Right bs) (sym (ap (λ (j : ℕ). get_or put j 0) (eqb-true i k q) ∙ get_or-set_same es k (65536 * at + end) 0 (omega (arith, e.long)))) packed
  right-at i false q = subst (Right bs) (sym (get_or-set_other es k i (65536 * at + end) 0 (eqb-false i k q))) (e.right i)

  pub ends-noted : Ends bs put
  ends-noted = record {
    long = length-set es k (65536 * at + end) ∙ e.long;
    right = λ i. right-at i (eqb i k) refl;
  }

zeros : (n i : ℕ) → ◌≡◌ {A = ℕ} (get_or (replicate n 0) i 0) 0
zeros zero i = refl
zeros (suc n) zero = refl
zeros (suc n) (suc i) = zeros n i

pub none-noted : (bs : List ℕ) → Ends bs (replicate 683 0)
none-noted bs = record {
  long = length-replicate {A = ℕ} 683 0;
  right = λ i p. absurd (omega (arith, zeros 683 i));
}
