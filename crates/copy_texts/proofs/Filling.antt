-- Fields of the script put into an array one after another.
use Prim.Native.Nat.{ℕ, ◌+◌, ◌*◌, ◌<◌}
use native.Mathlib.Omega.{arith}
use mathlib.Core.Bool.{Bool, true, false}
use mathlib.Core.List.{List}
use mathlib.Core.Path.{◌≡◌, refl, ◌∙◌}
use borrow.Author.Tests.{eqb-true, eqb-false}
use lib.Dec.{eqb}
use lib.ListN.{length, get_or, set}
use lib.Seq.{get_or-set_same, get_or-set_other}
use Rattle.laws.specs.Fields.{field_at}

pub field-read : (bs : List ℕ) (at x : ℕ) → x ≡ get_or bs at 0 + 256 * get_or bs (at + 1) 0 → x ≡ field_at bs at
unfolding field_at
field-read bs at x e = e

pub filled_more :
    (script area : List ℕ) (i x : ℕ) → i < length area → x ≡ field_at script (2 * i) → ((j : ℕ) → j < i → get_or area j 0 ≡ field_at script (2 * j)) →
    (j : ℕ) → j < i + 1 → get_or (set area i x) j 0 ≡ field_at script (2 * j)
filled_more script area i x there e before j h = go (eqb j i) refl
  where
    go : (t : Bool) → eqb j i ≡ t → get_or (set area i x) j 0 ≡ field_at script (2 * j)
    go true t = let s : j ≡ i = eqb-true j i t in rw s (get_or-set_same area i x 0 there ∙ e)
    go false t = let s : j ≡ i → ⊥ = eqb-false j i t in get_or-set_other area i j x 0 s ∙ before j (omega arith)
