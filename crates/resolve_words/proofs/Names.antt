-- The words of a declaration's name.
-- Assumes nothing.
use mathlib.Core.Path.{◌≡◌, refl, ◌∙◌, subst}
use mathlib.Core.List.{List, [], ◌∷◌}
use Prim.Native.Nat.{ℕ, ◌+◌, ◌/◌, ◌%◌}
use lib.ListN.{set}
use Rattle.resolve_words.specs.Growth.{Grown}
use Rattle.resolve_words.specs.Visible.{used_at, Named}
use Rattle.resolve_words.proofs.Growth.{grown-zero, put-grows, grown-more}
use Rattle.resolve_words.proofs.Lookups.{all_short, used-short, used-is}

module _ (bs es : List ℕ) (at : ℕ) (c c' : List ℕ) where
  pub name-grown : (w : ℕ) → w ≡ used_at bs es (at + 2) → c' ≡ set c ((at + 2) / 2) (w % 4294967296) → Named bs es at c c'
  name-grown w e p n encl s q =
      subst (λ (v : ℕ). Grown c c' at (0 ∷ v ∷ [])) (e ∙ used-is bs es encl s (at + 2) n q)
      (grown-more refl (grown-zero c at) (put-grows p (used-short bs es (all_short encl es s) (at + 2) e)))
