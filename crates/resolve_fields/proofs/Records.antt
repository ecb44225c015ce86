-- What is written of one record: values for the names after its mark, and after its second field.
-- Assumes nothing.
use mathlib.Core.Path.{◌≡◌, refl, sym, ◌∙◌, ap, subst}
use mathlib.Core.List.{List, [], ◌∷◌, ◌++◌}
use Prim.Native.Nat.{ℕ, zero, suc, ◌+◌, ◌*◌, ◌/◌}
use native.Mathlib.Omega.{arith}
use lib.ListN.{length, replicate}
use Rattle.laws.specs.Fields.{field_at}
use Rattle.resolve_words.specs.Growth.{Grown}
use Rattle.resolve_words.proofs.Growth.{grown-nothing, grown-zero, grown-then, grown-more}
use Rattle.resolve_fields.specs.Taking.{taken, Gives, leading, trailing}
use Rattle.resolve_fields.proofs.Taking.{take-grows}

pub zeros-grow : (c : List ℕ) (at n : ℕ) → Grown c c at (replicate n 0)
zeros-grow c at zero = grown-nothing c at
zeros-grow c at (suc n) = grown-more refl (grown-zero c at) (zeros-grow c (at + 2) n)

module _ (bs : List ℕ) (value : ℕ → ℕ) (c c1 c2 : List ℕ) (at k m : ℕ) (first : c1 ≡ taken value c (at / 2 + 1) k) (second : c2 ≡ taken value c1 (at / 2 + 3) m) (k-is : k ≡ leading (field_at bs at)) (m-is : m ≡ trailing (field_at bs at) (field_at bs (at + 4))) where
  first-grows : (mark : ℕ) (ws : List ℕ) → field_at bs at ≡ mark → leading mark ≡ length ws → Gives value (at / 2 + 1) ws → Grown c c1 (at + 2) ws
  first-grows mark ws q e h = take-grows value c c1 (at + 2) (at / 2 + 1) k ws (omega arith) (k-is ∙ ap leading q ∙ e) first h

  -- names after the mark alone, then n other fields
  pub few : (mark : ℕ) (ws : List ℕ) (n : ℕ) → field_at bs at ≡ mark → leading mark ≡ length ws → trailing mark (field_at bs (at + 4)) ≡ 0 → Gives value (at / 2 + 1) ws
      → Grown c c2 at (0 ∷ (ws ++ replicate n 0))
  unfolding taken
  few mark ws n q e z h =
      let none : m ≡ 0 = m-is ∙ ap (λ (x : ℕ). trailing x (field_at bs (at + 4))) q ∙ z in
      let same : c1 ≡ c2 = sym (second ∙ ap (taken value c1 (at / 2 + 3)) none) in
      let after = at + 2 + 2 * length ws in
      grown-more refl (grown-zero c at) (grown-then refl (first-grows mark ws q e h) (subst (λ (l : List ℕ). Grown c1 l after (replicate n 0)) same (zeros-grow c1 after n)))

  -- one name after the mark and others after the second field
  pub many : (mark w : ℕ) (ws : List ℕ) → field_at bs at ≡ mark → leading mark ≡ 1 → trailing mark (field_at bs (at + 4)) ≡ length ws → Gives value (at / 2 + 1) (w ∷ [])
      → Gives value (at / 2 + 1 + 1 + 1) ws → Grown c c2 at (0 ∷ w ∷ 0 ∷ ws)
  many mark w ws q e f g h =
      let p : at / 2 + 1 + 1 + 1 ≡ at / 2 + 3 = omega arith in
      let number : m ≡ length ws = m-is ∙ ap (λ (x : ℕ). trailing x (field_at bs (at + 4))) q ∙ f in
      let rest = take-grows value c1 c2 (at + 2 + 2 + 2) (at / 2 + 3) m ws (omega arith) number second (subst (λ (o : ℕ). Gives value o ws) p h) in
      grown-more refl (grown-zero c at) (grown-more refl (first-grows mark (w ∷ []) q e g) (grown-more refl (grown-zero c1 (at + 2 + 2)) rest))
