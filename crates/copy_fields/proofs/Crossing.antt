-- Two words of the resolved script written in the other order.
-- Assumes nothing.
use mathlib.Core.Path.{◌≡◌, refl, sym, ◌∙◌, ap, subst}
use mathlib.Core.List.{List, [], ◌∷◌, ◌++◌}
use Prim.Native.Nat.{ℕ, zero, suc, ◌+◌, ◌*◌, ◌-◌, ◌/◌, ◌<◌, ◌≤◌}
use native.Mathlib.Omega.{arith}
use lib.ListN.{length, get_or, replicate, set, length-append, length-replicate}
use lib.Seq.{set_at}
use Rattle.laws.specs.Lists.{set-append-add}
use Rattle.resolved.specs.Resolved.{Covers}
use Rattle.resolve_words.specs.Growth.{Grown}
use Rattle.copy_fields.specs.Naming.{crossed}

crossed-written : (code done : List ℕ) (n a w : ℕ) → Covers code (length done) (a ∷ w ∷ []) → crossed code (done ++ (0 ∷ 0 ∷ replicate n 0)) (length done) ≡ done ++ (w ∷ a ∷ replicate n 0)
unfolding crossed
crossed-written code done n a w h =
    let x = get_or code (length done + 1) 0 in
    let y = get_or code (length done) 0 in
    ap (λ (z : List ℕ). set z (length done + 1) y) (set_at done 0 (0 ∷ replicate n 0) x (length done) refl) ∙ set-append-add done (x ∷ 0 ∷ replicate n 0) 1 y ∙ λ i. done ++ (h.1.0 i ∷ h.0 i ∷ replicate n 0)

pub cross-grows :
    (code c c' : List ℕ) (at from w a : ℕ) → length c ≡ 4096 → from ≡ at / 2 → (from + 1 < 4096 → c' ≡ crossed code c from) → Covers code from (a ∷ w ∷ []) →
    Grown c c' at (w ∷ a ∷ [])
cross-grows code c c' at from w a long f e h = record { grown = λ done n p s l. go done n p s l }
  where
    go : (done : List ℕ) (n : ℕ) → 2 * length done ≡ at → c ≡ done ++ replicate n 0 → 2 ≤ n → c' ≡ done ++ (w ∷ a ∷ replicate (n - 2) 0)
    go done zero p s l = absurd (omega arith)
    go done (suc zero) p s l = absurd (omega arith)
    go done (suc (suc n)) p s l =
        let q : from ≡ length done = omega arith in
        let k : n ≡ suc (suc n) - 2 = omega arith in
        let total = sym long ∙ ap length s ∙ length-append done (replicate {A = ℕ} (suc (suc n)) 0) in
        let many = length-replicate {A = ℕ} (suc (suc n)) 0 in
        e (omega arith) ∙ (λ i. crossed code (s i) (q i)) ∙ crossed-written code done n a w (subst (λ (x : ℕ). Covers code x (a ∷ w ∷ [])) q h) ∙ ap (λ (j : ℕ). done ++ (w ∷ a ∷ replicate j 0)) k
