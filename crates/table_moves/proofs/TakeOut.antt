-- A pair is taken out: the words after it move down by two, and the two that they leave are set to 0.
use Prim.Native.Nat.{ℕ, zero, suc, ◌+◌, ◌*◌, ◌-◌, ◌/◌, ◌<◌, ◌≤◌, min}
use mathlib.Core.Path.{◌≡◌, refl, sym, ◌∙◌, ap}
use mathlib.Core.List.{List, [], ◌∷◌, ◌++◌}
use native.Mathlib.Nat.{zero-min, min-zero, suc-min-suc}
use native.Mathlib.Omega.{arith}
use lib.IntN.{ℤ, pos}
use lib.ListN.{length, take, drop, set}
use lib.Seq.{paste}
use Rattle.language.specs.Table.{take_out}
use Rattle.laws.specs.Lists.{twice-suc}

-- the two words at i taken out: the n words after them move down by two and the two words after those are set to 0
unfoldable cut : ℕ → ℕ → List ℤ → List ℤ
cut i n [] = []
cut zero n (a ∷ []) = a ∷ []
cut zero n (a ∷ b ∷ ws) = take n ws ++ (pos 0 ∷ pos 0 ∷ drop n ws)
cut (suc i) n (a ∷ ws) = a ∷ cut i n ws

-- the words moved down, and the two words that they leave set to 0
emptied : (n : ℕ) (a b : ℤ) (ws : List ℤ) → n ≤ length ws → set (set (take n ws ++ drop n (a ∷ b ∷ ws)) n (pos 0)) (n + 1) (pos 0) ≡ take n ws ++ (pos 0 ∷ pos 0 ∷ drop n ws)
emptied zero a b ws h = refl
emptied (suc n) a b [] h = absurd (omega arith)
emptied (suc n) a b (w ∷ ws) h =
    let e : suc n + 1 ≡ suc (n + 1) = omega arith in
    rw e (ap (w ∷◌) (emptied n b w ws (omega arith)))

cut-written : (i n : ℕ) (ws : List ℤ) → i + n + 2 ≤ length ws → set (set (paste ws i (drop (i + 2) ws) n) (i + n) (pos 0)) (i + n + 1) (pos 0) ≡ cut i n ws
unfolding cut
cut-written i n [] h = absurd (omega arith)
cut-written zero n (a ∷ []) h = absurd (omega arith)
cut-written zero n (a ∷ b ∷ ws) h =
    let e : 0 + n ≡ n = omega arith in
    rw e (emptied n a b ws (omega arith))
cut-written (suc i) n (a ∷ ws) h =
    let e : suc i + 2 ≡ suc (i + 2) = omega arith in
    let f : suc i + n ≡ suc (i + n) = omega arith in
    let g : suc (i + n) + 1 ≡ suc (i + n + 1) = omega arith in
    rw (e, f, g) (ap (a ∷◌) (cut-written i n ws (omega arith)))

-- ---- the definition's pairs as words

-- no more words move than there are
clamped : (n : ℕ) (ws : List ℤ) → take n ws ++ (pos 0 ∷ pos 0 ∷ drop n ws) ≡ take (min n (length ws)) ws ++ (pos 0 ∷ pos 0 ∷ drop (min n (length ws)) ws)
clamped zero ws = rw (zero-min (length ws))
clamped (suc n) [] = rw (min-zero (suc n))
clamped (suc n) (a ∷ ws) = rw (suc-min-suc n (length ws)) (ap (a ∷◌) (clamped n ws))

take_out-cut : (i k e : ℕ) (ws : List ℤ) → e ≡ min (2 * k) (length ws) → i < e / 2 → take_out i k ws ≡ cut (2 * i) (e - (2 * i + 2)) ws
unfolding take_out cut
take_out-cut i zero e ws h f = absurd (omega arith)
take_out-cut i (suc k) e [] h f = absurd (omega arith)
take_out-cut i (suc k) e (a ∷ []) h f = absurd (omega arith)
take_out-cut zero (suc k) e (a ∷ b ∷ ws) h f =
    let q : e - (2 * 0 + 2) ≡ min (2 * k) (length ws) = omega arith in
    rw q (clamped (2 * k) ws)
take_out-cut (suc i) (suc k) e (a ∷ b ∷ ws) h f =
    let q : e - (2 * suc i + 2) ≡ min (2 * k) (length ws) - (2 * i + 2) = omega arith in
    rw (q, twice-suc i) (ap (λ (l : List ℤ). a ∷ b ∷ l) (take_out-cut i k (min (2 * k) (length ws)) ws refl (omega arith)))

pub take_out-past : (i k : ℕ) (ws : List ℤ) → min (2 * k) (length ws) / 2 ≤ i → ws ≡ take_out i k ws
unfolding take_out
take_out-past i zero ws h = refl
take_out-past i (suc k) [] h = refl
take_out-past i (suc k) (a ∷ []) h = refl
take_out-past zero (suc k) (a ∷ b ∷ ws) h = absurd (omega arith)
take_out-past (suc i) (suc k) (a ∷ b ∷ ws) h = ap (λ (l : List ℤ). a ∷ b ∷ l) (take_out-past i k ws (omega arith))

-- the pair at i taken out of those that end at e
pub take_out-written :
    (i k e : ℕ) (ws : List ℤ) → e ≡ min (2 * k) (length ws) → i < e / 2 →
    set (set (paste ws (2 * i) (drop (2 * i + 2) ws) (e - (2 * i + 2))) (e - 2) (pos 0)) (e - 1) (pos 0) ≡ take_out i k ws
take_out-written i k e ws h f =
    let low : e - 2 ≡ 2 * i + (e - (2 * i + 2)) = omega arith in
    let high : e - 1 ≡ 2 * i + (e - (2 * i + 2)) + 1 = omega arith in
    rw (low, high) (cut-written (2 * i) (e - (2 * i + 2)) ws (omega arith) ∙ sym (take_out-cut i k e ws h f))
