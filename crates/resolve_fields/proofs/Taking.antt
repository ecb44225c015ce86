-- Values written one after the other.
-- Assumes nothing.
use mathlib.Core.Path.{◌≡◌, refl, sym, ◌∙◌, ap, subst}
use mathlib.Core.List.{List, [], ◌∷◌, ◌++◌, append_assoc}
use Prim.Native.Nat.{ℕ, zero, suc, ◌+◌, ◌-◌, ◌/◌, ◌<◌, ◌≤◌}
use native.Mathlib.Omega.{arith}
use lib.ListN.{length, replicate, set, length-append}
use lib.Seq.{set_at, set_out}
use Rattle.resolved.specs.Resolved.{Covers}
use Rattle.resolve_words.specs.Growth.{Grown}
use Rattle.resolve_fields.specs.Taking.{word_there, taken, Gives}

-- one value more, or a place past the end
pub taken_next :
    (value : ℕ → ℕ) (words words' ws : List ℕ) (place end : ℕ) → place < end → words' ≡ set words place (value place) → taken value words place (end - place) ≡ ws →
    taken value words' (place + 1) (end - (place + 1)) ≡ ws
unfolding taken
taken_next value words words' ws place end l e h =
    let k : end - place ≡ suc (end - (place + 1)) = omega arith in
    ap (λ (x : List ℕ). taken value x (place + 1) (end - (place + 1))) e ∙ ap (λ (n : ℕ). taken value words place n) (sym k) ∙ h

-- all are still to take
pub taken-first : (value : ℕ → ℕ) (words : List ℕ) (from count : ℕ) → taken value words from (from + count - from) ≡ taken value words from count
taken-first value words from count = let k : from + count - from ≡ count = omega arith in ap (taken value words from) k

-- none is left to take
pub taken-all : (value : ℕ → ℕ) (words ws : List ℕ) (p count i : ℕ) → count ≤ i → taken value words p (count - i) ≡ ws → words ≡ ws
unfolding taken
taken-all value words ws p count i l h = let z : 0 ≡ count - i = omega arith in ap (taken value words p) z ∙ h

pub past_end : (words : List ℕ) (i w : ℕ) → length words ≡ 4096 → 4096 ≤ i → words ≡ set words i w
past_end words i w long h = sym (set_out words i w (omega arith))

-- values where zeros stood
taken-written :
    (value : ℕ → ℕ) (done : List ℕ) (n : ℕ) (ws : List ℕ) → Gives value (length done) ws → length ws ≤ n →
    taken value (done ++ replicate n 0) (length done) (length ws) ≡ done ++ (ws ++ replicate (n - length ws) 0)
unfolding taken
taken-written value done n [] h l = let e : n ≡ n - 0 = omega arith in ap (λ (k : ℕ). done ++ replicate k 0) e
taken-written value done zero (w ∷ ws) h l = absurd (omega arith)
taken-written value done (suc n) (w ∷ ws) h l =
    let more = done ++ (w ∷ []) in
    let p : length more ≡ length done + 1 = length-append done (w ∷ []) in
    let k : n - length ws ≡ suc n - suc (length ws) = omega arith in
    let put : set (done ++ (0 ∷ replicate n 0)) (length done) (value (length done)) ≡ more ++ replicate n 0 =
    set_at done 0 (replicate n 0) (value (length done)) (length done) refl ∙ ap (λ (x : ℕ). done ++ (x ∷ replicate n 0)) h.0 ∙ sym (append_assoc done (w ∷ []) (replicate n 0)) in
    (λ i. taken value (put i) (sym p i) (length ws))
    ∙ taken-written value more n ws (subst (λ (q : ℕ). Gives value q ws) (sym p) h.1) (omega arith)
    ∙ append_assoc done (w ∷ []) (ws ++ replicate (n - length ws) 0)
    ∙ ap (λ (j : ℕ). done ++ (w ∷ (ws ++ replicate j 0))) k

pub take-grows :
    (value : ℕ → ℕ) (c c' : List ℕ) (at from count : ℕ) (ws : List ℕ) → from ≡ at / 2 → count ≡ length ws → c' ≡ taken value c from count → Gives value from ws →
    Grown c c' at ws
take-grows value c c' at from count ws f k e h =
    record {
      grown = λ done n p s l.
          let q : from ≡ length done = omega arith in
          e ∙ (λ i. taken value (s i) (q i) (k i)) ∙ taken-written value done n ws (subst (λ (x : ℕ). Gives value x ws) q h) l;
    }

-- the words of a list, as values
pub covers-gives : (code : List ℕ) (p : ℕ) (ws : List ℕ) → Covers code p ws → Gives (word_there code) p ws
covers-gives code p [] h = tt
covers-gives code p (w ∷ ws) h = (h.0, covers-gives code (p + 1) ws h.1)
