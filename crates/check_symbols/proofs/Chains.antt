-- Chains of entries: what a head and a link pass over, and an entry that is inserted or removed.
-- Assumes nothing.
use mathlib.Core.Path.{◌≡◌, sym, ◌∙◌, ap}
use mathlib.Core.List.{List}
use mathlib.Core.Logic.{⊎_elim, ◌⊎◌, inl, inr}
use Prim.Native.Nat.{ℕ, zero, suc, ◌+◌, ◌-◌, ◌%◌, ◌<◌, ◌≤◌, max}
use native.Mathlib.Nat.{mod-mod_of_dvd, mod-lt, dvd-mul_left, eq-zero-or-pos, eq-or-lt_of_le}
use native.Mathlib.Omega.{arith}
use lib.ListN.{length, get_or, take, drop, set, length-set}
use lib.Seq.{get_or-set_same, get_or-set_other, drop-set-lt, get_or-drop, get_or-take, drop-drop}
use Rattle.check_symbols.specs.Entries.{found_in}
use Rattle.check_symbols.specs.Chains.{Chained}
use Rattle.check_symbols.proofs.Entries.{found-later, found_none}

-- a name's remainder is its entry's
remainder : (e n : ℕ) → e % 65536 ≡ n → e % 256 ≡ n % 256
remainder e n p = sym (mod-mod_of_dvd 256 {b = 65536} e (dvd-mul_left 256 256)) ∙ ap (λ (x : ℕ). x % 256) p

-- entries with other names are passed over
pub one : (n : ℕ) (es : List ℕ) (i : ℕ) → (i < length es → get_or es i 0 % 65536 ≡ n → ⊥) → found_in n (drop (i + 1) es) ≡ found_in n (drop i es)
one n es i other =
    ⊎_elim
    (λ z. found_none n es (i + 1) (omega arith) ∙ sym (found_none n es i (omega arith)))
    (λ p. sym (found-later n es i (omega arith) (other (omega arith))))
    (eq-zero-or-pos (length es - i))

passed : (n : ℕ) (es : List ℕ) (d i : ℕ) → ((k : ℕ) → i ≤ k → k < length es → k < i + d → get_or es k 0 % 65536 ≡ n → ⊥) → found_in n (drop (i + d) es) ≡ found_in n (drop i es)
passed n es zero i others =
    let e : i + 0 ≡ i = omega arith in
    ap (λ (x : ℕ). found_in n (drop x es)) e
passed n es (suc d) i others =
    let e : i + suc d ≡ i + 1 + d = omega arith in
    ap (λ (x : ℕ). found_in n (drop x es)) e
    ∙ passed n es d (i + 1) (λ k a b c. others k (omega arith) b (omega arith))
    ∙ one n es i (λ l. others i (omega arith) l (omega arith))

pub over : (n : ℕ) (es : List ℕ) (i j : ℕ) → i ≤ j → ((k : ℕ) → i ≤ k → k < length es → k < j → get_or es k 0 % 65536 ≡ n → ⊥) → found_in n (drop j es) ≡ found_in n (drop i es)
over n es i j le others =
    let e : j ≡ i + (j - i) = omega arith in
    ap (λ (x : ℕ). found_in n (drop x es)) e ∙ passed n es (j - i) i (λ k a b c. others k a b (omega arith))

module _ (es : List ℕ) (top : ℕ) (h : Chained es top) where
  pub from-head : (n : ℕ) → top ≤ get_or es (n % 256) 0 → found_in n (drop (get_or es (n % 256) 0) es) ≡ found_in n (drop top es)
  from-head n le =
      over n es top (get_or es (n % 256) 0) le
      (λ k a b c p. h.heads (n % 256) k (mod-lt n (omega arith)) a (omega (arith, h.long)) c (remainder _ n p))

  pub linked : (i : ℕ) → top ≤ i → i < length es → i < get_or es (i - 512) 0
  linked i t l = h.forward i t (omega (arith, h.long))

  pub along : (n i : ℕ) → top ≤ i → i < length es → (get_or es i 0 % 65536 ≡ n → ⊥) → get_or es i 0 % 256 ≡ n % 256 → found_in n (drop (get_or es (i - 512) 0) es) ≡ found_in n (drop i es)
  along n i t l other same =
      over n es (i + 1) (get_or es (i - 512) 0) (omega (arith, h.forward i t (omega (arith, h.long))))
      (λ k a b c p. h.links i k t (omega arith) (omega (arith, h.long)) c (remainder _ n p ∙ sym same))
      ∙ sym (found-later n es i l other)

pub same-or-other : (g r : ℕ) → (g ≡ r) ⊎ (g ≡ r → ⊥)
same-or-other g r =
    ⊎_elim (λ z. inl (omega arith)) (λ p. inr (λ e. omega arith)) (eq-zero-or-pos ((g - r) + (r - g)))

module _ (es : List ℕ) (at v r : ℕ) (is : r ≡ get_or es at 0 % 256) (h : Chained es (at + 1)) (low : 768 ≤ at) (high : at < 1280) (on : at < v) (near : v ≤ max (get_or es r 0) (at + 1)) where
  small : r < 256
  small = omega (arith, is, mod-lt (get_or es at 0) {m = 256} (omega arith))

  abbrev pub put : List ℕ
  put = set (set es (at - 512) v) r at

  entry-same : (k : ℕ) → 768 ≤ k → get_or put k 0 ≡ get_or es k 0
  entry-same k l =
      get_or-set_other (set es (at - 512) v) r k at 0 (λ e. omega (arith, small))
      ∙ get_or-set_other es (at - 512) k v 0 (λ e. omega arith)

  remainder-same : (k : ℕ) → 768 ≤ k → get_or put k 0 % 256 ≡ get_or es k 0 % 256
  remainder-same k l = ap (λ (x : ℕ). x % 256) (entry-same k l)

  link_here : (i : ℕ) → at ≡ i → get_or put (i - 512) 0 ≡ v
  link_here i e =
      ap (λ (x : ℕ). get_or put (x - 512) 0) (sym e)
      ∙ get_or-set_other (set es (at - 512) v) r (at - 512) at 0 (λ q. omega (arith, small))
      ∙ get_or-set_same es (at - 512) v 0 (omega (arith, h.long))

  link-same : (i : ℕ) → at < i → get_or put (i - 512) 0 ≡ get_or es (i - 512) 0
  link-same i l =
      get_or-set_other (set es (at - 512) v) r (i - 512) at 0 (λ q. omega (arith, small))
      ∙ get_or-set_other es (at - 512) (i - 512) v 0 (λ q. omega arith)

  head-here : (g : ℕ) → g ≡ r → get_or put g 0 ≡ at
  head-here g e =
      ap (λ (x : ℕ). get_or put x 0) e
      ∙ get_or-set_same (set es (at - 512) v) r at 0 (omega (arith, length-set es (at - 512) v, h.long, small))

  head-same : (g : ℕ) → g < 256 → (g ≡ r → ⊥) → get_or put g 0 ≡ get_or es g 0
  head-same g l other =
      get_or-set_other (set es (at - 512) v) r g at 0 other
      ∙ get_or-set_other es (at - 512) g v 0 (λ q. omega arith)

  heads-inserted : (g k : ℕ) → g < 256 → at ≤ k → k < 1280 → k < get_or put g 0 → get_or put k 0 % 256 ≡ g → ⊥
  heads-inserted g k l t u b e =
      ⊎_elim
      (λ q. omega (arith, head-here g q))
      (λ other. ⊎_elim
      (λ q. other (sym e ∙ remainder-same k (omega arith) ∙ ap (λ (x : ℕ). get_or es x 0 % 256) (sym q) ∙ sym is))
      (λ q. h.heads g k l (omega arith) u (omega (arith, head-same g l other)) (sym (remainder-same k (omega arith)) ∙ e))
      (eq-or-lt_of_le t))
      (same-or-other g r)

  links-inserted : (i k : ℕ) → at ≤ i → i < k → k < 1280 → k < get_or put (i - 512) 0 → get_or put k 0 % 256 ≡ get_or put i 0 % 256 → ⊥
  links-inserted i k t o u b e =
      let same : get_or es k 0 % 256 ≡ get_or es i 0 % 256 = sym (remainder-same k (omega arith)) ∙ e ∙ remainder-same i (omega arith) in
      ⊎_elim
      (λ q. h.heads r k small (omega arith) u (omega (arith, link_here i q)) (same ∙ ap (λ (x : ℕ). get_or es x 0 % 256) (sym q) ∙ sym is))
      (λ q. h.links i k (omega arith) o u (omega (arith, link-same i q)) same)
      (eq-or-lt_of_le t)

  pub inserted-one : Chained put at
  inserted-one = record {
    long = length-set (set es (at - 512) v) r at ∙ length-set es (at - 512) v ∙ h.long;
    above = low;
    heads = heads-inserted;
    links = links-inserted;
    forward = λ i t u. ⊎_elim
        (λ q. omega (arith, link_here i q))
        (λ q. omega (arith, link-same i q, h.forward i (omega arith) u))
        (eq-or-lt_of_le t);
  }

  pub inserted-kept : drop 768 put ≡ drop 768 es
  inserted-kept = drop-set-lt 768 (set es (at - 512) v) r at (omega (arith, small)) ∙ drop-set-lt 768 es (at - 512) v (omega arith)

module _ (es : List ℕ) (at r : ℕ) (is : r ≡ get_or es at 0 % 256) (h : Chained es at) (high : at < 1280) where
  few : r < 256
  few = omega (arith, is, mod-lt (get_or es at 0) {m = 256} (omega arith))

  abbrev pub out : List ℕ
  out = set es r (get_or es (at - 512) 0)

  stays : (k : ℕ) → 256 ≤ k → get_or out k 0 ≡ get_or es k 0
  stays k l = get_or-set_other es r k (get_or es (at - 512) 0) 0 (λ e. omega (arith, few))

  stays-remainder : (k : ℕ) → 768 ≤ k → get_or out k 0 % 256 ≡ get_or es k 0 % 256
  stays-remainder k l = ap (λ (x : ℕ). x % 256) (stays k (omega arith))

  head-out : (g : ℕ) → g ≡ r → get_or out g 0 ≡ get_or es (at - 512) 0
  head-out g e =
      ap (λ (x : ℕ). get_or out x 0) e ∙ get_or-set_same es r (get_or es (at - 512) 0) 0 (omega (arith, h.long, few))

  head-stays : (g : ℕ) → (g ≡ r → ⊥) → get_or out g 0 ≡ get_or es g 0
  head-stays g other = get_or-set_other es r g (get_or es (at - 512) 0) 0 other

  heads-removed : (g k : ℕ) → g < 256 → at + 1 ≤ k → k < 1280 → k < get_or out g 0 → get_or out k 0 % 256 ≡ g → ⊥
  heads-removed g k l t u b e =
      let e' : get_or es k 0 % 256 ≡ g = sym (stays-remainder k (omega (arith, h.above))) ∙ e in
      ⊎_elim
      (λ q. h.links at k (omega arith) (omega arith) u (omega (arith, head-out g q)) (e' ∙ q ∙ is))
      (λ other. h.heads g k l (omega arith) u (omega (arith, head-stays g other)) e')
      (same-or-other g r)

  pub removed-one : Chained out (at + 1)
  removed-one = record {
    long = length-set es r (get_or es (at - 512) 0) ∙ h.long;
    above = omega (arith, h.above);
    heads = heads-removed;
    links = λ i k t o u b e. h.links i k (omega arith) o u (omega (arith, stays (i - 512) (omega (arith, h.above))))
        (sym (stays-remainder k (omega (arith, h.above))) ∙ e ∙ stays-remainder i (omega (arith, h.above)));
    forward = λ i t u. omega (arith, stays (i - 512) (omega (arith, h.above)), h.forward i (omega arith) u);
  }

  pub removed-kept : drop 768 out ≡ drop 768 es
  removed-kept = drop-set-lt 768 es r (get_or es (at - 512) 0) (omega (arith, few))

-- what is equal from m on is equal from any place after it
pub kept_from : (a b : List ℕ) (m n : ℕ) → m ≤ n → drop m a ≡ drop m b → drop n a ≡ drop n b
kept_from a b m n l e = further a ∙ ap (drop (n - m)) e ∙ sym (further b)
  where
    whole : m + (n - m) ≡ n
    whole = omega arith

    further : (x : List ℕ) → drop n x ≡ drop (n - m) (drop m x)
    further x = sym (drop-drop (n - m) m x ∙ ap (λ (k : ℕ). drop k x) whole)

-- entries are put between the links and `top`, and the chains are as they were
pub chained-still : (es fs : List ℕ) (base top : ℕ) → 768 ≤ base → base ≤ top → length fs ≡ length es → take base fs ≡ take base es → drop top fs ≡ drop top es → Chained es top → Chained fs top
chained-still es fs base top l le n below kept h = record {
  long = n ∙ h.long;
  above = h.above;
  heads = λ g k s t u b e. h.heads g k s t u (omega (arith, low g (omega arith))) (sym (high k t) ∙ e);
  links = λ i k t o u b e. h.links i k t o u (omega (arith, low (i - 512) (omega arith))) (sym (high k (omega arith)) ∙ e ∙ high i t);
  forward = λ i t u. omega (arith, low (i - 512) (omega arith), h.forward i t u);
}
  where
    low : (k : ℕ) → k < 768 → get_or fs k 0 ≡ get_or es k 0
    low k s = sym (get_or-take base fs k 0 (omega arith)) ∙ ap (λ (x : List ℕ). get_or x k 0) below ∙ get_or-take base es k 0 (omega arith)

    from : (x : List ℕ) (k : ℕ) → top ≤ k → get_or x k 0 ≡ get_or (drop top x) (k - top) 0
    from x k t =
        let e : k ≡ top + (k - top) = omega arith in
        ap (λ (m : ℕ). get_or x m 0) e ∙ sym (get_or-drop top x (k - top) 0)

    high : (k : ℕ) → top ≤ k → get_or fs k 0 % 256 ≡ get_or es k 0 % 256
    high k t = ap (λ (x : ℕ). x % 256) (from fs k t ∙ ap (λ (x : List ℕ). get_or x (k - top) 0) kept ∙ sym (from es k t))

pub pushed-chained : (es e₁ e₂ : List ℕ) (base count d top : ℕ) → 768 ≤ base → base + (count + d) ≡ top → length e₁ ≡ length es → length e₂ ≡ length e₁ → take (base + count) e₁ ≡ take (base + count) es → drop (base + count + d) e₁ ≡ drop (base + count + d) es → take base e₂ ≡ take base e₁ → drop (base + count) e₂ ≡ drop (base + count) e₁ → Chained es top → Chained e₂ top
pushed-chained es e₁ e₂ base count d top l whole n₁ n₂ below₁ kept₁ below₂ kept₂ h =
    chained-still e₁ e₂ base top l (omega arith) n₂ below₂ (kept_from e₂ e₁ (base + count) top (omega arith) kept₂)
    (chained-still es e₁ (base + count) top (omega arith) (omega arith) n₁ below₁ (kept_from e₁ es (base + count + d) top (omega arith) kept₁) h)

-- no entry yet
pub none-chained : (es : List ℕ) → length es ≡ 1280 → Chained es 1280
none-chained es n = record {
  long = n;
  above = omega arith;
  heads = λ g k s t u b e. omega arith;
  links = λ i k t o u b e. omega arith;
  forward = λ i t u. absurd (omega arith);
}
