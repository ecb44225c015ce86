-- Words written one after the other.
-- Assumes nothing.
use mathlib.Core.Path.{◌≡◌, sym, ◌∙◌, ap, subst}
use mathlib.Core.List.{List, [], ◌∷◌, ◌++◌, append_assoc}
use Prim.Native.Nat.{ℕ, zero, suc, ◌+◌, ◌*◌, ◌-◌, ◌/◌, ◌%◌, ◌<◌, ◌≤◌}
use native.Mathlib.Omega.{arith}
use lib.ListN.{length, get_or, take, replicate, set, length-append}
use lib.Seq.{set_at}
use Rattle.std.proofs.lemmas.List.{length-take-le, take_more}
use Rattle.laws.specs.Each.{Each, each-get_d}
use Rattle.laws.specs.Lists.{set-append-add}
use Rattle.resolve_words.specs.Growth.{Grown}
use Rattle.resolve_words.specs.Visible.{Short}

pub grown-nothing : (c : List ℕ) (at : ℕ) → Grown c c at []
grown-nothing c at = record { grown = λ done n p e l. e ∙ ap (λ (k : ℕ). done ++ replicate k 0) (less n) }
  where
    less : (n : ℕ) → n ≡ n - 0
    less n = omega arith

-- a zero is there already
pub grown-zero : (c : List ℕ) (at : ℕ) → Grown c c at (0 ∷ [])
grown-zero c at = record { grown = λ done n p e l. go done n e l }
  where
    less : (n : ℕ) → n ≡ suc n - 1
    less n = omega arith

    go : (done : List ℕ) (n : ℕ) → c ≡ done ++ replicate n 0 → 1 ≤ n → c ≡ done ++ (0 ∷ replicate (n - 1) 0)
    go done zero e l = absurd (omega arith)
    go done (suc n) e l = e ∙ ap (λ (k : ℕ). done ++ (0 ∷ replicate k 0)) (less n)

grown-put : (c : List ℕ) (at w : ℕ) → Short w → Grown c (set c (at / 2) (w % 4294967296)) at (w ∷ [])
grown-put c at w short = record { grown = λ done n p e l. go done n p e l }
  where
    less : (n : ℕ) → n ≡ suc n - 1
    less n = omega arith

    same : w % 4294967296 ≡ w
    same = omega arith

    half : (done : List ℕ) → 2 * length done ≡ at → length done ≡ at / 2
    half done p = omega arith

    go : (done : List ℕ) (n : ℕ) → 2 * length done ≡ at → c ≡ done ++ replicate n 0 → 1 ≤ n → set c (at / 2) (w % 4294967296) ≡ done ++ (w ∷ replicate (n - 1) 0)
    go done zero p e l = absurd (omega arith)
    go done (suc n) p e l =
        ap (λ (x : List ℕ). set x (at / 2) (w % 4294967296)) e
        ∙ set_at done 0 (replicate n 0) (w % 4294967296) (at / 2) (half done p)
        ∙ ap (λ (x : ℕ). done ++ (x ∷ replicate n 0)) same
        ∙ ap (λ (k : ℕ). done ++ (w ∷ replicate k 0)) (less n)

pub put-grows : {c c' : List ℕ} {at w : ℕ} → c' ≡ set c (at / 2) (w % 4294967296) → Short w → Grown c c' at (w ∷ [])
put-grows {c} {c'} {at} {w} e short = subst (λ (l : List ℕ). Grown c l at (w ∷ [])) (sym e) (grown-put c at w short)

pub grown-then : {c d e : List ℕ} {at o : ℕ} {xs ys : List ℕ} → o ≡ at + 2 * length xs → Grown c d at xs → Grown d e o ys → Grown c e at (xs ++ ys)
grown-then {c} {d} {e} {at} {o} {xs} {ys} q g h =
    record {
      grown = λ done n p s l.
          let sum = length-append xs ys in
          let total = length-append done xs in
          let left : n - length xs - length ys ≡ n - length (xs ++ ys) = omega arith in
          h.grown (done ++ xs) (n - length xs) (omega arith) (g.grown done n p s (omega arith) ∙ sym (append_assoc done xs (replicate (n - length xs) 0))) (omega arith)
          ∙ append_assoc done xs (ys ++ replicate (n - length xs - length ys) 0)
          ∙ ap (λ (x : List ℕ). done ++ x) (sym (append_assoc xs ys (replicate (n - length xs - length ys) 0)))
          ∙ ap (λ (k : ℕ). done ++ ((xs ++ ys) ++ replicate k 0)) left;
    }

-- the first word, then the others
pub grown-more : {c d e : List ℕ} {at o w : ℕ} {ws : List ℕ} → o ≡ at + 2 → Grown c d at (w ∷ []) → Grown d e o ws → Grown c e at (w ∷ ws)
grown-more {at = at} {o = o} q g h = grown-then (q ∙ two) g h
  where
    two : at + 2 ≡ at + 2 * 1
    two = omega arith

-- one word more of those put one after the other
pub grown-further :
    {c d e : List ℕ} {at i : ℕ} (ws : List ℕ) → i < length ws → Each Short ws → e ≡ set d ((at + 2 * i) / 2) (get_or ws i 0 % 4294967296) →
    Grown c d at (take i ws) → Grown c e at (take (i + 1) ws)
grown-further {c} {d} {e} {at} {i} ws l s p g =
    let long = length-take-le i ws (omega arith) in
    subst (Grown c e at) (sym (take_more ws i 0 l)) (grown-then (omega arith) g (put-grows p (each-get_d Short ws i 0 (omega arith) s)))

-- a word that was left 0 is written later
set-inside :
    (done f : List ℕ) (a z v : ℕ) (ws rest : List ℕ) (k : ℕ) → k ≡ length done + (length f + 1) →
    set (done ++ ((f ++ (a ∷ z ∷ ws)) ++ rest)) k v ≡ done ++ ((f ++ (a ∷ v ∷ ws)) ++ rest)
set-inside done f a z v ws rest k e =
    ap (λ (i : ℕ). set (done ++ ((f ++ (a ∷ z ∷ ws)) ++ rest)) i v) e
    ∙ set-append-add done ((f ++ (a ∷ z ∷ ws)) ++ rest) (length f + 1) v
    ∙ ap (λ (l : List ℕ). done ++ l)
    (ap (λ (l : List ℕ). set l (length f + 1) v) (append_assoc f (a ∷ z ∷ ws) rest) ∙ set-append-add f ((a ∷ z ∷ ws) ++ rest) 1 v
    ∙ sym (append_assoc f (a ∷ v ∷ ws) rest))

pub grown-patched :
    {c d e : List ℕ} {at : ℕ} (f : List ℕ) (a v : ℕ) (ws : List ℕ) (o : ℕ) → o ≡ at + 2 * length f + 2 → Short v → e ≡ set d (o / 2) (v % 4294967296) →
    Grown c d at (f ++ (a ∷ 0 ∷ ws)) → Grown c e at (f ++ (a ∷ v ∷ ws))
grown-patched {c} {d} {e} {at} f a v ws o q short p g =
    record {
      grown = λ done n h s l.
          let x = length-append f (a ∷ 0 ∷ ws) in
          let y = length-append f (a ∷ v ∷ ws) in
          let same : n - length (f ++ (a ∷ 0 ∷ ws)) ≡ n - length (f ++ (a ∷ v ∷ ws)) = omega arith in
          let low : v % 4294967296 ≡ v = omega arith in
          p ∙ ap (λ (w : List ℕ). set w (o / 2) (v % 4294967296)) (g.grown done n h s (omega arith))
          ∙ set-inside done f a 0 (v % 4294967296) ws (replicate (n - length (f ++ (a ∷ 0 ∷ ws))) 0) (o / 2) (omega arith)
          ∙ ap (λ (w : ℕ). done ++ ((f ++ (a ∷ w ∷ ws)) ++ replicate (n - length (f ++ (a ∷ 0 ∷ ws))) 0)) low
          ∙ ap (λ (k : ℕ). done ++ ((f ++ (a ∷ v ∷ ws)) ++ replicate k 0)) same;
    }
