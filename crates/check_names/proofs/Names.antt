-- The names of a level in the array of all levels: searched, added to, and kept where only levels below are written.
-- Assumes nothing.
use mathlib.Core.Path.{◌≡◌, refl, sym, ◌∙◌, ap}
use mathlib.Core.Bool.{Bool, true, false}
use mathlib.Core.List.{List, [], ◌∷◌, ◌++◌}
use Prim.Native.Nat.{ℕ, ◌+◌, ◌-◌, ◌<◌, ◌≤◌}
use native.Mathlib.Omega.{arith}
use native.Mathlib.Numerals.{add-one}
use lib.ListN.{length, get_or, take, drop, set, length-drop, drop_of_length-le}
use lib.Seq.{drop-cons, take-add, take-take, drop_at, length-take-le, take-suc-set, drop-set-add, take-set-le}
use borrow.Author.Tests.{eq-eqb, ne_eqb}
use Rattle.language.specs.Basics.{among}
use Rattle.check_names.specs.Naming.{names_at}

-- whether either holds
abbrev pub either : Bool → Bool → Bool
either true b = true
either false b = b

among-hit : (n x : ℕ) (xs : List ℕ) → x ≡ n → among n (x ∷ xs) ≡ true
unfolding among
among-hit n x xs e = rw (eq-eqb n x (sym e), among)

among-miss : (n x : ℕ) (xs : List ℕ) → (x ≡ n → ⊥) → among n (x ∷ xs) ≡ among n xs
unfolding among
among-miss n x xs e = rw (ne_eqb n x (λ q. e (sym q)), among)

-- the names of a level as a slice
pub names_slice : (ns : List ℕ) (base count : ℕ) → take (base + count - base) (drop base ns) ≡ names_at ns base count
unfolding names_at
names_slice ns base count = ap (λ k. take k (drop base ns)) same
  where
    same : base + count - base ≡ count
    same = omega arith

-- among the names from i on, where the one at i is looked at
module _ (xs : List ℕ) (n i : ℕ) where
  pub seen-hit : i < length xs → get_or xs i 0 ≡ n → among n (drop i xs) ≡ true
  seen-hit h e = ap (among n) (drop-cons xs i 0 h) ∙ among-hit n _ _ e

  pub seen-miss : i < length xs → (get_or xs i 0 ≡ n → ⊥) → among n (drop i xs) ≡ among n (drop (i + 1) xs)
  seen-miss h e = ap (among n) (drop-cons xs i 0 h) ∙ among-miss n _ _ e ∙ ap (λ k. among n (drop k xs)) (sym (add-one i))

  pub seen_none : length xs ≤ i → among n (drop i xs) ≡ false
  unfolding among
  seen_none h = ap (among n) (drop_of_length-le xs h)

-- a name put after those held
pub names-added : (ns : List ℕ) (base i x : ℕ) → base + i < length ns → names_at (set ns (base + i) x) base (i + 1) ≡ names_at ns base i ++ (x ∷ [])
unfolding names_at
names-added ns base i x h = rw (add-one i, drop-set-add base ns i x, take-suc-set (drop base ns) i x (omega (arith, length-drop base ns)))

-- names are in the part before the next level
names-front : (ns : List ℕ) (base count : ℕ) → base ≤ length ns → names_at ns base count ≡ drop base (take (base + count) ns)
unfolding names_at
names-front ns base count h = sym (ap (drop base) (take-add base count ns) ∙ drop_at (take base ns) (take count (drop base ns)) base (length-take-le base ns h))

pub names-kept : (ns ns' : List ℕ) (base room count : ℕ) → base ≤ length ns → base ≤ length ns' → count ≤ room → take (base + room) ns' ≡ take (base + room) ns → names_at ns' base count ≡ names_at ns base count
names-kept ns ns' base room count h h' le e =
    names-front ns' base count h'
    ∙ ap (drop base) (sym (take-take (base + count) (base + room) ns' (omega arith)) ∙ ap (take (base + count)) e ∙ take-take (base + count) (base + room) ns (omega arith))
    ∙ sym (names-front ns base count h)

pub front_kept : (ns ns' : List ℕ) (base more : ℕ) → base ≤ more → take more ns' ≡ take more ns → take base ns' ≡ take base ns
front_kept ns ns' base more le e = sym (take-take base more ns' le) ∙ ap (take base) e ∙ take-take base more ns le

pub front-set : (ns : List ℕ) (base i x : ℕ) → take base (set ns (base + i) x) ≡ take base ns
front-set ns base i x = take-set-le base ns (base + i) x (omega arith)

pub names-length : (ns : List ℕ) (base count : ℕ) → base + count ≤ length ns → length (names_at ns base count) ≡ count
unfolding names_at
names-length ns base count h = length-take-le count (drop base ns) (omega (arith, length-drop base ns))

pub names-none : (ns : List ℕ) (base : ℕ) → names_at ns base 0 ≡ []
unfolding names_at
names-none ns base = refl
