-- AR's effect by whether its value fits; what a comparison stores; what is handed on; and cells cleared one after another.
use Prim.Native.Nat.{ℕ, zero, suc, ◌+◌, ◌*◌, ◌-◌, ◌≤◌, ◌<◌}
use native.Mathlib.Omega.{arith}
use mathlib.Core.Bool.{Bool, true, false}
use mathlib.Core.List.{List, [], ◌∷◌}
use mathlib.Core.Path.{◌≡◌, refl, sym, ap, ◌∙◌}
use borrow.Author.Tests.{eq-eqb, ne_eqb, eqb-true, eqb-false, ltb-true, ltb-false}
use lib.Dec.{eqb, ltb}
use lib.IntN.{ℤ, pos}
use lib.ListN.{get_or, set, length-set}
use lib.Seq.{get_or-set_other}
use lib.Signed.{mag, lt_z}
use Rattle.language.specs.Text.{less}
use Rattle.language.specs.Machine.{compute}
use Rattle.language.specs.declared.Stop.TheVariants.{ResultTooLarge}
use Rattle.resolved.specs.Resolved.{kind_in, formal_in, target_in, direct}
use Rattle.std.specs.Prelude.{Ok, Err}
use Rattle.run_moves.specs.Effects.{effect_of, cells_of, handed_word, same_kinds, Cleared}
use Rattle.resolved.specs.Layout.{held_from}

pub effect-fits : (z : ℤ) → ltb (mag z) 2147483648 ≡ true → Ok tt ≡ effect_of z
unfolding effect_of
effect-fits z e = rw (e, effect_of)

pub effect-past : (z : ℤ) → ltb (mag z) 2147483648 ≡ false → Err ResultTooLarge ≡ effect_of z
unfolding effect_of
effect-past z e = rw (e, effect_of)

pub cells-fits : (ws : List ℤ) (c : ℕ) (z : ℤ) → ltb (mag z) 2147483648 ≡ true → set ws c z ≡ cells_of ws c z
unfolding cells_of
cells-fits ws c z e = rw (e, cells_of)

pub cells-past : (ws : List ℤ) (c : ℕ) (z : ℤ) → ltb (mag z) 2147483648 ≡ false → ws ≡ cells_of ws c z
unfolding cells_of
cells-past ws c z e = rw (e, cells_of)

pub compared-less : (a b : ℤ) → lt_z a b ≡ true → pos 1 ≡ compute less a b
unfolding compute
compared-less a b e = rw (e, compute)

pub compared-not : (a b : ℤ) → lt_z a b ≡ false → pos 0 ≡ compute less a b
unfolding compute
compared-not a b e = rw (e, compute)

-- what is handed on, from the parts of a word that were read
module _ (ws : List ℤ) (w c : ℕ) {formal : ℕ} (p : formal ≡ formal_in w) where
  pub handed-direct : formal ≡ 0 → {target held : ℕ} → target ≡ target_in w → held ≡ held_from c target → pos held ≡ handed_word ws w c
  unfolding handed_word direct
  handed-direct q t h = let e = eq-eqb (formal_in w) 0 (sym p ∙ q) in ap pos (h ∙ ap (held_from c) t) ∙ rw (e, handed_word)

  pub handed-formal : (formal ≡ 0 → ⊥) → get_or ws c (pos 0) ≡ handed_word ws w c
  unfolding handed_word direct
  handed-formal d = let e = ne_eqb (formal_in w) 0 (λ q. d (p ∙ q)) in rw (e, handed_word)

-- Kinds, one by one, of n arguments from a on and formals from f on

module _ (code : List ℕ) (a f n i : ℕ) where
  pub kinds-done : n ≤ i → true ≡ same_kinds code (a + i) (f + 3 * i) (n - i)
  unfolding same_kinds
  kinds-done h = let e : n - i ≡ 0 = omega arith in rw (e, same_kinds)

  pub kinds-differ : i < n → (kind_in (get_or code (a + i) 0) ≡ get_or code (f + 3 * i + 2) 0 → ⊥) → false ≡ same_kinds code (a + i) (f + 3 * i) (n - i)
  unfolding same_kinds
  kinds-differ h d = let e : n - i ≡ suc (n - (i + 1)) = omega arith in rw (e, same_kinds, ne_eqb _ _ d)

  pub kinds-same :
      i < n → kind_in (get_or code (a + i) 0) ≡ get_or code (f + 3 * i + 2) 0 → same_kinds code (a + (i + 1)) (f + 3 * (i + 1))
      (n - (i + 1)) ≡ same_kinds code (a + i) (f + 3 * i) (n - i)
  unfolding same_kinds
  kinds-same h d =
      let e : n - i ≡ suc (n - (i + 1)) = omega arith in
      let p : a + (i + 1) ≡ a + i + 1 = omega arith in
      let q : f + 3 * (i + 1) ≡ f + 3 * i + 3 = omega arith in
      rw (p, q, e, same_kinds, eq-eqb _ _ d)

-- Cells cleared one after another

pub cleared-none : (ws : List ℤ) (from : ℕ) → Cleared ws from from ws
cleared-none ws from = record { as_long = refl; kept = λ i p. refl; zeros = λ i p q. absurd (omega arith) }

pub cleared-less : (ws vs : List ℤ) (from i to : ℕ) → to ≤ i → Cleared ws from i vs → Cleared ws from to vs
cleared-less ws vs from i to h c = record { as_long = c.as_long; kept = c.kept; zeros = λ j p q. c.zeros j p (omega arith) }

zero-there : (vs : List ℤ) (i : ℕ) → get_or (set vs i (pos 0)) i (pos 0) ≡ pos 0
zero-there [] i = refl
zero-there (v ∷ vs) zero = refl
zero-there (v ∷ vs) (suc i) = zero-there vs i

pub cleared_more : (ws vs : List ℤ) (from i : ℕ) → from ≤ i → Cleared ws from i vs → Cleared ws from (i + 1) (set vs i (pos 0))
cleared_more ws vs from i low c =
    record {
      as_long = length-set vs i (pos 0) ∙ c.as_long;
      kept = λ j p. get_or-set_other vs i j (pos 0) (pos 0) (λ e. omega arith) ∙ c.kept j p;
      zeros = λ j p q. go j p q (eqb j i) refl;
    }
  where
    go : (j : ℕ) → from ≤ j → j < i + 1 → (t : Bool) → eqb j i ≡ t → get_or (set vs i (pos 0)) j (pos 0) ≡ pos 0
    go j p q true e = let s : j ≡ i = eqb-true j i e in rw s (zero-there vs i)
    go j p q false e = let s : j ≡ i → ⊥ = eqb-false j i e in get_or-set_other vs i j (pos 0) (pos 0) s ∙ c.zeros j p (omega arith)

abbrev pub four : List ℤ → ℕ → List ℤ
four ws from = set (set (set (set ws from (pos 0)) (from + 1) (pos 0)) (from + 2) (pos 0)) (from + 3) (pos 0)

pub cleared-four : (ws : List ℤ) (from : ℕ) → Cleared ws from (from + 4) (four ws from)
cleared-four ws from =
    let two : from + 1 + 1 ≡ from + 2 = omega arith in
    let three : from + 2 + 1 ≡ from + 3 = omega arith in
    let all : from + 3 + 1 ≡ from + 4 = omega arith in
    let a = cleared_more ws ws from from (omega arith) (cleared-none ws from) in
    let b = rw two at (cleared_more ws (set ws from (pos 0)) from (from + 1) (omega arith) a) in
    let c = rw three at (cleared_more ws (set (set ws from (pos 0)) (from + 1) (pos 0)) from (from + 2) (omega arith) b) in
    rw all at (cleared_more ws (set (set (set ws from (pos 0)) (from + 1) (pos 0)) (from + 2) (pos 0)) from (from + 3) (omega arith) c)

pub cleared-join : (ws vs us : List ℤ) (from mid to : ℕ) → from ≤ mid → Cleared ws from mid vs → Cleared vs mid to us → Cleared ws from to us
cleared-join ws vs us from mid to h c d =
    record {
      as_long = d.as_long ∙ c.as_long;
      kept = λ i p. d.kept i (omega arith) ∙ c.kept i p;
      zeros = λ i p q. go i p q (ltb i mid) refl;
    }
  where
    go : (i : ℕ) → from ≤ i → i < to → (t : Bool) → ltb i mid ≡ t → get_or us i (pos 0) ≡ pos 0
    go i p q true e = let l = ltb-true i mid e in d.kept i l ∙ c.zeros i p l
    go i p q false e = d.zeros i (omega (arith, ltb-false i mid e)) q
