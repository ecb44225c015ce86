-- What a call comes to, from what its functions have found: the arguments one by one, 26, and 22 after it.
use Prim.Native.Nat.{ℕ, suc, ◌+◌, ◌*◌, ◌-◌, ◌≤◌, ◌<◌}
use native.Mathlib.Omega.{arith}
use mathlib.Core.Bool.{Bool, true, false, not}
use mathlib.Core.List.{List}
use mathlib.Core.Path.{◌≡◌}
use borrow.Author.Tests.{eq-eqb, ne_eqb, le-leb, lt-leb}
use lib.Dec.{leb}
use lib.IntN.{ℤ}
use lib.ListN.{get_or, set}
use Rattle.language.specs.declared.Stop.TheVariants.{NoActivationLeft, ArgumentsDiffer}
use Rattle.run_moves.specs.declared.Move.{Move}
use Rattle.run_moves.specs.declared.Move.TheVariants.{Enter, Stop}
use Rattle.run_moves.specs.Effects.{same_kinds}
use Rattle.run_moves.specs.Acting.{set_all}
use Rattle.resolved.specs.Layout.{operation_in, formals_in, activation_in}
use Rattle.copy_arms.specs.Parts.{handed_word, handed_from, refused_by, call_move, call_words}

-- 26
module _ (code : List ℕ) (at body count : ℕ) where
  pub no-formal : (operation_in (get_or code at 0) ≡ 15 → ⊥) → false ≡ refused_by code at body count
  unfolding refused_by
  no-formal d = rw (refused_by, ne_eqb _ _ d)

  pub number-differs : operation_in (get_or code at 0) ≡ 15 → (formals_in (get_or code body 0) ≡ count → ⊥) → true ≡ refused_by code at body count
  unfolding refused_by
  number-differs o d = rw (refused_by, eq-eqb _ _ o, ne_eqb _ _ d)

  pub kinds-tell :
      operation_in (get_or code at 0) ≡ 15 → formals_in (get_or code body 0) ≡ count → {t : Bool} → t ≡ same_kinds code (at + 3) (body - 3 * count) count →
      not t ≡ refused_by code at body count
  unfolding refused_by
  kinds-tell o e f = rw (refused_by, eq-eqb _ _ o, eq-eqb _ _ e, f)

-- the arguments
module _ (area firsts starts targets : List ℕ) (live place count i : ℕ) (ws : List ℤ) (first : ℕ) where
  pub arguments-end : count ≤ i → ws ≡ set_all ws (first + i) (handed_from area firsts starts targets live (place + i) (count - i))
  unfolding set_all handed_from
  arguments-end h = let e : count - i ≡ 0 = omega arith in rw (e, handed_from, set_all)

  pub arguments-next :
      i < count → {z : ℤ} → z ≡ handed_word area firsts starts targets live (place + i) →
      set_all (set ws (first + i) z) (first + (i + 1)) (handed_from area firsts starts targets live (place + (i + 1)) (count - (i + 1)))
      ≡ set_all ws (first + i) (handed_from area firsts starts targets live (place + i) (count - i))
  unfolding set_all handed_from
  arguments-next h p =
      let e : count - i ≡ suc (count - (i + 1)) = omega arith in
      let a : place + (i + 1) ≡ place + i + 1 = omega arith in
      let f : first + (i + 1) ≡ first + i + 1 = omega arith in
      rw (p, a, f, e, handed_from, set_all)

pub enters-at :
    (at : ℕ) {b k c n body cell count : ℕ} → b ≡ body → k ≡ activation_in c → c ≡ cell → n ≡ count →
    Enter b k (at + 3 + n) ≡ Enter body (activation_in cell) (at + 3 + count)
enters-at at p k q r = rw (p, k, q, r)

-- 26, then 22
module _ (refused : Bool) (activations live : ℕ) (enter : Move) (before after : List ℤ) where
  pub call-refused : refused ≡ true → (Stop ArgumentsDiffer ≡ call_move refused (leb activations (live + 1)) enter)
      × (before ≡ call_words refused (leb activations (live + 1)) before after)
  unfolding call_move call_words
  call-refused e = (rw (call_move, e), rw (call_words, e))

  pub call-stops :
      refused ≡ false → activations ≤ live + 1 → (Stop NoActivationLeft ≡ call_move refused (leb activations (live + 1)) enter)
      × (before ≡ call_words refused (leb activations (live + 1)) before after)
  unfolding call_move call_words
  call-stops e h = let f = le-leb activations (live + 1) h in (rw (call_move, e, f), rw (call_words, e, f))

  pub call_enters :
      refused ≡ false → live + 1 < activations → (enter ≡ call_move refused (leb activations (live + 1)) enter)
      × (after ≡ call_words refused (leb activations (live + 1)) before after)
  unfolding call_move call_words
  call_enters e h = let f = lt-leb activations (live + 1) h in (rw (call_move, e, f), rw (call_words, e, f))
