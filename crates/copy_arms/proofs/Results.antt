-- What the parts of statements come to, from what the functions that they call have done.
use Prim.Native.Nat.{ℕ}
use mathlib.Core.Bool.{Bool, true, false}
use mathlib.Core.List.{List}
use mathlib.Core.Path.{◌≡◌, refl, sym, ap, ap₂, ◌∙◌}
use lib.Dec.{ltb}
use lib.IntN.{ℤ, pos}
use lib.ListN.{get_or, set}
use lib.Signed.{mag, lt_z}
use Rattle.language.specs.Basics.{eq_z}
use Rattle.language.specs.Text.{Operation, less}
use Rattle.language.specs.Machine.{compute}
use Rattle.run_moves.specs.Effects.{Effect}
use Rattle.std.specs.Prelude.{Ok}
use Rattle.run_moves.specs.declared.Move.{Move}
use Rattle.run_moves.specs.declared.Move.TheVariants.{On}
use Rattle.run_moves.specs.Effects.{effect_of, cells_of}
use Rattle.run_moves.specs.Acting.{operation_of}
use Rattle.run_statements.specs.Pieces.{move_after}
use Rattle.copy_arms.specs.Parts.{branch_move}

-- AR

less-small : (a b : ℤ) (t : Bool) → lt_z a b ≡ t → ltb (mag (compute less a b)) 2147483648 ≡ true
unfolding compute
less-small a b true e = rw (compute, e)
less-small a b false e = rw (compute, e)

less_done : (a b : ℤ) → Ok tt ≡ effect_of (compute less a b)
unfolding effect_of
less_done a b = rw (effect_of, less-small a b (lt_z a b) refl)

less-words : (ws : List ℤ) (c : ℕ) (a b : ℤ) → set ws c (compute less a b) ≡ cells_of ws c (compute less a b)
unfolding cells_of
less-words ws c a b = rw (cells_of, less-small a b (lt_z a b) refl)

module _ (cells : List ℤ) (next n : ℕ) where
  abbrev result : Operation → ℕ → ℕ → ℤ
  result o a b = compute o (get_or cells a (pos 0)) (get_or cells b (pos 0))

  module _ {to left right t l r : ℕ} (p : t ≡ to) (q : l ≡ left) (s : r ≡ right) where
    pub computes :
        (o : Operation) → operation_of n ≡ o → {m : Move} {e : Effect} {ws : List ℤ} →
        m ≡ move_after e next → e ≡ effect_of (result o l r) → ws ≡ cells_of cells t (result o l r) →
        (m ≡ move_after (effect_of (result (operation_of n) left right)) next) × (ws ≡ cells_of cells to (result (operation_of n) left right))
    computes o k m e ws =
        let z : result o l r ≡ result (operation_of n) left right = rw (q, s, k) in
        (m ∙ ap (λ (e : Effect). move_after e next) (e ∙ ap effect_of z), ws ∙ ap₂ (cells_of cells) p z)

    pub compares :
        operation_of n ≡ less → {ws : List ℤ} → ws ≡ set cells t (result less l r) →
        (On next ≡ move_after (effect_of (result (operation_of n) left right)) next) × (ws ≡ cells_of cells to (result (operation_of n) left right))
    unfolding move_after
    compares k ws =
        let a = get_or cells l (pos 0) in
        let b = get_or cells r (pos 0) in
        computes less k refl (less_done a b) (ws ∙ less-words cells t a b)

-- IF
module _ (cells : List ℤ) (next : ℕ) (jump : Move) {c d : ℕ} (p : c ≡ d) where
  tested : {t : Bool} → eq_z (get_or cells c (pos 0)) (pos 0) ≡ t → eq_z (get_or cells d (pos 0)) (pos 0) ≡ t
  tested e = sym (ap (λ (k : ℕ). eq_z (get_or cells k (pos 0)) (pos 0)) p) ∙ e

  pub stays : eq_z (get_or cells c (pos 0)) (pos 0) ≡ true → On next ≡ branch_move (get_or cells d (pos 0)) next jump
  unfolding branch_move
  stays e = rw (branch_move, tested e)

  pub goes : eq_z (get_or cells c (pos 0)) (pos 0) ≡ false → jump ≡ branch_move (get_or cells d (pos 0)) next jump
  unfolding branch_move
  goes e = rw (branch_move, tested e)
