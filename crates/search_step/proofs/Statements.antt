-- What the statements' functions come to, from what they are answered on the way.
use Prim.Native.Nat.{ℕ, ◌+◌, ◌<◌}
use native.Mathlib.Omega.{arith}
use mathlib.Core.Bool.{false}
use mathlib.Core.List.{List}
use mathlib.Core.Path.{◌≡◌, sym, ap, ap₂, ◌∙◌, subst}
use lib.IntN.{ℤ, pos}
use lib.ListN.{get_or}
use lib.Signed.{mag, lt_z}
use mir.Syntax.{w32}
use mir.Val.{to_z, of_z}
use Rattle.resolved.specs.Resolved.{position_in, formal_in, target_in}
use Rattle.resolved.specs.Layout.{activation_in, cell_in, lead_in}
use Rattle.arrays.specs.Found.{held_by, cell_by, home_by, target_by}
use Rattle.run_moves.specs.declared.Move.{Move}
use Rattle.run_moves.specs.declared.Move.TheVariants.{On, Jump}
use Rattle.run_moves.specs.Acting.{do_branch}
use Rattle.run_statements.specs.Pieces.{only-cells}
use Rattle.run_statements.specs.Words.{is_zero, not-zero, home-direct, target-direct, home-formal, target-formal}
use Rattle.run_statements.specs.Doing.{direct-cell, goto-done}
use Rattle.run_cells.specs.Finding.{Reachable, Direct, ThroughFormal}
use Rattle.run_cells.specs.Calling.{word_after}
use Rattle.run_cells.specs.Cells.{held-cell, stays_at, goes_at}
use Rattle.search_names.specs.Seeking.{first_at}
use Rattle.search_calls.specs.Reading.{own_read, held_whole, held-read, read-direct, read-formal, read_through}
use Rattle.search_step.specs.Asked.{ByTwo}

-- by a first cell as it was found
module _ {cells : List ℤ} {f g w : ℕ} (e : f ≡ g) where
  pub reach-as : Reachable cells g w → Reachable cells f w
  reach-as r = subst (λ (k : ℕ). Reachable cells k w) (sym e) r

  pub direct-as : Direct cells g w → Direct cells f w
  direct-as r = subst (λ (k : ℕ). Direct cells k w) (sym e) r

  pub formal-as : ThroughFormal cells g w → ThroughFormal cells f w
  formal-as r = subst (λ (k : ℕ). ThroughFormal cells k w) (sym e) r

pub led : {a b c : ℕ} → b ≡ c → a ≡ b → a ≡ c
led p q = q ∙ p

pub goto-as : {f g place : ℕ} {m : Move} → f ≡ g → m ≡ Jump (activation_in f) place → m ≡ Jump (activation_in g) place
goto-as {place} e q = q ∙ ap (λ (k : ℕ). Jump (activation_in k) place) e

-- a name that may be a formal, by its word, its first cell and its position as they were read
module _ (code numbers blocks froms : List ℕ) (live : ℕ) (cells : List ℤ) (place : ℕ) where
  abbrev first : ℕ
  first = first_at numbers blocks froms live place

  abbrev w : ℕ
  w = get_or code place 0

  module _ {v f d : ℕ} (read : v ≡ w) (found : f ≡ first) (reach : Reachable cells first w) (formal : d ≡ formal_in v) where
    -- no formal
    pub own-found : {q : ℕ} → q ≡ position_in v → d ≡ 0 → f + q ≡ cell_by cells first w
    own-found position e = direct-cell cells first w (own_read code numbers blocks froms live place read found position) (read-direct read formal e)

    pub own-there : {q : ℕ} → q ≡ position_in v → f + q < 8192
    own-there position = omega (arith, own_read code numbers blocks froms live place read found position, reach.own)

    pub own-jumps : {home place : ℕ} → d ≡ 0 → home ≡ activation_in f → place ≡ target_in v → Jump home place ≡ Jump (home_by cells first w) (target_by cells first w)
    own-jumps e p q =
        let t = read-direct read formal e in
        ap₂ Jump (p ∙ ap activation_in found ∙ sym (home-direct cells first w t)) (q ∙ ap target_in read ∙ sym (target-direct cells first w t))

    -- a formal
    module _ {q : ℕ} (position : q ≡ position_in v) (other : d ≡ 0 → ⊥) (small : mag (get_or cells (f + q) (pos 0)) < 2147483648) where
      pub whole-found : lt_z (to_z w32 (of_z w32 (get_or cells (f + q) (pos 0)))) (pos 0) ≡ false
      whole-found = held_whole code numbers blocks froms live place read found position cells small (read_through read formal other reach)

      module _ {h : ℕ} (whole : to_z w32 (of_z w32 (get_or cells (f + q) (pos 0))) ≡ pos h) where
        held : h ≡ held_by cells first w
        held = held-read code numbers blocks froms live place read found position cells small whole

        pub held_found : {c : ℕ} → c ≡ cell_in h → c ≡ cell_by cells first w
        held_found e = e ∙ held-cell cells first w (read-formal read formal other) held

        pub held-jumps : {c home place : ℕ} → c ≡ cell_in h → home ≡ activation_in c → place ≡ lead_in h → Jump home place ≡ Jump (home_by cells first w) (target_by cells first w)
        held-jumps e p q =
            let t = read-formal read formal other in
            ap₂ Jump (p ∙ ap activation_in (e ∙ ap cell_in held) ∙ sym (home-formal cells first w t)) (q ∙ ap lead_in held ∙ sym (target-formal cells first w t))

-- IF
module _ (code numbers blocks froms : List ℕ) (live : ℕ) (cells : List ℤ) (at : ℕ) {c : ℕ} (cell : c ≡ cell_by cells (first_at numbers blocks froms live (at + 2)) (word_after code at 2))
    (small : mag (get_or cells c (pos 0)) < 2147483648) where
  abbrev Branches : Move → Type 0
  Branches r = ByTwo code numbers blocks froms live cells at (λ F. r ≡ (do_branch F (only-cells code cells at)).move)

  pub stays-found : of_z w32 (get_or cells c (pos 0)) ≡ 0 → Branches (On (at + 3))
  stays-found z = stays_at code cells at cell (is_zero _ small z)

  pub goes-found : (of_z w32 (get_or cells c (pos 0)) ≡ 0 → ⊥) → {r : Move}
      → r ≡ Jump (home_by cells (first_at numbers blocks froms live (at + 1)) (word_after code at 1)) (target_by cells (first_at numbers blocks froms live (at + 1)) (word_after code at 1)) → Branches r
  goes-found n {r} e = goes_at code cells at cell (not-zero _ small n) (λ first_of p. e ∙ goto-done _ (only-cells code cells at)
      (ap (λ (k : ℕ). home_by cells k (word_after code at 1)) p) (ap (λ (k : ℕ). target_by cells k (word_after code at 1)) p))
