-- Arguments handed on: one of them, and all of them in turn.
use Prim.Native.Nat.{ℕ, suc, ◌+◌, ◌*◌, ◌-◌, ◌≤◌, ◌<◌}
use native.Mathlib.Omega.{arith}
use mathlib.Core.List.{List}
use mathlib.Core.Path.{◌≡◌, refl, sym, ap, ap₂, ◌∙◌}
use borrow.Author.Tests.{eq-eqb, ne_eqb}
use lib.IntN.{ℤ, pos}
use lib.ListN.{get_or, set}
use lib.Signed.{mag}
use mir.Syntax.{w32}
use mir.Val.{to_z, of_z}
use Rattle.resolved.specs.Resolved.{position_in, kind_in, formal_in}
use Rattle.arrays.specs.Found.{handed_by}
use Rattle.run_moves.specs.Acting.{set_all, arguments_from}
use Rattle.run_moves.specs.Effects.{handed_word}
use Rattle.run_statements.specs.Pieces.{only-cells}
use Rattle.run_statements.specs.Words.{read_back, handed-is}
use Rattle.run_statements.specs.Doing.{arguments-end, arguments-next, kept-below}
use Rattle.steps.specs.Finding.{by_first}
use Rattle.search_names.specs.Seeking.{first_at}
use Rattle.search_calls.specs.Passing.{field_own, passer_at, passed, all_passed, passer-declared, passer-formal, Led, Handed, AllHanded}
use Rattle.search_calls.specs.Reading.{own_read, read-direct, read-formal}

module _ (code numbers blocks froms : List ℕ) (live : ℕ) where
  abbrev own : ℕ → ℕ
  own place = field_own code numbers blocks froms live place

  -- one argument

  module _ (passers : List ℕ) (place to : ℕ) where
    passed_none : (kind_in (get_or code place 0) ≡ 2 → ⊥) → passers ≡ passed code numbers blocks froms live passers place to
    unfolding passed
    passed_none d = rw (passed, ne_eqb (kind_in (get_or code place 0)) 2 d)

    passed_on : {p : ℕ} → kind_in (get_or code place 0) ≡ 2 → p ≡ passer_at code numbers blocks froms live passers place → set passers to p ≡ passed code numbers blocks froms live passers place to
    unfolding passed
    passed_on e q = rw (passed, eq-eqb (kind_in (get_or code place 0)) 2 e, q)

    -- by the word, its first cell and its position as they were read
    module _ (cells : List ℤ) {v f q : ℕ} (read : v ≡ get_or code place 0) (first : f ≡ first_at numbers blocks froms live place) (low : f ≤ 32 * live) (position : q ≡ position_in v) (near : q < 32) where
      own_is : f + q ≡ own place
      own_is = own_read code numbers blocks froms live place read first position

      own_below : own place < 32 * live + 32
      own_below = omega (arith, own_is)

      word-handed : {z : ℤ} → mag z < 2147483648 → z ≡ handed_word cells v (f + q) → set cells to (to_z w32 (of_z w32 z)) ≡ set cells to (handed_word cells (get_or code place 0) (own place))
      word-handed {z} small is = ap (set cells to) (read_back z small ∙ is ∙ ap₂ (handed_word cells) read own_is)

      abbrev To : List ℤ → List ℕ → Type 0
      To cells' passers' = Handed code numbers blocks froms live cells passers place to cells' passers'

      module _ {z : ℤ} (small : mag z < 2147483648) (is : z ≡ handed_word cells v (f + q)) {k : ℕ} (kind : k ≡ kind_in v) where
        pub handed-none : (k ≡ 2 → ⊥) → To (set cells to (to_z w32 (of_z w32 z))) passers
        handed-none d = record { cells_are = word-handed small is; passers-are = passed_none (λ e. d (kind ∙ ap kind_in read ∙ e)); own-low = own_below }

        module _ (procedure : k ≡ 2) {d : ℕ} (formal : d ≡ formal_in v) where
          of-kind : kind_in (get_or code place 0) ≡ 2
          of-kind = sym (ap kind_in read) ∙ sym kind ∙ procedure

          pub handed-declared : d ≡ 0 → {p : ℕ} → p ≡ live → To (set cells to (to_z w32 (of_z w32 z))) (set passers to p)
          handed-declared e p = record { cells_are = word-handed small is; passers-are = passed_on of-kind (p ∙ sym (passer-declared code numbers blocks froms live passers place (read-direct read formal e))); own-low = own_below }

          pub handed-formal : (d ≡ 0 → ⊥) → To (set cells to (to_z w32 (of_z w32 z))) (set passers to (get_or passers (f + q) 0))
          handed-formal n =
              record {
                cells_are = word-handed small is;
                passers-are = passed_on of-kind (ap (λ (c : ℕ). get_or passers c 0) own_is ∙ sym (passer-formal code numbers blocks froms live passers place (read-formal read formal n)));
                own-low = own_below;
              }

  -- in turn: those still to come give all of them, and what lies below the next activation is as it was

  abbrev next : ℕ
  next = 32 * live + 32

  pub record Handing (cells : List ℤ) (passers : List ℕ) (at count : ℕ) (cells' : List ℤ) (passers' : List ℕ) (i : ℕ) : Type 0 where
    few : i ≤ count
    kept : (k : ℕ) → k < next → get_or cells' k (pos 0) ≡ get_or cells k (pos 0)
    rest : (first_of : ℕ → ℕ) → Led code numbers blocks froms live first_of at count
        → set_all cells' (next + i) (arguments_from (by_first cells first_of) (only-cells code cells at) (at + i) (count - i)) ≡
        set_all cells next (arguments_from (by_first cells first_of) (only-cells code cells at) at count)
    passing : all_passed code numbers blocks froms live passers' (at + i) (next + i) (count - i) ≡ all_passed code numbers blocks froms live passers at next count

  module _ {cells : List ℤ} {passers : List ℕ} {at count : ℕ} where
    pub handing-start : Handing cells passers at count cells passers 0
    handing-start =
        let f : next + 0 ≡ next = omega arith in
        let p : at + 0 ≡ at = omega arith in
        let n : count - 0 ≡ count = omega arith in
        record { few = omega arith; kept = λ k h. refl; rest = λ first_of led. rw (f, p, n); passing = rw (f, p, n) }

    module _ {cells' : List ℤ} {passers' : List ℕ} {i : ℕ} (done : Handing cells passers at count cells' passers' i) where
      pub handing-end : count ≤ i → AllHanded code numbers blocks froms live cells passers at count cells' passers'
      unfolding all_passed
      handing-end h =
          let e : count - i ≡ 0 = omega arith in
          record {
            cells_are = λ first_of led. arguments-end (by_first cells first_of) (only-cells code cells at) cells' next at count i h ∙ done.rest first_of led;
            passers-are = rw (e, all_passed) at done.passing;
          }

      passing-on : i < count
          → all_passed code numbers blocks froms live (passed code numbers blocks froms live passers' (at + i) (next + i)) (at + (i + 1)) (next + (i + 1)) (count - (i + 1)) ≡
          all_passed code numbers blocks froms live passers' (at + i) (next + i) (count - i)
      unfolding all_passed
      passing-on h =
          let e : count - i ≡ suc (count - (i + 1)) = omega arith in
          let a : at + (i + 1) ≡ at + i + 1 = omega arith in
          let f : next + (i + 1) ≡ next + i + 1 = omega arith in
          rw (e, a, f, all_passed)

      pub handing-step : i < count → {cells'' : List ℤ} {passers'' : List ℕ}
          → Handed code numbers blocks froms live cells' passers' (at + i) (next + i) cells'' passers''
          → Handing cells passers at count cells'' passers'' (i + 1)
      handing-step more {cells''} {passers''} h =
          let v = get_or code (at + i) 0 in
          let z = handed_word cells' v (own (at + i)) in
          record {
            few = omega arith;
            kept = λ k l. ap (λ (ws : List ℤ). get_or ws k (pos 0)) h.cells_are ∙ kept-below cells' cells next i z done.kept k l;
            rest = λ first_of led.
                let q = handed-is cells (first_at numbers blocks froms live (at + i)) v cells' (done.kept (own (at + i)) h.own-low) in
                let q' = q ∙ ap (λ (m : ℕ). handed_by cells m v) (led i more) in
                ap (λ (ws : List ℤ). set_all ws (next + (i + 1)) (arguments_from (by_first cells first_of) (only-cells code cells at) (at + (i + 1)) (count - (i + 1)))) h.cells_are
                ∙ arguments-next (by_first cells first_of) (only-cells code cells at) cells' next at count i more q' ∙ done.rest first_of led;
            passing = ap (λ (ps : List ℕ). all_passed code numbers blocks froms live ps (at + (i + 1)) (next + (i + 1)) (count - (i + 1))) h.passers-are ∙ passing-on more ∙ done.passing;
          }
