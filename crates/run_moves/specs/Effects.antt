-- The effects of statements on the array of cells, which the code of `run_words` has.
use Rattle.std.specs.Prelude.{Result, Ok, Err, ℕ, zero, suc, ◌+◌, ◌*◌, ◌≤◌, ◌<◌, Bool, true, false, ◌&&◌, List, ◌≡◌, eqb, ltb, ℤ, pos, length, get_or, set}
use Rattle.std.specs.Int.Signed.{mag}
use Rattle.language.specs.declared.Stop.{Stop}
use Rattle.language.specs.declared.Stop.TheVariants.{ResultTooLarge}
use Rattle.resolved.specs.Resolved.{kind_in, target_in, direct}
use Rattle.resolved.specs.Layout.{held_from}

-- a statement is done, or there is a cause to stop
abbrev pub Effect : Type 0
Effect = Result (Unit {0}) Stop

-- AR's value is stored where it fits signed 32 bits; else 21
unfoldable pub effect_of : ℤ → Effect
effect_of z = elim (ltb (mag z) 2147483648) [ true ↦ Ok tt | false ↦ Err ResultTooLarge ]

unfoldable pub cells_of : List ℤ → ℕ → ℤ → List ℤ
cells_of cells cell z = elim (ltb (mag z) 2147483648) [ true ↦ set cells cell z | false ↦ cells ]

-- what is handed on of an argument with a word, found at a cell
unfoldable pub handed_word : List ℤ → ℕ → ℕ → ℤ
handed_word cells w cell = elim (direct w) [ true ↦ pos (held_from cell (target_in w)) | false ↦ get_or cells cell (pos 0) ]

-- so many arguments' words and formals' kinds
unfoldable pub same_kinds : List ℕ → ℕ → ℕ → ℕ → Bool
same_kinds code arguments formals zero = true
same_kinds code arguments formals (suc n) =
    eqb (kind_in (get_or code arguments 0)) (get_or code (formals + 2) 0) && same_kinds code (arguments + 1) (formals + 3) n

-- words before `from` stay, those from there to `to` are 0
pub record Cleared (before : List ℤ) (from to : ℕ) (after : List ℤ) : Type 0 where
  pub as_long : length after ≡ length before
  pub kept : (i : ℕ) → i < from → get_or after i (pos 0) ≡ get_or before i (pos 0)
  pub zeros : (i : ℕ) → from ≤ i → i < to → get_or after i (pos 0) ≡ pos 0
