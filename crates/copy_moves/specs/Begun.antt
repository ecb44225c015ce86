-- What the program's start asks, in numbers (`Beginnable`), and what it makes of the arrays (`BegunIn`).
use Rattle.std.specs.Prelude.{ℕ, ◌+◌, ◌*◌, ◌/◌, ◌≤◌, ◌<◌, true, List, ◌≡◌, length, get_or, set}
use Rattle.laws.specs.Fields.{field_at}
use Rattle.resolved.specs.Resolved.{level_in, direct}
use Rattle.resolved.specs.Layout.{first_in}
use Rattle.copy_texts.specs.Texts.{renewed, Copied, noted_from}
use Rattle.run_state.specs.declared.Registers.{Registers}
use Rattle.copy_entry.specs.Anew.{names_at, end_at}

pub record Beginnable (script code names area : List ℕ) : Type 0 where
  pub short : length script ≤ 8192
  pub area-long : length script / 2 ≤ length area
  pub text-within : end_at code 0 ≤ 4096
  pub text-there : end_at code 0 ≤ length area
  pub names-few : names_at code 0 ≤ 32
  -- the program has no formals
  pub no-formals : (q : ℕ) → q < end_at code 0 → level_in (get_or names q 0) ≡ 1 → direct (get_or names q 0) ≡ true
  pub no-formal-looked : level_in (get_or code 2 0) ≡ 1 → direct (get_or code 2 0) ≡ true

pub record BegunIn (script code names area firsts targets looked : List ℕ) (pairs : ℕ) (area' firsts' targets' looked' : List ℕ) (r : Registers) : Type 0 where
  pub filled : List ℕ
  pub fields : (i : ℕ) → i < length script / 2 → get_or filled i 0 ≡ field_at script (2 * i)
  pub as_long : length filled ≡ length area
  pub copied : Copied filled area' names 0 0 0 1 65536 0 (end_at code 0)
  pub targets-are : targets' ≡ noted_from targets names 0 1 0 (end_at code 0)
  pub firsts-are : firsts' ≡ set firsts 0 65536
  pub looked-is : looked' ≡ set looked 0 (renewed filled 0 1 65536 (get_or code 2 0) 0)
  pub registers-are : r ≡ record { live = 0; at = first_in (get_or code 1 0); end = end_at code 0; pairs = pairs; level = 0; fresh = 65536 + names_at code 0 }
