-- What a run begins with.
use Rattle.std.specs.Prelude.{ℕ, ◌*◌, ◌/◌, ◌≤◌, ◌<◌, List, ◌≡◌, ℤ, length, get_or}
use Rattle.language.specs.Encoding.{encode}
use Rattle.resolved.specs.Resolved.{Covers}
use Rattle.copy_fields.specs.NameFields.{named_of}
use Rattle.steps.specs.Begun.{Begun}

-- what every engine's run begins with (`Begun`), the script itself and the words of its names, room for D copies, and arrays of its own with zeros for the
-- first activation
pub record Beginning (script code names : List ℕ) (cells : List ℤ) (area blocks nexts links : List ℕ) (table : List ℤ) (pairs limit activations allowance : ℕ) : Type 0 where
  pub begun : Begun code cells table pairs limit activations
  pub written : script ≡ encode begun.program
  pub names_stand : Covers names 0 (named_of begun.program)
  pub name-small : begun.name < 65536
  pub few-steps : allowance ≤ 1000000
  pub room : activations * (length script / 2) ≤ length area
  pub blocks-long : length blocks ≡ 256
  pub nexts-long : length nexts ≡ 256
  pub links-long : length links ≡ 256
  pub no_block : get_or blocks 0 0 ≡ 0
  pub no-link : get_or links 0 0 ≡ 0
