-- 26 is given only to a call through a formal. `only-through-formals`: where a reply says stopped with 26, the script is the encoding of a program t that keeps the
-- rules, and the statement at the reply's offset is a CL of t that calls a formal, as written. No machine's state is in `CallsFormal`: it is said of the text.
use Rattle.std.specs.Prelude.{ℕ, List, [], ◌≡◌}
use Rattle.std.proofs.Math.Option.{none, some}
use Rattle.language.specs.Basics.{lookup}
use Rattle.language.specs.Text.{procedure, Formal, Action, CL, Block}
use Rattle.language.specs.Scope.{Meaning, Scope, formal_meaning}
use Rattle.coordinates.specs.Enclosure.{Enclosure}
use Rattle.causes.specs.Sites.{Sees}
use Rattle.causes.specs.FormalSites.{StandsAmong, NearestFormal}

-- The CL at offset o of the program t calls a formal: what is called means a procedure there and does not say what it takes; and of the blocks around
-- the CL, innermost first, the nearest that has the name has it as a formal, which is what gives it that meaning.
pub record CallsFormal (t : Block) (o : ℕ) : Type 0 where
  pub called : ℕ
  pub arguments : List ℕ
  pub scope : Scope
  pub seen : Sees t [] [] o (CL called arguments) scope
  -- no other action stands at o
  pub alone : (a : Action) (sc : Scope) → Sees t [] [] o a sc → (CL called arguments ≡ a) × (scope ≡ sc)
  pub meaning : Meaning
  pub means : lookup called scope ≡ some meaning
  pub kind : meaning.kind ≡ procedure
  pub takes : meaning.takes ≡ none
  pub around : Enclosure
  pub stands : StandsAmong t around o (CL called arguments)
  pub formal : Formal
  pub nearest : NearestFormal called formal around
  pub gives : formal_meaning formal ≡ (called, meaning)
