-- Where an action stands, by the blocks around it. `StandsAmong t es o a`: the action a is the statement at offset o of the innermost of the blocks es,
-- which enclose one another in the program t. `stands-sees`: what such an action sees is the scope of es. `NearestFormal p f es`: the nearest of these
-- blocks that has the name p has it as the formal f. `formal-nearest`: so it is for a visible name that means a procedure and does not say what it takes.
use Prim.Native.Nat.{ℕ}
use Rattle.std.specs.Prelude.{false, ◌≡◌}
use mathlib.Core.List.{[], ◌∷◌}
use Rattle.std.proofs.Math.Option.{some}
use Rattle.std.proofs.Math.ListN.{get_elem?}
use Rattle.language.specs.Basics.{among}
use Rattle.language.specs.Text.{Formal, Action, Block, block, DO, block_stmts}
use Rattle.coordinates.specs.Enclosure.{Enclosing, Enclosure, names_of, Encloses}

abbrev pub StandsAmong : Block → Enclosure → ℕ → Action → Type 0
StandsAmong t [] o a = ⊥
StandsAmong t (e ∷ es) o a = Encloses t (e ∷ es) × (i : ℕ) × (get_elem? (block_stmts e.text) i ≡ some (DO o a))

pub data NearestFormal (p : ℕ) (f : Formal) : Enclosure → Type 0 where
  here : {e : Enclosing} {es : Enclosure} (i : ℕ) → get_elem? e.formals i ≡ some f → f.name ≡ p → NearestFormal p f (e ∷ es)
  further : {e : Enclosing} {es : Enclosure} → among p (names_of e) ≡ false → NearestFormal p f es → NearestFormal p f (e ∷ es)

-- From the innermost block out to the program
