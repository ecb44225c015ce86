-- What is proved of every name that a statement uses as it is done, and how it is said. Theorems.antt proves it.
use Rattle.std.specs.Prelude.{ℕ, ◌≤◌, ◌≡◌}
use mathlib.Core.List.{List, [], ◌∷◌, map, Memᴰ}
use Rattle.std.proofs.Math.Option.{Option, none, some}
use Rattle.std.proofs.Math.ListN.{get_elem?}
use Rattle.language.specs.Basics.{last?}
use Rattle.language.specs.Text.{Kind, variable, label, procedure, Action, CL, GO, IF, KN, AR, AD, RM, QY, Block, DO, decl_kind, declared_names}
use Rattle.language.specs.Check.{check, accepted}
use Rattle.language.specs.Table.{Table}
use Rattle.language.specs.Machine.{Activation, State, Limits, Instance, instance, next_stmt, run, start}
use Rattle.grammar.specs.Rules.{Bytes}

-- the names that a statement uses, each with the kind wanted; of CL's arguments any kind will do
unfoldable pub uses_of : Action → List (ℕ × Option Kind)
uses_of (CL p xs) = (p, some procedure) ∷ map (λ (x : ℕ). (x, none)) xs
uses_of (GO l) = (l, some label) ∷ []
uses_of (IF v l) = (v, some variable) ∷ (l, some label) ∷ []
uses_of (KN t z) = (t, some variable) ∷ []
uses_of (AR t o l r) = (t, some variable) ∷ (l, some variable) ∷ (r, some variable) ∷ []
uses_of (AD g m) = (g, some variable) ∷ (m, some variable) ∷ []
uses_of (RM g m) = (g, some variable) ∷ (m, some variable) ∷ []
uses_of (QY t g m) = (t, some variable) ∷ (g, some variable) ∷ (m, some variable) ∷ []

-- a kind does where any will, or where it is the one wanted
abbrev pub Serves : Option Kind → Kind → Type 0
Serves none k = Unit {0}
Serves (some w) k = w ≡ k

-- A name in a state: it is a new one, and a live activation declares it, with a kind that serves.
pub record Stands (s : State) (name : ℕ) (wanted : Option Kind) : Type 0 where
  pub new : 65536 ≤ name
  pub it : Instance
  pub found : instance s name ≡ some it
  pub serves : Serves wanted (decl_kind it.decl)

-- the state that a run of an accepted script has come to after at most n steps
abbrev pub after : Limits → ℕ → Block → Table → State
after l n t table = (run l n (start t table)).final

-- Of every script of bytes that the check accepts, whatever the limits and the table, after any number of steps: each name that
-- the next statement uses stands in that state. (The names are those of
-- the copy that the innermost activation runs. A BK uses none, and where no activation is live there is no statement.)
abbrev pub EveryUseStands : Type 0
EveryUseStands =
    (bs : List ℕ) (t : Block) → Bytes bs → check bs ≡ accepted t →
    (l : Limits) (table : Table) (n : ℕ) (a : Activation) (at : ℕ) (x : Action) →
    last? (after l n t table).live ≡ some a → next_stmt a ≡ some (DO at x) →
    (name : ℕ) (wanted : Option Kind) → Memᴰ (name, wanted) (uses_of x) → Stands (after l n t table) name wanted

-- And no name is declared at two places of the live activations: i and j are places among them, p and q among their declarations.
abbrev pub DeclaredOnce : Type 0
DeclaredOnce =
    (bs : List ℕ) (t : Block) → Bytes bs → check bs ≡ accepted t →
    (l : Limits) (table : Table) (n : ℕ) (i j p q : ℕ) (a b : Activation) (name : ℕ) →
    get_elem? (after l n t table).live i ≡ some a → get_elem? (declared_names a.text) p ≡ some name →
    get_elem? (after l n t table).live j ≡ some b → get_elem? (declared_names b.text) q ≡ some name → (i ≡ j) × (p ≡ q)
