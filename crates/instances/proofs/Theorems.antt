-- The theorems of Statement.antt.
use Rattle.std.specs.Prelude.{ℕ, ◌≡◌}
use mathlib.Core.List.{List, [], ◌∷◌, Memᴰ}
use Rattle.std.proofs.Math.Option.{Option}
use Rattle.std.proofs.Common.{sym, subst}
use Rattle.language.specs.Text.{Kind, Block, DO}
use Rattle.language.specs.Check.{check, accepted}
use Rattle.language.specs.Table.{Table}
use Rattle.language.specs.Machine.{State, Limits, start}
use Rattle.grammar.specs.Rules.{Bytes}
use Rattle.instances.specs.Statement.{uses_of, Serves, Stands, after, EveryUseStands, DeclaredOnce}
use Rattle.instances.proofs.Closed.{Kinds, Used, AllUsed, InStmt}
use Rattle.instances.proofs.Accepted.{accepted-closed}
use Rattle.instances.proofs.Invariant.{live_kinds, Invariant}
use Rattle.instances.proofs.Found.{instance-of, between}
use Rattle.instances.proofs.Steps.{started, next-closed, run-keeps}
use Rattle.instances.proofs.Once.{one_place}

-- every state that a run of an accepted script comes to has the invariant
pub always : (bs : List ℕ) (t : Block) → Bytes bs → check bs ≡ accepted t →
    (l : Limits) (table : Table) (n : ℕ) → Invariant (after l n t table)
always bs t bytes e l table n = run-keeps l n (start t table) (started t table (accepted-closed bs t bytes e))

pub use-in : (K : Kinds) (us : List (ℕ × Option Kind)) (u : ℕ × Option Kind) → AllUsed K us → Memᴰ u us → Used K u
use-in K [] u h m = elim m [ ]
use-in K (v ∷ us) u h (Memᴰ.head e) = subst (λ (w : ℕ × Option Kind). Used K w) (sym e) h.0
use-in K (v ∷ us) u h (Memᴰ.tail m) = use-in K us u h.1 m

pub stands : (s : State) (name : ℕ) (wanted : Option Kind) → Invariant s → Used (live_kinds s.live) (name, wanted) → Stands s name wanted
stands s name wanted inv u =
    let i = instance-of s name u.kind u.seen in
    record {
      new = (between s inv name u.kind u.seen).0;
      it = i.0;
      found = i.1;
      serves = subst (λ (k : Kind). Serves wanted k) (sym i.2) u.serves;
    }

pub every-use-stands : EveryUseStands
unfolding InStmt
every-use-stands bs t bytes e l table n a at x last next name wanted m =
    let s : State = after l n t table in
    let inv : Invariant s = always bs t bytes e l table n in
    stands s name wanted inv (use-in (live_kinds s.live) (uses_of x) (name, wanted) (next-closed s a (DO at x) inv last next) m)

pub declared-once : DeclaredOnce
declared-once bs t bytes e l table n i j p q a b name =
    let s : State = after l n t table in
    one_place s (always bs t bytes e l table n) i j p q a b name
