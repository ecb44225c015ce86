-- Causes and numbers: each stop, 21 to 26, on its cause and on no other. A cause is said here of the state before a step: its next statement, the
-- values, the live activations and the table. `StopDue l s c`: the cause c holds there and none that comes before it in document 01's order.
-- Stopping.antt has the theorems.
use Rattle.std.specs.Prelude.{ℕ, ◌≤◌, true, false, List, [], map, ◌⊎◌, ◌≡◌, length}
use Rattle.std.proofs.Math.Option
use Rattle.std.proofs.Math.Option.{Option, none, some}
use Rattle.std.specs.Int.Signed.{mag}
use Rattle.language.specs.Basics.{last?}
use Rattle.language.specs.Text.{Operation, Action, CL, GO, IF, KN, AR, AD, RM, QY, Block, Decl, Stmt, BK, DO, decl_formals, formal_kinds}
use Rattle.language.specs.Table.{holds, size, at_least_one, full}
use Rattle.language.specs.Machine.{Activation, State, Limits, Instance, value, instance, kind_at, compute, next_stmt}
use Rattle.language.specs.declared.Stop.{Stop}
use Rattle.language.specs.declared.Stop.TheVariants.{ResultTooLarge, NoActivationLeft, NumberBelowOne, GroupFull, TableFull, ArgumentsDiffer}
use Rattle.laws.specs.Kinds.{Differs}

-- x is the next statement of the innermost activation
pub record Next (s : State) (x : Stmt) : Type 0 where
  pub innermost : Activation
  pub last : last? s.live ≡ some innermost
  pub next : next_stmt innermost ≡ some x

-- the declaration that a name stands for
unfoldable pub declared : State → ℕ → Option Decl
declared s x = Option.map (λ (i : Instance). i.decl) (instance s x)

-- the names of the group and the member of AD, RM and QY
unfoldable pub pair_of : Action → Option (ℕ × ℕ)
pair_of (CL p xs) = none
pair_of (GO x) = none
pair_of (IF v x) = none
pair_of (KN t z) = none
pair_of (AR t o a b) = none
pair_of (AD g m) = some (g, m)
pair_of (RM g m) = some (g, m)
pair_of (QY t g m) = some (g, m)

-- 21: the next statement is an AR whose result lies outside signed 32 bits (mag z is z, or −z − 1 where z is negative)
pub record TooLarge (s : State) : Type 0 where
  pub at : ℕ
  pub target : ℕ
  pub operation : Operation
  pub left : ℕ
  pub right : ℕ
  pub next : Next s (DO at (AR target operation left right))
  pub large : 2147483648 ≤ mag (compute operation (value s left) (value s right))

-- 22: it enters a block, or the body of what it calls, while D activations are live
pub data Enters (s : State) : Type 0 where
  enters-block : (b : Block) → Next s (BK b) → Enters s
  enters-body : (at p : ℕ) (xs : List ℕ) (d : Decl) → Next s (DO at (CL p xs)) → declared s p ≡ some d → Enters s

abbrev pub NoRoom : Limits → State → Type 0
NoRoom l s = Enters s × (l.activations ≤ length s.live)

-- 23: it is an AD, RM or QY whose group or member is below 1
pub record BelowOne (s : State) : Type 0 where
  pub at : ℕ
  pub action : Action
  pub group : ℕ
  pub member : ℕ
  pub next : Next s (DO at action)
  pub pair : pair_of action ≡ some (group, member)
  pub below : (at_least_one (value s group) ≡ false) ⊎ (at_least_one (value s member) ≡ false)

-- 24 and 25: it is an AD, its pair is absent, and its group has G members, or the table is full
pub record Adds (s : State) : Type 0 where
  pub at : ℕ
  pub group : ℕ
  pub member : ℕ
  pub next : Next s (DO at (AD group member))
  pub absent : holds (value s group) (value s member) s.table ≡ false

abbrev pub NoMember : Limits → State → Type 0
NoMember l s = (a : Adds s) × (l.limit ≤ size (value s a.group) s.table)

abbrev pub NoPlace : State → Type 0
NoPlace s = Adds s × (full s.table ≡ true)

-- 26: it is a CL whose arguments differ in number or kind from the formals of the procedure that the called name stands for
pub record Differ (s : State) : Type 0 where
  pub at : ℕ
  pub called : ℕ
  pub arguments : List ℕ
  pub procedure : Decl
  pub next : Next s (DO at (CL called arguments))
  pub stands : declared s called ≡ some procedure
  pub differ : Differs (formal_kinds (decl_formals procedure)) (map (kind_at s) arguments)

-- In a step: 23, 24, 25; and 26 before 22.
abbrev pub StopDue : Limits → State → Stop → Type 0
StopDue l s ResultTooLarge = TooLarge s
StopDue l s NoActivationLeft = NoRoom l s × (Differ s → ⊥)
StopDue l s NumberBelowOne = BelowOne s
StopDue l s GroupFull = NoMember l s × (BelowOne s → ⊥)
StopDue l s TableFull = NoPlace s × (BelowOne s → ⊥) × (NoMember l s → ⊥)
StopDue l s ArgumentsDiffer = Differ s
