-- One step, and The copy rule, written out: the machine that every engine is held to.
use Rattle.std.specs.Prelude.{ℕ, zero, suc, pred, ◌+◌, ◌-◌, true, false, List, [], ◌∷◌, ◌++◌, map, eqb, leb, ltb, ℤ, pos, ◌+ℤ◌, ◌-ℤ◌, length, take}
use Rattle.std.proofs.Math.Option.{Option, none, some}
use Rattle.std.proofs.Math.ListN.{get_elem?}
use Rattle.std.specs.Int.Signed.{mag, lt_z}
use Rattle.language.specs.Basics.{lookup, zip, up_from, last?, but_last, eq_z}
use Rattle.language.specs.Text.{Kind, Operation, plus, minus, less, Action, CL, GO, IF, KN, AR, AD, RM, QY, Block, Decl, VR, LB, PR, Stmt, BK, DO, block_decls, block_stmts, stmt_at, decl_name, decl_kind, label_index, decl_formals, decl_body, formal_names, formal_kinds, declared_names}
use Rattle.language.specs.Scope.{agree}
use Rattle.language.specs.Table.{Table, Effect, leaves, halts, Asked, gives, refuses, added, removed, queried}
use Rattle.language.specs.Copy.{Replacement, rename_block}
use Rattle.language.specs.declared.Stop.{Stop}
use Rattle.language.specs.declared.Stop.TheVariants.{ResultTooLarge, NoActivationLeft, ArgumentsDiffer}
use Rattle.language.specs.declared.End.{End}
use Rattle.language.specs.declared.End.TheVariants.{Finished, Spent, Stopped}

-- An activation. No other shares its text; `arguments` are the names put for its formals; `encloser` is the number of the activation
-- from whose copy the text was taken, 0 for the program, which stands in none; `reads` says how the names in sight of the text now
-- read, in one part for each block around it, its own part first.
pub record Activation : Type 0 where
  pub text : Block
  pub arguments : List ℕ
  pub next : ℕ
  pub encloser : ℕ
  pub reads : List Replacement

-- All that the machine holds: activations outermost first, values newest first, and `fresh`, the name to be given out next. The list of groups
-- (request 3) is no part of it: it says of the table what counting says, so that a step that counts comes to the same, and `replied` computes the
-- list of the table wherever a run ends.
pub record State : Type 0 where
  pub live : List Activation
  pub values : List (ℕ × ℤ)
  pub fresh : ℕ
  pub table : Table
  pub steps : ℕ

-- D and G
pub record Limits : Type 0 where
  pub activations : ℕ
  pub limit : ℕ

unfoldable pub with_live : State → List Activation → State
with_live s as' = record { live = as'; values = s.values; fresh = s.fresh; table = s.table; steps = s.steps }

unfoldable pub with_table : State → Table → State
with_table s t = record { live = s.live; values = s.values; fresh = s.fresh; table = t; steps = s.steps }

unfoldable pub resume : Activation → ℕ → Activation
resume a n = record { text = a.text; arguments = a.arguments; next = n; encloser = a.encloser; reads = a.reads }

-- The newest value of a name is its value; a variable has one, 0, from its activation's entry on.
unfoldable pub store : State → ℕ → ℤ → State
store s x z = record { live = s.live; values = (x, z) ∷ s.values; fresh = s.fresh; table = s.table; steps = s.steps }

unfoldable pub value : State → ℕ → ℤ
value s x = elim (lookup x s.values) [ none ↦ pos 0 | some z ↦ z ]

unfoldable pub zeros : List Decl → List (ℕ × ℤ)
zeros [] = []
zeros (VR at n ∷ ds) = (n, pos 0) ∷ zeros ds
zeros (LB at n i ∷ ds) = zeros ds
zeros (PR at n fs b ∷ ds) = zeros ds

-- how a block's own names read: a formal as its argument, a declared name as a fresh number
unfoldable pub own_names : List ℕ → List ℕ → ℕ → Block → Replacement
own_names formals arguments new b = zip formals arguments ++ zip (declared_names b) (up_from new (length (declared_names b)))

-- a block entered, out of the text of activation `encloser`, in which names read as `around`; no copy is used twice
unfoldable pub activation : List ℕ → List ℕ → ℕ → Block → ℕ → List Replacement → Activation
activation formals arguments new b encloser around =
    let own = own_names formals arguments new b in
    record { text = rename_block b own; arguments = arguments; next = 1; encloser = encloser; reads = own ∷ around }

unfoldable pub enter : State → List ℕ → List ℕ → Block → ℕ → List Replacement → State
enter s formals arguments b encloser around =
    let a = activation formals arguments s.fresh b encloser around in
    record { live = s.live ++ (a ∷ []); values = zeros (block_decls a.text) ++ s.values; fresh = s.fresh + length (declared_names b); table = s.table; steps = s.steps }

-- The declared instance of a new name: where among the live activations it is declared, and the declaration as that copy has it.
pub record Instance : Type 0 where
  pub number : ℕ
  pub position : ℕ
  pub home : Activation
  pub decl : Decl

-- positions go on from i
unfoldable pub declared_at : ℕ → ℕ → List Decl → Option (ℕ × Decl)
declared_at x i [] = none
declared_at x i (d ∷ ds) = elim (eqb (decl_name d) x) [ true ↦ some (i, d) | false ↦ declared_at x (suc i) ds ]

-- formals come first, so a block's declarations begin one position after them; numbers go on from k
unfoldable pub instance_from : ℕ → ℕ → List Activation → Option Instance
instance_from x k [] = none
instance_from x k (a ∷ rest) =
    elim (declared_at x (suc (length a.arguments)) (block_decls a.text)) [
      | none ↦ instance_from x (suc k) rest
      | some p ↦ some (record { number = k; position = p.0; home = a; decl = p.1 })
    ]

unfoldable pub instance : State → ℕ → Option Instance
instance s x = instance_from x 1 s.live

unfoldable pub kind_at : State → ℕ → Option Kind
kind_at s x = elim (instance s x) [ none ↦ none | some i ↦ some (decl_kind i.decl) ]

-- Doing a statement gives the state after it, or the cause to stop.
pub data Done : Type 0 where
  did : State → Done
  stop : Stop → Done

-- 22 where D activations are live
unfoldable pub enter_if_room : Limits → State → List ℕ → List ℕ → Block → ℕ → List Replacement → Done
enter_if_room l s formals arguments b encloser around =
    elim (ltb (length s.live) l.activations) [ true ↦ did (enter s formals arguments b encloser around) | false ↦ stop NoActivationLeft ]

-- CL: the text of the body is its declaring activation's, wherever the call comes from; 26 is tested before 22. (A name of no instance
-- calls nothing: no accepted script comes there.)
unfoldable pub call : Limits → State → ℕ → List ℕ → Done
call l s p xs =
    elim (instance s p) [
      | none ↦ did s
      | some i ↦ elim (agree (formal_kinds (decl_formals i.decl)) (map (kind_at s) xs)) [
        | true ↦ enter_if_room l s (formal_names (decl_formals i.decl)) xs (decl_body i.decl) i.number i.home.reads
        | false ↦ stop ArgumentsDiffer
      ]
    ]

-- GO: the label's activation becomes the innermost, and goes on at the label's index
unfoldable pub jump : State → ℕ → State
jump s x =
    elim (instance s x) [
      | none ↦ s
      | some i ↦ with_live s (take (pred i.number) s.live ++ (resume i.home (label_index i.decl) ∷ []))
    ]

unfoldable pub compute : Operation → ℤ → ℤ → ℤ
compute plus a b = a +ℤ b
compute minus a b = a -ℤ b
compute less a b = elim (lt_z a b) [ true ↦ pos 1 | false ↦ pos 0 ]

-- 21: mag z is z, or −z − 1 where z is negative
unfoldable pub store_if_fits : State → ℕ → ℤ → Done
store_if_fits s x z = elim (ltb (mag z) 2147483648) [ true ↦ did (store s x z) | false ↦ stop ResultTooLarge ]

-- AD, RM and QY: Table.antt says what they come to (added, removed, queried), with 23, 24 and 25 in their order
unfoldable pub as_done : State → Effect → Done
as_done s (leaves t) = did (with_table s t)
as_done s (halts c) = stop c

unfoldable pub as_stored : State → ℕ → Asked → Done
as_stored s x (gives z) = did (store s x z)
as_stored s x (refuses c) = stop c

unfoldable pub add_pair : Limits → State → ℤ → ℤ → Done
add_pair l s g m = as_done s (added l.limit g m s.table)

unfoldable pub remove_pair : State → ℤ → ℤ → Done
remove_pair s g m = as_done s (removed g m s.table)

unfoldable pub query_pair : State → ℕ → ℤ → ℤ → Done
query_pair s x g m = as_stored s x (queried g m s.table)

unfoldable pub do_action : Limits → State → Action → Done
do_action l s (CL p xs) = call l s p xs
do_action l s (GO x) = did (jump s x)
do_action l s (IF v x) = elim (eq_z (value s v) (pos 0)) [ true ↦ did s | false ↦ did (jump s x) ]
do_action l s (KN t z) = did (store s t z)
do_action l s (AR t o a b) = store_if_fits s t (compute o (value s a) (value s b))
do_action l s (AD g m) = add_pair l s (value s g) (value s m)
do_action l s (RM g m) = remove_pair s (value s g) (value s m)
do_action l s (QY t g m) = query_pair s t (value s g) (value s m)

-- a statement of the innermost activation a, whose number is that of the live ones; a BK's text is taken from a's copy
unfoldable pub do_stmt : Limits → State → Activation → Stmt → Done
do_stmt l s a (BK b) = enter_if_room l s [] [] b (length s.live) a.reads
do_stmt l s a (DO at x) = do_action l s x

-- the innermost activation's next statement, where there is one
unfoldable pub next_stmt : Activation → Option Stmt
next_stmt a = get_elem? (block_stmts a.text) (pred a.next)

-- past the statement that is about to be done
unfoldable pub advance : State → Activation → State
advance s a = with_live s (but_last s.live ++ (resume a (suc a.next) ∷ []))

unfoldable pub step_in : Limits → State → Activation → Done
step_in l s a = elim (next_stmt a) [ none ↦ did (with_live s (but_last s.live)) | some x ↦ do_stmt l (advance s a) a x ]

-- One step, of a state in which an activation is live.
unfoldable pub step : Limits → State → Done
step l s = elim (last? s.live) [ none ↦ did s | some a ↦ step_in l s a ]

-- What the step from s to s' costs: 1, whatever it does.
unfoldable pub cost : State → State → ℕ
cost s s' = 1

-- s', with the step from s counted
unfoldable pub counted : State → State → State
counted s s' = record { live = s'.live; values = s'.values; fresh = s'.fresh; table = s'.table; steps = s'.steps + cost s s' }

-- where the next statement stands; 0 if no statement is next
unfoldable pub next_offset : State → ℕ
next_offset s = elim (last? s.live) [ none ↦ 0 | some a ↦ elim (next_stmt a) [ none ↦ 0 | some x ↦ stmt_at x ] ]

-- How a run ends: the end with its cause, the offset to report and the state.
pub record Outcome : Type 0 where
  pub end : End
  pub offset : ℕ
  pub final : State

unfoldable pub ends : End → ℕ → State → Outcome
ends e o s = record { end = e; offset = o; final = s }

-- Before each step, with so many left: finished is asked before spent, spent before stopped, and last whether the step's cost is left. A step that stops
-- or is not begun leaves the state that it found. Every step costs at least 1, so that no run comes to the end of its bound, which the recursion goes by.
unfoldable pub run_within : ℕ → Limits → ℕ → State → Outcome
run_within zero l left s = ends Spent 0 s
run_within (suc bound) l left s =
    elim s.live [
      | [] ↦ ends Finished 0 s
      | a ∷ rest ↦ elim left [
        | zero ↦ ends Spent 0 s
        | suc n ↦ elim (step l s) [
          | stop c ↦ ends (Stopped c) (next_offset s) s
          | did s' ↦ elim (leb (cost s s') (suc n)) [
            | true ↦ run_within bound l (suc n - cost s s') (counted s s')
            | false ↦ ends Spent 0 s
          ]
        ]
      ]
    ]

unfoldable pub run : Limits → ℕ → State → Outcome
run l allowance s = run_within (suc allowance) l allowance s

-- The program is entered before the first step. Names as written have 16 bits, so new ones begin at 65,536.
unfoldable pub start : Block → Table → State
start program t = enter (record { live = []; values = []; fresh = 65536; table = t; steps = 0 }) [] [] program 0 []
