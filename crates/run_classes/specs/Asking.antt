-- The statement at a place, with the first cells of the activations that declare its names, in the order of its fields: what its function asks, by the
-- operation (`Ready`), when a way of finding names is the one by which the cells were found (`Leads`), and what it has then done (`Did`). A call's arguments
-- are not handed on yet.
use Rattle.std.specs.Prelude.{ℕ, ◌+◌, ◌≤◌, List, ◌≡◌, ℤ}
use Rattle.arrays.specs.Found.{held_by}
use Rattle.run_moves.specs.declared.Move.{Move}
use Rattle.run_moves.specs.declared.Move.TheVariants.{On, Table as Asks, Jump, Enter, Stop}
use Rattle.run_moves.specs.Acting.{Happened}
use Rattle.run_moves.specs.Acting.{Op, constant-op, add-op, subtract-op, compare-op, branch-op, goto-op, block-op, call-op, pair-op, unpair-op, query-op}
use Rattle.run_moves.specs.Acting.{constant-formal-op, arithmetic-formal-op, branch-formal-op, goto-formal-op, call-formal-op}
use Rattle.resolved.specs.Layout.{lead_in}
use Rattle.run_classes.specs.declared.Class.{Class}
use Rattle.run_classes.specs.declared.Class.TheVariants.{One as OneName, Add, Subtract, Compare, ArithmeticFormal, Branch, Pair, Query, Constant}
use Rattle.run_statements.specs.Pieces.{FormalsBefore}
use Rattle.run_cells.specs.Finding.{Reachable, Direct, ThroughFormal}
use Rattle.run_cells.specs.Calling.{word_after, Calling}

module _ (code : List ℕ) (cells : List ℤ) (activations live at first second third : ℕ) where
  abbrev pub Ready : Op → Type 0
  Ready constant-op = (at + 4 ≤ 4096) × Direct cells first (word_after code at 1)
  Ready add-op = (at + 5 ≤ 4096) × Direct cells first (word_after code at 1) × Direct cells second (word_after code at 3) × Direct cells third
      (word_after code at 4)
  Ready subtract-op = (at + 5 ≤ 4096) × Direct cells first (word_after code at 1) × Direct cells second (word_after code at 3) × Direct cells third
      (word_after code at 4)
  Ready compare-op = (at + 5 ≤ 4096) × Direct cells first (word_after code at 1) × Direct cells second (word_after code at 3) × Direct cells third
      (word_after code at 4)
  Ready branch-op = (at + 3 ≤ 4096) × Direct cells first (word_after code at 1) × Direct cells second (word_after code at 2)
  Ready goto-op = (at + 2 ≤ 4096) × Direct cells first (word_after code at 1)
  Ready block-op = (at + 2 ≤ 4096) × (live ≤ 255)
  Ready call-op = Calling code activations live at × Direct cells first (word_after code at 1)
  Ready pair-op = (at + 3 ≤ 4096) × Reachable cells first (word_after code at 1) × Reachable cells second (word_after code at 2)
  Ready unpair-op = (at + 3 ≤ 4096) × Reachable cells first (word_after code at 1) × Reachable cells second (word_after code at 2)
  Ready query-op = (at + 4 ≤ 4096) × Reachable cells first (word_after code at 1) × Reachable cells second (word_after code at 2) × Reachable cells third
      (word_after code at 3)
  Ready constant-formal-op = (at + 4 ≤ 4096) × Reachable cells first (word_after code at 1)
  Ready arithmetic-formal-op = (at + 5 ≤ 4096) × Reachable cells first (word_after code at 1) × Reachable cells second (word_after code at 3)
      × Reachable cells third (word_after code at 4)
  Ready branch-formal-op = (at + 3 ≤ 4096) × Reachable cells first (word_after code at 1) × Reachable cells second (word_after code at 2)
  Ready goto-formal-op = (at + 2 ≤ 4096) × ThroughFormal cells first (word_after code at 1)
  Ready call-formal-op = Calling code activations live at × ThroughFormal cells first (word_after code at 1)
      × FormalsBefore code (lead_in (held_by cells first (word_after code at 1)))

module _ (first_of : ℕ → ℕ) (code : List ℕ) (at first second third : ℕ) where
  -- the names in one, two and three fields
  abbrev pub One : ℕ → Type 0
  One i = first ≡ first_of (word_after code at i)

  abbrev pub Two : ℕ → ℕ → Type 0
  Two i j = (first ≡ first_of (word_after code at i)) × (second ≡ first_of (word_after code at j))

  abbrev pub Three : ℕ → ℕ → ℕ → Type 0
  Three i j k = (first ≡ first_of (word_after code at i)) × (second ≡ first_of (word_after code at j)) × (third ≡ first_of (word_after code at k))

  abbrev pub Leads : Op → Type 0
  Leads constant-op = One 1
  Leads add-op = Three 1 3 4
  Leads subtract-op = Three 1 3 4
  Leads compare-op = Three 1 3 4
  Leads branch-op = Two 1 2
  Leads goto-op = One 1
  Leads block-op = Unit {0}
  Leads call-op = One 1
  Leads pair-op = Two 1 2
  Leads unpair-op = Two 1 2
  Leads query-op = Three 1 2 3
  Leads constant-formal-op = One 1
  Leads arithmetic-formal-op = Three 1 3 4
  Leads branch-formal-op = Two 1 2
  Leads goto-formal-op = One 1
  Leads call-formal-op = One 1

-- the words as they are before a call's arguments are handed on
unfoldable pub unhanded : Move → List ℤ → List ℤ → List ℤ
unhanded (On p) cells cells' = cells'
unhanded (Asks p g m t a) cells cells' = cells'
unhanded (Jump h p) cells cells' = cells'
unhanded (Enter b h p) cells cells' = cells
unhanded (Stop c) cells cells' = cells'

abbrev pub Did : Happened → List ℤ → Move → List ℤ → Type 0
Did h cells r cells' = (r ≡ h.move) × (cells' ≡ unhanded h.move cells h.cells)

-- The classes: GO, BK, CL, and KN of a formal; AR of which none is a formal, by its operation, and AR of which one is; IF; AD and RM; QY; KN of no formal.
abbrev pub one_class : Class
one_class = OneName

abbrev pub add_class : Class
add_class = Add

abbrev pub subtract_class : Class
subtract_class = Subtract

abbrev pub compare_class : Class
compare_class = Compare

abbrev pub arithmetic_formal_class : Class
arithmetic_formal_class = ArithmeticFormal

abbrev pub branch_class : Class
branch_class = Branch

abbrev pub pair_class : Class
pair_class = Pair

abbrev pub query_class : Class
query_class = Query

abbrev pub constant_class : Class
constant_class = Constant

-- the class of a statement by its operation
unfoldable pub class_of : Op → Class
class_of constant-op = constant_class
class_of add-op = add_class
class_of subtract-op = subtract_class
class_of compare-op = compare_class
class_of branch-op = branch_class
class_of goto-op = one_class
class_of block-op = one_class
class_of call-op = one_class
class_of pair-op = pair_class
class_of unpair-op = pair_class
class_of query-op = query_class
class_of constant-formal-op = one_class
class_of arithmetic-formal-op = arithmetic_formal_class
class_of branch-formal-op = branch_class
class_of goto-formal-op = one_class
class_of call-formal-op = one_class
