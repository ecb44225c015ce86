-- The records of a script and the records that stand inside each, in file order.
use Rattle.std.specs.Prelude.{ℕ, ◌+◌, ◌*◌, true, false, List, [], ◌∷◌, ◌++◌, map, eqb, length}
use Rattle.language.specs.Text.{Formal, Block, block, Decl, VR, LB, PR, Stmt, BK, DO, decls, stmts}
use Rattle.language.specs.Encoding.{action_fields, formals_fields, block_fields, decl_fields, stmt_fields, BK-mark, PR-mark, CL-mark}
use Rattle.check_marks.specs.Counts.{field_count}
use Rattle.laws.specs.Fields.{field_at}

pub data Item : Type 0 where
  formal : Formal → Item
  body : Block → Item
  declared : Decl → Item
  stated : Stmt → Item

unfoldable pub item_fields : Item → List ℕ
item_fields (formal f) = formals_fields (f ∷ [])
item_fields (body b) = block_fields b
item_fields (declared d) = decl_fields d
item_fields (stated s) = stmt_fields s

unfoldable pub items_fields : List Item → List ℕ
items_fields [] = []
items_fields (x ∷ xs) = item_fields x ++ items_fields xs

unfoldable pub in_block : Block → List Item
in_block (block at ds ss) = map declared (decls ds) ++ map stated (stmts ss)

-- what stands inside a record, and the fields before it
unfoldable pub children : Item → List Item
children (formal f) = []
children (body b) = in_block b
children (declared (VR at n)) = []
children (declared (LB at n i)) = []
children (declared (PR at n fs b)) = map formal fs ++ (body b ∷ [])
children (stated (BK b)) = in_block b
children (stated (DO at a)) = []

unfoldable pub block_head : Block → List ℕ
block_head (block at ds ss) = BK-mark ∷ length (decls ds) ∷ length (stmts ss) ∷ []

unfoldable pub head_fields : Item → List ℕ
head_fields (formal f) = formals_fields (f ∷ [])
head_fields (body b) = block_head b
head_fields (declared (VR at n)) = decl_fields (VR at n)
head_fields (declared (LB at n i)) = decl_fields (LB at n i)
head_fields (declared (PR at n fs b)) = PR-mark ∷ n ∷ length fs ∷ []
head_fields (stated (BK b)) = block_head b
head_fields (stated (DO at a)) = action_fields a

-- By a mark and the fields after it: the bytes before what stands inside a record, and how many records stand inside it. The argument
-- names of a CL come after its fields.
unfoldable pub head_size : ℕ → ℕ → ℕ
head_size w a = elim (eqb w CL-mark) [ true ↦ 2 + 2 * field_count w + 2 * a | false ↦ 2 + 2 * field_count w ]

unfoldable pub child_count : ℕ → ℕ → ℕ → ℕ
child_count w d a =
    elim (eqb w BK-mark) [
      | true ↦ d + a
      | false ↦ elim (eqb w PR-mark) [
        | true ↦ a + 1
        | false ↦ 0
      ]
    ]

-- the entries of records from an offset on
unfoldable pub entries_of : List ℕ → List Item → ℕ → List ℕ
entries_of bs [] at = []
entries_of bs (x ∷ xs) at = (field_at bs (at + 2) + 65536 * at) ∷ entries_of bs xs (at + 2 * length (item_fields x))
