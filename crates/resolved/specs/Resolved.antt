-- The resolved script: a word for each field of the script, worked out from the tree alone, so that no step of a run searches the text or
-- compares names. A word's place is half the byte offset of its field. At a statement's mark stands its operation, at a name that is used or
-- declared where the name lies and what it leads to, at a block's BK what entering it takes, and at a formal's kind its kind; every other
-- word is 0. The word of the looked-up name stands in each block's BK, since the innermost block at the end is not known before.
use Rattle.std.specs.Prelude.{ℕ, suc, pred, ◌+◌, ◌*◌, ◌/◌, ◌%◌, Bool, true, false, ◌&&◌, List, [], ◌∷◌, ◌++◌, map, ◌≡◌, eqb, length, get_or}
use Rattle.std.proofs.Math.Option.{none, some}
use Rattle.std.proofs.Math.ListN.{get_elem?}
use Rattle.language.specs.Basics.{lookup, zip}
use Rattle.language.specs.Text.{Formal, Action, CL, GO, IF, KN, AR, AD, RM, QY, Block, block, Decl, VR, LB, PR, Stmt, BK, DO, Decls, no-decl, decl, Stmts, no-stmt, stmt, block_at, block_decls, block_stmts, stmt_at}
use Rattle.language.specs.Encoding.{kind_field, operation_field, unsigned, block_fields}
use Rattle.coordinates.specs.Enclosure.{Enclosing, enclosed, Enclosure, names_of}

-- Places

abbrev pub place_of : ℕ → ℕ
place_of at = at / 2

unfoldable pub end_place : Block → ℕ
end_place b = place_of (block_at b) + length (block_fields b)

-- where the statement with a number stands; after the last one stands the end of the text
unfoldable pub stmt_place : Block → ℕ → ℕ
stmt_place b i = elim (get_elem? (block_stmts b) (pred i)) [ none ↦ end_place b | some x ↦ place_of (stmt_at x) ]

-- Names

-- position from 0, whether it is a formal, its kind, the level of its block, and what it leads to
unfoldable pub packed : ℕ → ℕ → ℕ → ℕ → ℕ → ℕ
packed position formal kind level target = position + 32 * formal + 64 * kind + 256 * level + 65536 * target

abbrev pub position_in : ℕ → ℕ
position_in w = w % 32

abbrev pub formal_in : ℕ → ℕ
formal_in w = w / 32 % 2

abbrev pub kind_in : ℕ → ℕ
kind_in w = w / 64 % 4

abbrev pub level_in : ℕ → ℕ
level_in w = w / 256 % 256

abbrev pub target_in : ℕ → ℕ
target_in w = w / 65536

-- a label leads to its statement, a procedure to its body, a variable nowhere
unfoldable pub decl_target : Block → Decl → ℕ
decl_target b (VR at n) = 0
decl_target b (LB at n i) = stmt_place b i
decl_target b (PR at n fs body) = place_of (block_at body)

unfoldable pub decl_kind_field : Decl → ℕ
decl_kind_field (VR at n) = 0
decl_kind_field (LB at n i) = 1
decl_kind_field (PR at n fs body) = 2

-- positions go on from i
unfoldable pub formal_words : ℕ → ℕ → List Formal → List ℕ
formal_words level i [] = []
formal_words level i (f ∷ fs) = packed i 1 (kind_field f.kind) level 0 ∷ formal_words level (suc i) fs

unfoldable pub decl_words : Block → ℕ → ℕ → List Decl → List ℕ
decl_words b level i [] = []
decl_words b level i (d ∷ ds) = packed i 0 (decl_kind_field d) level (decl_target b d) ∷ decl_words b level (suc i) ds

unfoldable pub own_words : Enclosing → ℕ → List ℕ
own_words e level = formal_words level 0 e.formals ++ decl_words e.text level (length e.formals) (block_decls e.text)

-- the visible names with their words, nearest first
unfoldable pub visible_words : Enclosure → List (ℕ × ℕ)
visible_words [] = []
visible_words (e ∷ es) = zip (names_of e) (own_words e (suc (length es))) ++ visible_words es

-- the word of a name in an enclosure; 0 where it is not visible
unfoldable pub name_word : Enclosure → ℕ → ℕ
name_word es n = elim (lookup n (visible_words es)) [ none ↦ 0 | some w ↦ w ]

-- Statements

unfoldable pub direct : ℕ → Bool
direct w = eqb (formal_in w) 0

-- A statement has one operation where none of its names is a formal and another where some name is.
unfoldable pub chosen : Bool → ℕ → ℕ → ℕ
chosen true a b = a
chosen false a b = b

-- A label's or a procedure's word comes first, so that what a statement leads to stands at one place in all of them.
unfoldable pub resolved_action : Enclosure → Action → List ℕ
resolved_action es (KN t z) = let w = name_word es t in chosen (direct w) 0 11 ∷ w ∷ unsigned z ∷ 0 ∷ []
resolved_action es (AR t o l r) =
    let w = name_word es t in let a = name_word es l in let b = name_word es r in
    chosen (direct w && direct a && direct b) (1 + operation_field o) 12 ∷ w ∷ operation_field o ∷ a ∷ b ∷ []
resolved_action es (IF v l) =
    let w = name_word es v in let a = name_word es l in chosen (direct w && direct a) 4 13 ∷ a ∷ w ∷ []
resolved_action es (GO l) = let a = name_word es l in chosen (direct a) 5 14 ∷ a ∷ []
resolved_action es (CL p xs) = let w = name_word es p in chosen (direct w) 7 15 ∷ w ∷ length xs ∷ map (name_word es) xs
resolved_action es (AD g m) = 8 ∷ name_word es g ∷ name_word es m ∷ []
resolved_action es (RM g m) = 9 ∷ name_word es g ∷ name_word es m ∷ []
resolved_action es (QY t g m) = 10 ∷ name_word es t ∷ name_word es g ∷ name_word es m ∷ []

-- Blocks

-- the operation that enters a block, its level, its formals and all its names; where its text ends and its first statement stands; and
-- the word of the looked-up name in it
unfoldable pub head_word : Enclosing → ℕ → ℕ
head_word e level =
    6 + 256 * level + 65536 * length e.formals + 16777216 * (length e.formals + length (block_decls e.text))

unfoldable pub bounds_word : Block → ℕ
bounds_word b = end_place b + 65536 * stmt_place b 1

unfoldable pub header : ℕ → Enclosing → Enclosure → List ℕ
header name e es = head_word e (suc (length es)) ∷ bounds_word e.text ∷ name_word (e ∷ es) name ∷ []

unfoldable pub resolved_formals : List Formal → List ℕ
resolved_formals [] = []
resolved_formals (f ∷ fs) = 0 ∷ 0 ∷ kind_field f.kind ∷ resolved_formals fs

-- a block with its formals, in the enclosure around it; `name` is the looked-up name
unfoldable mutual
  pub resolved_block : ℕ → Block → List Formal → Enclosure → List ℕ
  resolved_block name (block at ds ss) fs es =
      let e = enclosed fs (block at ds ss) in
      header name e es ++ (resolved_decls name ds (e ∷ es) ++ resolved_stmts name ss (e ∷ es))

  pub resolved_decl : ℕ → Decl → Enclosure → List ℕ
  resolved_decl name (VR at n) es = 0 ∷ name_word es n ∷ []
  resolved_decl name (LB at n i) es = 0 ∷ name_word es n ∷ 0 ∷ []
  resolved_decl name (PR at n fs b) es = 0 ∷ name_word es n ∷ 0 ∷ (resolved_formals fs ++ resolved_block name b fs es)

  pub resolved_stmt : ℕ → Stmt → Enclosure → List ℕ
  resolved_stmt name (BK b) es = resolved_block name b [] es
  resolved_stmt name (DO at a) es = resolved_action es a

  pub resolved_decls : ℕ → Decls → Enclosure → List ℕ
  resolved_decls name no-decl es = []
  resolved_decls name (decl d ds) es = resolved_decl name d es ++ resolved_decls name ds es

  pub resolved_stmts : ℕ → Stmts → Enclosure → List ℕ
  resolved_stmts name no-stmt es = []
  resolved_stmts name (stmt s ss) es = resolved_stmt name s es ++ resolved_stmts name ss es

unfoldable pub resolved_of : ℕ → Block → List ℕ
resolved_of name t = resolved_block name t [] []

-- Words that stand in an array from a place on.
abbrev pub Covers : List ℕ → ℕ → List ℕ → Type 0
Covers code p [] = Unit {0}
Covers code p (w ∷ ws) = (get_or code p 0 ≡ w) × Covers code (p + 1) ws
