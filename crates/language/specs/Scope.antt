-- Scope: what each name used stands for, and refusals 9 to 11 where they come first in the script.
use Rattle.std.specs.Prelude.{ℕ, Bool, true, false, ◌&&◌, List, [], ◌∷◌, ◌++◌, map}
use Rattle.std.proofs.Math.Option.{Option, none, some}
use Rattle.language.specs.Basics.{lookup}
use Rattle.language.specs.Text.{Kind, variable, label, procedure, Formal, Action, CL, GO, IF, KN, AR, AD, RM, QY, Block, block, Decl, VR, LB, PR, Stmt, BK, DO, Decls, no-decl, decl, Stmts, no-stmt, stmt, decls, formal_kinds, same_kind}
use Rattle.language.specs.declared.Refusal.{Refusal}
use Rattle.language.specs.declared.Refusal.TheVariants.{NotVisible, WrongKind, CallMismatch}

-- What a name stands for: its kind and, of a declared procedure, the kinds of its formals.
pub record Meaning : Type 0 where
  pub kind : Kind
  pub takes : Option (List Kind)

-- the visible names, nearest declaration first
abbrev pub Scope : Type 0
Scope = List (ℕ × Meaning)

unfoldable pub formal_meaning : Formal → ℕ × Meaning
formal_meaning f = (f.name, record { kind = f.kind; takes = none })

unfoldable pub decl_meaning : Decl → ℕ × Meaning
decl_meaning (VR at n) = (n, record { kind = variable; takes = none })
decl_meaning (LB at n i) = (n, record { kind = label; takes = none })
decl_meaning (PR at n fs b) = (n, record { kind = procedure; takes = some (formal_kinds fs) })

-- The names inside a block: its own and its procedure's formals, and then those around it, which they hide.
unfoldable pub inside : List Formal → Decls → Scope → Scope
inside fs ds sc = map formal_meaning fs ++ (map decl_meaning (decls ds) ++ sc)

-- nothing wrong, or the first refusal with its offset
pub data Judgement : Type 0 where
  fine : Judgement
  wrong : Refusal → ℕ → Judgement

unfoldable pub ◌then◌ : Judgement → Judgement → Judgement
◌then◌ fine w = w
◌then◌ (wrong c o) w = wrong c o

-- a name used where this kind is wanted, in the record at an offset: 9, then 10
unfoldable pub of_kind : Kind → ℕ → Option Meaning → Judgement
of_kind k o none = wrong NotVisible o
of_kind k o (some m) = elim (same_kind k m.kind) [ true ↦ fine | false ↦ wrong WrongKind o ]

unfoldable pub uses : Scope → ℕ → Kind → ℕ → Judgement
uses sc o k n = of_kind k o (lookup n sc)

-- arguments are visible, whatever their kind
unfoldable pub visible : ℕ → Option Meaning → Judgement
visible o none = wrong NotVisible o
visible o (some m) = fine

unfoldable pub all_visible : Scope → ℕ → List ℕ → Judgement
all_visible sc o [] = fine
all_visible sc o (n ∷ ns) = ◌then◌ (visible o (lookup n sc)) (all_visible sc o ns)

unfoldable pub kind_in : Scope → ℕ → Option Kind
kind_in sc n = elim (lookup n sc) [ none ↦ none | some m ↦ some m.kind ]

-- the arguments are as many as the formals and of their kinds, one by one
unfoldable pub agree : List Kind → List (Option Kind) → Bool
agree [] [] = true
agree [] (x ∷ xs) = false
agree (k ∷ ks) [] = false
agree (k ∷ ks) (none ∷ xs) = false
agree (k ∷ ks) (some x ∷ xs) = same_kind k x && agree ks xs

-- 11; what a formal stands for is known to the run alone, which judges the call then (26)
unfoldable pub agrees : ℕ → Option Meaning → List (Option Kind) → Judgement
agrees o none xs = fine
agrees o (some m) xs = elim m.takes [ none ↦ fine | some ks ↦ elim (agree ks xs) [ true ↦ fine | false ↦ wrong CallMismatch o ] ]

-- in the order in which a record has its names
unfoldable pub judge_action : Scope → ℕ → Action → Judgement
judge_action sc o (CL p xs) =
    ◌then◌ (uses sc o procedure p) (◌then◌ (all_visible sc o xs) (agrees o (lookup p sc) (map (kind_in sc) xs)))
judge_action sc o (GO l) = uses sc o label l
judge_action sc o (IF v l) = ◌then◌ (uses sc o variable v) (uses sc o label l)
judge_action sc o (KN t z) = uses sc o variable t
judge_action sc o (AR t p l r) = ◌then◌ (uses sc o variable t) (◌then◌ (uses sc o variable l) (uses sc o variable r))
judge_action sc o (AD g m) = ◌then◌ (uses sc o variable g) (uses sc o variable m)
judge_action sc o (RM g m) = ◌then◌ (uses sc o variable g) (uses sc o variable m)
judge_action sc o (QY t g m) = ◌then◌ (uses sc o variable t) (◌then◌ (uses sc o variable g) (uses sc o variable m))

-- a block with its formals, in the scope around it
unfoldable mutual
  pub judge_block : Block → List Formal → Scope → Judgement
  judge_block (block at ds ss) fs sc = ◌then◌ (judge_decls ds (inside fs ds sc)) (judge_stmts ss (inside fs ds sc))

  pub judge_decl : Decl → Scope → Judgement
  judge_decl (VR at n) sc = fine
  judge_decl (LB at n i) sc = fine
  judge_decl (PR at n fs b) sc = judge_block b fs sc

  pub judge_stmt : Stmt → Scope → Judgement
  judge_stmt (BK b) sc = judge_block b [] sc
  judge_stmt (DO at a) sc = judge_action sc at a

  pub judge_decls : Decls → Scope → Judgement
  judge_decls no-decl sc = fine
  judge_decls (decl d ds) sc = ◌then◌ (judge_decl d sc) (judge_decls ds sc)

  pub judge_stmts : Stmts → Scope → Judgement
  judge_stmts no-stmt sc = fine
  judge_stmts (stmt s ss) sc = ◌then◌ (judge_stmt s sc) (judge_stmts ss sc)
