-- What encloses what, in the copy-rule machine. `Enclosed`: an activation's text is a block as it stands in the copy of the activation that is its encloser, with
-- the block's own names replaced: a BK's block is the one that the activation below has passed last, a body is that of the procedure which the activation below has
-- called last, and the program stands in no copy. `Enclosing`: so it is of all live activations, and no two of them share a new name; `only-encloser`: then no
-- other activation declares the called name. `step-encloses`: a step keeps it; `run-encloses`: so it holds of what a run comes to, whatever the allowance; `call-encloses`
-- says it of what a call shows on its sheet.
use Prim.Native.Nat.{ℕ, zero, suc, pred, ◌≤◌, ◌<◌}
use Rattle.std.specs.Prelude.{◌≡◌, length}
use mathlib.Core.List.{List, [], ◌∷◌}
use Rattle.std.proofs.Math.Option.{Option, none, some}
use Rattle.std.proofs.Math.ListN.{get_elem?}
use Rattle.language.specs.Text.{procedure, CL, Block, Decl, Stmt, BK, DO, block_decls, block_stmts, decl_name, decl_kind, decl_formals, decl_body, formal_names}
use Rattle.language.specs.Copy.{Replacement, rename_block}
use Rattle.language.specs.Machine.{Activation, State, own_names, activation}
use Rattle.laws.specs.Rising.{Rising}
use Rattle.instances.proofs.Steps as invariant
use Rattle.frames.specs.Frame.{numbered}

-- the statement that an activation has passed last; none where its first is still to come
unfoldable pub passed_by : Activation → Option Stmt
passed_by a = elim (pred a.next) [ zero ↦ none | suc i ↦ get_elem? (block_stmts a.text) i ]

-- The text of a is block b with its own names replaced: each formal by its argument, and the declared names by numbers in a row, which no script has. All other
-- names read as `around`.
pub record CopyOf (b : Block) (formals arguments : List ℕ) (around : List Replacement) (a : Activation) : Type 0 where
  pub new : ℕ
  pub high : 65536 ≤ new
  pub as_many : length formals ≡ length arguments
  pub text-is : a.text ≡ rename_block b (own_names formals arguments new b)
  pub arguments-are : a.arguments ≡ arguments
  pub reads-are : a.reads ≡ own_names formals arguments new b ∷ around

-- Activation k of l, with the activation h that encloses it.
pub data Enclosed (t : Block) (l : List Activation) (k : ℕ) (a : Activation) : Type 0 where
  whole : k ≡ 1 → a.encloser ≡ 0 → CopyOf t [] [] [] a → Enclosed t l k a
  block : (h : Activation) (b : Block) → k ≡ suc a.encloser → numbered l a.encloser ≡ some h → passed_by h ≡ some (BK b)
      → CopyOf b [] [] h.reads a → Enclosed t l k a
  body : (c h : Activation) (at p j : ℕ) (xs : List ℕ) (d : Decl) → numbered l (pred k) ≡ some c → passed_by c ≡ some (DO at (CL p xs))
      → a.encloser < k → numbered l a.encloser ≡ some h → get_elem? (block_decls h.text) j ≡ some d → decl_name d ≡ p → decl_kind d ≡ procedure
      → CopyOf (decl_body d) (formal_names (decl_formals d)) xs h.reads a → Enclosed t l k a

abbrev pub AllEnclosed : Block → List Activation → Type 0
AllEnclosed t l = (k : ℕ) (a : Activation) → numbered l k ≡ some a → Enclosed t l k a

-- All live activations, whose new names rise from each to the next.
pub record Enclosing (t : Block) (s : State) : Type 0 where
  pub each : AllEnclosed t s.live
  pub new-names : Rising 65536 s.live s.fresh
