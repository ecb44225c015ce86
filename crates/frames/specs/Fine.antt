-- The text of a frame: a block with its formals as an accepted script has them.
use Rattle.std.specs.Prelude.{ℕ, ◌≡◌, refl, List, []}
use Rattle.std.proofs.Common.{arith}
use Rattle.std.proofs.Math.Option.{some}
use Rattle.std.proofs.Math.ListN.{get_elem?}
use Rattle.language.specs.Text.{Formal, Block, Decl, VR, LB, PR, BK, decls, block_decls, block_stmts, decl_formals, decl_body, formal_names}
use Rattle.laws.specs.Lookup.{AllBelow}
use Rattle.grammar.specs.Rules.{Keeps, FormedBlock, FormedDecl}
use Rattle.grammar.specs.Formed.{formal-names, decl-at, stmt-at}

pub record Fine (fs : List Formal) (b : Block) : Type 0 where
  pub level : ℕ
  pub here : ℕ
  pub formed : FormedBlock b level fs here
  pub small-formals : AllBelow (formal_names fs)

pub fine-program : (t : Block) → Keeps t → Fine [] t
unfolding formal_names
fine-program t k = record { level = 1; here = 0; formed = k.formed; small-formals = tt }

-- What is fine stays so within; what is no procedure has an empty body.
formed-body : (d : Decl) (level s here : ℕ) → FormedDecl d level s here → Fine (decl_formals d) (decl_body d)
unfolding FormedBlock decl_body decl_formals formal_names decls
formed-body (VR at n) level s here h = record { level = 1; here = 0; formed = record { stands = refl; nesting = omega arith; few = omega arith; once = tt; declarations = tt; statements = tt }; small-formals = tt }
formed-body (LB at n i) level s here h = record { level = 1; here = 0; formed = record { stands = refl; nesting = omega arith; few = omega arith; once = tt; declarations = tt; statements = tt }; small-formals = tt }
formed-body (PR at n fs b) level s here h = record { level = _; here = _; formed = h.body; small-formals = formal-names fs _ h.formals }

pub fine-body : (fs : List Formal) (b : Block) (j : ℕ) (d : Decl) → Fine fs b → get_elem? (block_decls b) j ≡ some d → Fine (decl_formals d) (decl_body d)
fine-body fs b j d f e = let h = decl-at f.level fs f.here b j d f.formed e in formed-body d f.level _ h.0 h.1

pub fine-block : (fs : List Formal) (b : Block) (j : ℕ) (c : Block) → Fine fs b → get_elem? (block_stmts b) j ≡ some (BK c) → Fine [] c
unfolding FormedBlock formal_names
fine-block fs b j c f e =
    let h = stmt-at f.level fs f.here b j (BK c) f.formed e in
    record { level = _; here = h.0; formed = h.1; small-formals = tt }
