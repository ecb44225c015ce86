-- Renaming keeps the number of fields of a text, and so where each record of it stands.
use Rattle.std.specs.Prelude.{ℕ, suc, ◌+◌, List, ◌++◌, ◌≡◌, refl, length}
use Rattle.std.proofs.Common.{ap, ap₂, sym, ◌∙◌, length-append}
use Rattle.std.proofs.lemmas.List.{length-map}
use Rattle.language.specs.Text.{Action, CL, GO, IF, KN, AR, AD, RM, QY, Block, block, Decl, VR, LB, PR, Stmt, BK, DO, Decls, no-decl, decl, Stmts, no-stmt, stmt, formal_names, declared_names}
use Rattle.language.specs.Encoding.{action_fields, formals_fields, block_fields, decl_fields, stmt_fields, decls_fields, stmts_fields}
use Rattle.language.specs.Copy.{Replacement, renamed, without, rename_action, rename_block, rename_decl, rename_stmt, rename_decls, rename_stmts}

pub action_fields-renamed : (a : Action) (σ : Replacement) → length (action_fields (rename_action σ a)) ≡ length (action_fields a)
unfolding action_fields rename_action
action_fields-renamed (CL p xs) σ = ap (λ n. suc (suc (suc n))) (length-map xs (renamed σ))
action_fields-renamed (GO l) σ = refl
action_fields-renamed (IF v l) σ = refl
action_fields-renamed (KN t z) σ = refl
action_fields-renamed (AR t o a b) σ = refl
action_fields-renamed (AD g m) σ = refl
action_fields-renamed (RM g m) σ = refl
action_fields-renamed (QY t g m) σ = refl

both : (xs ys xs' ys' : List ℕ) → length xs ≡ length xs' → length ys ≡ length ys' → length (xs ++ ys) ≡ length (xs' ++ ys')
both xs ys xs' ys' p q = length-append xs ys ∙ ap₂ (λ a b. a + b) p q ∙ sym (length-append xs' ys')

mutual
  unfolding block_fields rename_block

  pub block_fields-renamed : (b : Block) (σ : Replacement) → length (block_fields (rename_block b σ)) ≡ length (block_fields b)
  block_fields-renamed (block at ds ss) σ =
      ap (λ n. suc (suc (suc n))) (both (decls_fields (rename_decls ds σ)) (stmts_fields (rename_stmts ss σ)) (decls_fields ds) (stmts_fields ss) (decls_fields-renamed ds σ) (stmts_fields-renamed ss σ))

  pub decl_fields-renamed : (d : Decl) (σ : Replacement) → length (decl_fields (rename_decl d σ)) ≡ length (decl_fields d)
  decl_fields-renamed (VR at n) σ = refl
  decl_fields-renamed (LB at n i) σ = refl
  decl_fields-renamed (PR at n fs b) σ =
      let τ = without (formal_names fs ++ declared_names b) σ in
      ap (λ n. suc (suc (suc n))) (both (formals_fields fs) (block_fields (rename_block b τ)) (formals_fields fs) (block_fields b) refl (block_fields-renamed b τ))

  pub stmt_fields-renamed : (s : Stmt) (σ : Replacement) → length (stmt_fields (rename_stmt s σ)) ≡ length (stmt_fields s)
  stmt_fields-renamed (BK b) σ = block_fields-renamed b (without (declared_names b) σ)
  stmt_fields-renamed (DO at a) σ = action_fields-renamed a σ

  pub decls_fields-renamed : (ds : Decls) (σ : Replacement) → length (decls_fields (rename_decls ds σ)) ≡ length (decls_fields ds)
  decls_fields-renamed no-decl σ = refl
  decls_fields-renamed (decl d ds) σ =
      both (decl_fields (rename_decl d σ)) (decls_fields (rename_decls ds σ)) (decl_fields d) (decls_fields ds) (decl_fields-renamed d σ) (decls_fields-renamed ds σ)

  pub stmts_fields-renamed : (ss : Stmts) (σ : Replacement) → length (stmts_fields (rename_stmts ss σ)) ≡ length (stmts_fields ss)
  stmts_fields-renamed no-stmt σ = refl
  stmts_fields-renamed (stmt s ss) σ =
      both (stmt_fields (rename_stmt s σ)) (stmts_fields (rename_stmts ss σ)) (stmt_fields s) (stmts_fields ss) (stmt_fields-renamed s σ) (stmts_fields-renamed ss σ)
