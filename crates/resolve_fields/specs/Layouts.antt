-- Words that are laid out as a script's fields: the fields themselves, and the resolved script.
use Rattle.std.specs.Prelude.{ℕ, [], ◌∷◌, refl, length}
use Rattle.language.specs.Text.{block_decls, block_stmts}
use Rattle.language.specs.Encoding.{BK-mark, PR-mark, formals_fields, block_fields, decl_fields, stmt_fields, decls_fields, stmts_fields}
use Rattle.resolved.specs.Resolved.{name_word, header, resolved_formals, resolved_block, resolved_decl, resolved_stmt, resolved_decls, resolved_stmts}
use Rattle.resolved.proofs.Lengths.{action-length}
use Rattle.resolve_fields.specs.Layout.{Layout}

unfoldable pub fields_layout : Layout
unfolding block_fields formals_fields block_decls block_stmts
fields_layout = record {
  of_formals = formals_fields;
  of_block = λ b fs es. block_fields b;
  of_decl = λ d es. decl_fields d;
  of_stmt = λ x es. stmt_fields x;
  of_decls = λ ds es. decls_fields ds;
  of_stmts = λ ss es. stmts_fields ss;
  of_head = λ e es. BK-mark ∷ length (block_decls e.text) ∷ length (block_stmts e.text) ∷ [];
  of_heading = λ n fs es. PR-mark ∷ n ∷ length fs ∷ [];
  no-formals = refl;
  formals-open = λ f fs. refl;
  block-opens = λ at ds ss fs es. refl;
  procedure-opens = λ at n fs b es. refl;
  inner_block = λ b es. refl;
  no-decls = λ es. refl;
  decls-open = λ d ds es. refl;
  no-stmts = λ es. refl;
  stmts-open = λ x ss es. refl;
  head-size = λ e es. refl;
  heading-size = λ n fs es. refl;
  formal-size = λ f. refl;
  variable-size = λ at n es. refl;
  label-size = λ at n i es. refl;
  action-size = λ at a es. refl;
}

-- `name` is the looked-up name
unfoldable pub resolved_layout : ℕ → Layout
unfolding resolved_block resolved_formals header
resolved_layout name = record {
  of_formals = resolved_formals;
  of_block = resolved_block name;
  of_decl = resolved_decl name;
  of_stmt = resolved_stmt name;
  of_decls = resolved_decls name;
  of_stmts = resolved_stmts name;
  of_head = header name;
  of_heading = λ n fs es. 0 ∷ name_word es n ∷ 0 ∷ [];
  no-formals = refl;
  formals-open = λ f fs. refl;
  block-opens = λ at ds ss fs es. refl;
  procedure-opens = λ at n fs b es. refl;
  inner_block = λ b es. refl;
  no-decls = λ es. refl;
  decls-open = λ d ds es. refl;
  no-stmts = λ es. refl;
  stmts-open = λ x ss es. refl;
  head-size = λ e es. refl;
  heading-size = λ n fs es. refl;
  formal-size = λ f. refl;
  variable-size = λ at n es. refl;
  label-size = λ at n i es. refl;
  action-size = λ at a es. action-length es a;
}
