-- One word for each field: `block-length`, and so for declarations, statements and formals.
use Rattle.std.specs.Prelude.{List, ◌≡◌, length}
use Rattle.language.specs.Text.{Formal, Block, Decl, Stmt, Decls}
use Rattle.language.specs.Encoding.{formals_fields, block_fields, decl_fields, stmt_fields, decls_fields}
use Rattle.coordinates.specs.Enclosure.{Enclosure}
use Rattle.resolve_fields.specs.Layout as layout
use Rattle.resolve_fields.specs.Walk.{formals_words, block_words, decl_words, stmt_words, decls_words, words_layout}
use Rattle.copy_fields.specs.NameFields.{name_words}
use Rattle.copy_fields.specs.Layouts.{named_layout}

pub formals-length : (fs : List Formal) → length (formals_words fs) ≡ length (formals_fields fs)
unfolding words_layout
formals-length = layout.formals-size named_layout

pub block-length : (b : Block) (fs : List Formal) (es : Enclosure) → length (block_words name_words b fs es) ≡ length (block_fields b)
unfolding words_layout
block-length = layout.block_size named_layout

pub decl-length : (d : Decl) (es : Enclosure) → length (decl_words name_words d es) ≡ length (decl_fields d)
unfolding words_layout
decl-length = layout.decl-size named_layout

pub stmt-length : (s : Stmt) (es : Enclosure) → length (stmt_words name_words s es) ≡ length (stmt_fields s)
unfolding words_layout
stmt-length = layout.stmt-size named_layout

pub decls-length : (ds : Decls) (es : Enclosure) → length (decls_words name_words ds es) ≡ length (decls_fields ds)
unfolding words_layout
decls-length = layout.decls-size named_layout
