-- What stands at the places of an enclosed block and of its statements. In an array that holds the words of a script's names: `block-fields-named`,
-- `stmt-fields-named`, `action-fields-named` and, at a declaration's name, `declared-fields-named`. Among the script's own fields: `block-fields-stand`,
-- `stmt-fields-stand`, `action-fields-stand`.
use Rattle.std.specs.Prelude.{ℕ, zero, suc, ◌+◌, ◌≤◌, ◌<◌, List, ◌∷◌, ◌≡◌, length, get_or}
use Rattle.std.proofs.Common.{arith, ap, length-append}
use Rattle.std.proofs.Math.Option.{some}
use Rattle.std.proofs.Math.ListN.{get_elem?}
use Rattle.language.specs.Text.{Action, Block, block, Decl, VR, LB, PR, Stmt, DO, Decls, no-decl, decl, decls, block_at, block_decls, block_stmts, stmt_at, decl_name}
use Rattle.language.specs.Encoding.{action_fields, block_fields, decl_fields, stmt_fields, decls_fields, stmts_fields}
use Rattle.laws.specs.Tests.{none≢some, some_inj}
use Rattle.grammar.specs.Rules.{Keeps}
use Rattle.coordinates.specs.Enclosure.{Enclosing, Enclosure, Encloses}
use Rattle.resolved.specs.Resolved.{place_of, end_place, name_word, Covers}
use Rattle.resolved.proofs.Lengths.{covers_self}
use Rattle.resolved.proofs.Places.{decls_before}
use Rattle.resolve_fields.specs.Layout.{before_decl, block-laid, stmt-laid, decl-laid}
use Rattle.resolve_fields.specs.Layouts.{fields_layout}
use Rattle.resolve_fields.specs.Walk.{block_words, decl_words, stmt_words, words_layout}
use Rattle.copy_fields.specs.NameFields.{named_action, name_words, named_of}
use Rattle.copy_fields.specs.Layouts.{named_layout}

-- The script's own fields

module _ (t : Block) (keeps : Keeps t) (e : Enclosing) (es : Enclosure) (within : Encloses t (e ∷ es)) where
  pub block-fields-stand : Covers (block_fields t) (place_of (block_at e.text)) (block_fields e.text)
  unfolding fields_layout
  block-fields-stand = block-laid fields_layout (block_fields t) t keeps (covers_self (block_fields t)) e es within

  pub stmt-fields-stand : (i : ℕ) (x : Stmt) → get_elem? (block_stmts e.text) i ≡ some x → Covers (block_fields t) (place_of (stmt_at x)) (stmt_fields x)
  unfolding fields_layout
  stmt-fields-stand i x q = stmt-laid fields_layout (block_fields t) t keeps (covers_self (block_fields t)) e es within i x q

  pub action-fields-stand : (i at : ℕ) (a : Action) → get_elem? (block_stmts e.text) i ≡ some (DO at a) → Covers (block_fields t) (place_of at) (action_fields a)
  unfolding stmt_at block_fields
  action-fields-stand i at a q = stmt-fields-stand i (DO at a) q

-- The words of the names

module _ (names : List ℕ) (t : Block) (keeps : Keeps t) (covered : Covers names 0 (named_of t)) (e : Enclosing) (es : Enclosure) (within : Encloses t (e ∷ es)) where
  pub block-fields-named : Covers names (place_of (block_at e.text)) (block_words name_words e.text e.formals es)
  unfolding words_layout named_of
  block-fields-named = block-laid named_layout names t keeps covered e es within

  pub stmt-fields-named : (i : ℕ) (x : Stmt) → get_elem? (block_stmts e.text) i ≡ some x → Covers names (place_of (stmt_at x)) (stmt_words name_words x (e ∷ es))
  unfolding words_layout named_of
  stmt-fields-named i x q = stmt-laid named_layout names t keeps covered e es within i x q

  pub action-fields-named : (i at : ℕ) (a : Action) → get_elem? (block_stmts e.text) i ≡ some (DO at a) → Covers names (place_of at) (named_action (e ∷ es) a)
  unfolding stmt_at block_words
  action-fields-named i at a q = stmt-fields-named i (DO at a) q

  decl-fields-named : (j : ℕ) (d : Decl) → get_elem? (block_decls e.text) j ≡ some d → Covers names (place_of (block_at e.text) + before_decl e.text j) (decl_words name_words d (e ∷ es))
  unfolding words_layout named_of
  decl-fields-named j d q = decl-laid named_layout names t keeps covered e es within j d q

-- A declaration's name

name-there : (names : List ℕ) (p : ℕ) (d : Decl) (es : Enclosure) → Covers names p (decl_words name_words d es) → get_or names (p + 1) 0 ≡ name_word es (decl_name d)
unfolding block_words decl_name
name-there names p (VR at n) es h = h.1.0
name-there names p (LB at n i) es h = h.1.0
name-there names p (PR at n fs b) es h = h.1.0

two_fields : (d : Decl) → 2 ≤ length (decl_fields d)
unfolding block_fields
two_fields (VR at n) = omega arith
two_fields (LB at n i) = omega arith
two_fields (PR at n fs b) = omega arith

decls-within : (ds : Decls) (j : ℕ) (d : Decl) → get_elem? (decls ds) j ≡ some d → decls_before ds j + length (decl_fields d) ≤ length (decls_fields ds)
unfolding decls decls_before block_fields
decls-within no-decl j d e = none≢some e
decls-within (decl c ds) zero d e =
    let q = ap (λ z. length (decl_fields z)) (some_inj e) in omega (arith, length-append (decl_fields c) (decls_fields ds))
decls-within (decl c ds) (suc j) d e = omega (arith, decls-within ds j d e, length-append (decl_fields c) (decls_fields ds))

decl-within : (b : Block) (j : ℕ) (d : Decl) → get_elem? (block_decls b) j ≡ some d → before_decl b j + 2 ≤ length (block_fields b)
unfolding block_decls before_decl block_fields
decl-within (block at ds ss) j d e = omega (arith, decls-within ds j d e, two_fields d, length-append (decls_fields ds) (stmts_fields ss))

pub declared-fields-named : (names : List ℕ) (t : Block) → Keeps t → Covers names 0 (named_of t) → (e : Enclosing) (es : Enclosure) → Encloses t (e ∷ es)
    → (j : ℕ) (d : Decl) → get_elem? (block_decls e.text) j ≡ some d
    → (q : ℕ) × (place_of (block_at e.text) ≤ q) × (q < end_place e.text) × (get_or names q 0 ≡ name_word (e ∷ es) (decl_name d))
unfolding end_place
declared-fields-named names t keeps covered e es within j d q =
    let p = place_of (block_at e.text) in
    (p + before_decl e.text j + 1, omega arith, omega (arith, decl-within e.text j d q), name-there names (p + before_decl e.text j) d (e ∷ es) (decl-fields-named names t keeps covered e es within j d q))
