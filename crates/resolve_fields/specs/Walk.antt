-- Words for the names of a script, one for each of its fields: where a declaration has its name, that name's word; in a statement, the words that `action`
-- gives; in a BK, the looked-up name's; 0 in every other field, and in a formal's own record. `words_layout`: they are laid out as the fields are.
use Rattle.std.specs.Prelude.{ℕ, List, [], ◌∷◌, ◌++◌, map, ◌≡◌, refl, length}
use Rattle.std.proofs.Common.{arith}
use Rattle.std.proofs.lemmas.List.{length-map}
use Rattle.language.specs.Text.{Formal, Action, CL, GO, IF, KN, AR, AD, RM, QY, Block, block, Decl, VR, LB, PR, Stmt, BK, DO, Decls, no-decl, decl, Stmts, no-stmt, stmt}
use Rattle.language.specs.Encoding.{action_fields}
use Rattle.coordinates.specs.Enclosure.{enclosed, Enclosure}
use Rattle.resolve_fields.specs.Layout.{Layout}

pub record Words : Type 0 where
  -- a name's
  pub word : Enclosure → ℕ → ℕ
  pub action : Enclosure → Action → List ℕ
  -- in the enclosure that begins with the block
  pub looked-up : Enclosure → ℕ

-- the words of a statement's names, each in its field; of an IF's two, in the order that `two` gives them
abbrev pub action_words : (ℕ → ℕ → ℕ × ℕ) → (ℕ → ℕ) → Action → List ℕ
action_words two word (KN t z) = 0 ∷ word t ∷ 0 ∷ 0 ∷ []
action_words two word (AR t o l r) = 0 ∷ word t ∷ 0 ∷ word l ∷ word r ∷ []
action_words two word (IF v l) = 0 ∷ (two (word v) (word l)).0 ∷ (two (word v) (word l)).1 ∷ []
action_words two word (GO l) = 0 ∷ word l ∷ []
action_words two word (CL p xs) = 0 ∷ word p ∷ 0 ∷ map word xs
action_words two word (AD g m) = 0 ∷ word g ∷ word m ∷ []
action_words two word (RM g m) = 0 ∷ word g ∷ word m ∷ []
action_words two word (QY t g m) = 0 ∷ word t ∷ word g ∷ word m ∷ []

pub action-words-length : (two : ℕ → ℕ → ℕ × ℕ) (word : ℕ → ℕ) (a : Action) → length (action_words two word a) ≡ length (action_fields a)
unfolding action_fields
action-words-length two word (CL p xs) = let h = length-map xs word in omega arith
action-words-length two word (GO l) = refl
action-words-length two word (IF v l) = refl
action-words-length two word (KN t z) = refl
action-words-length two word (AR t o l r) = refl
action-words-length two word (AD g m) = refl
action-words-length two word (RM g m) = refl
action-words-length two word (QY t g m) = refl

unfoldable pub formals_words : List Formal → List ℕ
formals_words [] = []
formals_words (f ∷ fs) = 0 ∷ 0 ∷ 0 ∷ formals_words fs

-- a block with its formals, in the enclosure around it
unfoldable mutual
  pub block_words : Words → Block → List Formal → Enclosure → List ℕ
  block_words w (block at ds ss) fs es =
      let e = enclosed fs (block at ds ss) in
      0 ∷ 0 ∷ w.looked-up (e ∷ es) ∷ (decls_words w ds (e ∷ es) ++ stmts_words w ss (e ∷ es))

  pub decl_words : Words → Decl → Enclosure → List ℕ
  decl_words w (VR at n) es = 0 ∷ w.word es n ∷ []
  decl_words w (LB at n i) es = 0 ∷ w.word es n ∷ 0 ∷ []
  decl_words w (PR at n fs b) es = 0 ∷ w.word es n ∷ 0 ∷ (formals_words fs ++ block_words w b fs es)

  pub stmt_words : Words → Stmt → Enclosure → List ℕ
  stmt_words w (BK b) es = block_words w b [] es
  stmt_words w (DO at a) es = w.action es a

  pub decls_words : Words → Decls → Enclosure → List ℕ
  decls_words w no-decl es = []
  decls_words w (decl d ds) es = decl_words w d es ++ decls_words w ds es

  pub stmts_words : Words → Stmts → Enclosure → List ℕ
  stmts_words w no-stmt es = []
  stmts_words w (stmt s ss) es = stmt_words w s es ++ stmts_words w ss es

unfoldable pub words_layout : (w : Words) → ((es : Enclosure) (a : Action) → length (w.action es a) ≡ length (action_fields a)) → Layout
unfolding block_words formals_words
words_layout w sizes = record {
  of_formals = formals_words;
  of_block = block_words w;
  of_decl = decl_words w;
  of_stmt = stmt_words w;
  of_decls = decls_words w;
  of_stmts = stmts_words w;
  of_head = λ e es. 0 ∷ 0 ∷ w.looked-up (e ∷ es) ∷ [];
  of_heading = λ n fs es. 0 ∷ w.word es n ∷ 0 ∷ [];
  no-formals = refl;
  formals-open = λ f fs. refl;
  block-opens = λ at ds ss fs es. refl;
  procedure-opens = λ at n fs b es. refl;
  inner_block = λ b es. refl;
  no-decls = λ es. refl;
  decls-open = λ d ds es. refl;
  no-stmts = λ es. refl;
  stmts-open = λ x ss es. refl;
  head-size = λ e es. refl;
  heading-size = λ n fs es. refl;
  formal-size = λ f. refl;
  variable-size = λ at n es. refl;
  label-size = λ at n i es. refl;
  action-size = λ at a es. sizes es a;
}
