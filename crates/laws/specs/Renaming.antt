-- Laws of renaming: what a name is replaced by, and the shape of a renamed text.
use Rattle.std.specs.Prelude.{ℕ, ◌≤◌, true, false, List, [], ◌∷◌, ◌++◌, map, ◌⊎◌, ◌≡◌, refl, eqb, length, drop}
use Rattle.std.proofs.Common.{arith, inl, inr, sym, ap, ap₂, ◌∙◌, eqb-true, eq-eqb, ne_eqb, drop_at}
use Rattle.std.proofs.lemmas.List.{map-append, length-map}
use Rattle.std.proofs.Math.Option.{Option, none, some}
use Rattle.language.specs.Basics.{among, lookup, zip}
use Rattle.language.specs.Text.{Kind, Action, CL, GO, IF, KN, AR, AD, RM, QY, Block, block, Decl, VR, LB, PR, Stmt, BK, DO, Decls, no-decl, decl, Stmts, no-stmt, stmt, decls, stmts, block_at, block_decls, block_stmts, stmt_at, decl_name, decl_kind, label_index, decl_formals, decl_body, formal_names, declared_names}
use Rattle.language.specs.Copy.{Replacement, renamed, without, rename_action, rename_block, rename_decl, rename_stmt, rename_decls, rename_stmts}
use Rattle.laws.specs.Tests.{split, never}
use Rattle.laws.specs.Lists.{lengths-append}
use Rattle.laws.specs.Each.{Each}
use Rattle.laws.specs.Distinct.{Distinct, apart-among}
use Rattle.laws.specs.Lookup.{among_first, among_later, among-differ, lookup-here, lookup-there, zip-append, each-found}

module _ (σ : Replacement) (n : ℕ) where
  pub renamed-none : lookup n σ ≡ none → renamed σ n ≡ n
  unfolding renamed
  renamed-none e = rw (e, renamed)

  pub renamed-some : (x : ℕ) → lookup n σ ≡ some x → renamed σ n ≡ x
  unfolding renamed
  renamed-some x e = rw (e, renamed)

pub renamed-same : (σ τ : Replacement) (n : ℕ) → lookup n σ ≡ lookup n τ → renamed σ n ≡ renamed τ n
unfolding renamed
renamed-same σ τ n e = rw (e, renamed)

-- Names dropped from a replacement

module _ (ns : List ℕ) (p : ℕ × ℕ) (σ : Replacement) where
  pub without-here : among p.0 ns ≡ true → without ns (p ∷ σ) ≡ without ns σ
  unfolding without
  without-here e = rw (e, without)

  pub without-there : among p.0 ns ≡ false → without ns (p ∷ σ) ≡ p ∷ without ns σ
  unfolding without
  without-there e = rw (e, without)

pub without-own : (n : ℕ) (ns : List ℕ) (σ : Replacement) → among n ns ≡ true → lookup n (without ns σ) ≡ none
unfolding without lookup
without-own n ns [] e = refl
without-own n ns (p ∷ σ) e =
    split (among p.0 ns) (λ h. rw (without-here ns p σ h) (without-own n ns σ e))
    (λ h. rw (without-there ns p σ h) (split (eqb n p.0) (λ t. never e (rw (eqb-true n p.0 t) h))
    (λ f. lookup-there n p (without ns σ) f ∙ without-own n ns σ e)))

pub without_other : (n : ℕ) (ns : List ℕ) (σ : Replacement) → among n ns ≡ false → lookup n (without ns σ) ≡ lookup n σ
unfolding without
without_other n ns [] e = refl
without_other n ns (p ∷ σ) e =
    split (among p.0 ns)
    (λ h. split (eqb n p.0) (λ t. never h (rw (← eqb-true n p.0 t) e))
    (λ f. rw (without-here ns p σ h) (without_other n ns σ e ∙ sym (lookup-there n p σ f))))
    (λ h. rw (without-there ns p σ h) (split (eqb n p.0) (λ t. lookup-here n p (without ns σ) t ∙ sym (lookup-here n p σ t))
    (λ f. lookup-there n p (without ns σ) f ∙ without_other n ns σ e ∙ sym (lookup-there n p σ f))))

pub renamed-own : (n : ℕ) (ns : List ℕ) (σ : Replacement) → among n ns ≡ true → renamed (without ns σ) n ≡ n
renamed-own n ns σ h = renamed-none (without ns σ) n (without-own n ns σ h)

pub renamed-other : (n : ℕ) (ns : List ℕ) (σ : Replacement) → among n ns ≡ false → renamed (without ns σ) n ≡ renamed σ n
renamed-other n ns σ h = renamed-same (without ns σ) σ n (without_other n ns σ h)

-- every name is replaced by a new one
abbrev pub Big : Replacement → Type 0
Big σ = Each (λ p. 65536 ≤ p.1) σ

pub big-lookup : (n x : ℕ) (σ : Replacement) → Big σ → lookup n σ ≡ some x → 65536 ≤ x
big-lookup n x σ big e = each-found (λ y. 65536 ≤ y) n x σ big e

pub big-without : (ns : List ℕ) (σ : Replacement) → Big σ → Big (without ns σ)
unfolding without
big-without ns [] h = tt
big-without ns (p ∷ σ) h =
    split (among p.0 ns) (λ e. rw (without-here ns p σ e) (big-without ns σ h.1)) (λ e. rw (without-there ns p σ e) (h.0, big-without ns σ h.1))

pub renamed-big : (σ : Replacement) → Big σ → (n : ℕ) → (renamed σ n ≡ n) ⊎ (65536 ≤ renamed σ n)
renamed-big σ big n = by (lookup n σ) refl
  where
    by : (o : Option ℕ) → lookup n σ ≡ o → (renamed σ n ≡ n) ⊎ (65536 ≤ renamed σ n)
    by none e = inl (renamed-none σ n e)
    by (some x) e = inr (rw (renamed-some σ n x e) (big-lookup n x σ big e))

-- The shape of a renamed text

pub decls-renamed : (ds : Decls) (σ : Replacement) → decls (rename_decls ds σ) ≡ map (λ d. rename_decl d σ) (decls ds)
unfolding decls rename_block
decls-renamed no-decl σ = refl
decls-renamed (decl d ds) σ = ap {B = List Decl} (λ l. rename_decl d σ ∷ l) (decls-renamed ds σ)

pub stmts-renamed : (ss : Stmts) (σ : Replacement) → stmts (rename_stmts ss σ) ≡ map (λ s. rename_stmt s σ) (stmts ss)
unfolding stmts rename_block
stmts-renamed no-stmt σ = refl
stmts-renamed (stmt s ss) σ = ap {B = List Stmt} (λ l. rename_stmt s σ ∷ l) (stmts-renamed ss σ)

pub block_at-renamed : (b : Block) (σ : Replacement) → block_at (rename_block b σ) ≡ block_at b
unfolding block_at rename_block
block_at-renamed (block at ds ss) σ = refl

pub block_decls-renamed : (b : Block) (σ : Replacement) → block_decls (rename_block b σ) ≡ map (λ d. rename_decl d σ) (block_decls b)
unfolding block_decls rename_block
block_decls-renamed (block at ds ss) σ = decls-renamed ds σ

pub block_stmts-renamed : (b : Block) (σ : Replacement) → block_stmts (rename_block b σ) ≡ map (λ s. rename_stmt s σ) (block_stmts b)
unfolding block_stmts rename_block
block_stmts-renamed (block at ds ss) σ = stmts-renamed ss σ

pub stmt_at-renamed : (s : Stmt) (σ : Replacement) → stmt_at (rename_stmt s σ) ≡ stmt_at s
unfolding stmt_at rename_block
stmt_at-renamed (BK b) σ = block_at-renamed b (without (declared_names b) σ)
stmt_at-renamed (DO at a) σ = refl

pub decl_name-renamed : (d : Decl) (σ : Replacement) → decl_name (rename_decl d σ) ≡ renamed σ (decl_name d)
unfolding decl_name rename_block
decl_name-renamed (VR at n) σ = refl
decl_name-renamed (LB at n i) σ = refl
decl_name-renamed (PR at n fs b) σ = refl

pub decl_kind-renamed : (d : Decl) (σ : Replacement) → decl_kind (rename_decl d σ) ≡ decl_kind d
unfolding decl_kind rename_block
decl_kind-renamed (VR at n) σ = refl
decl_kind-renamed (LB at n i) σ = refl
decl_kind-renamed (PR at n fs b) σ = refl

pub label_index-renamed : (d : Decl) (σ : Replacement) → label_index (rename_decl d σ) ≡ label_index d
unfolding label_index rename_block
label_index-renamed (VR at n) σ = refl
label_index-renamed (LB at n i) σ = refl
label_index-renamed (PR at n fs b) σ = refl

pub decl_formals-renamed : (d : Decl) (σ : Replacement) → decl_formals (rename_decl d σ) ≡ decl_formals d
unfolding decl_formals rename_block
decl_formals-renamed (VR at n) σ = refl
decl_formals-renamed (LB at n i) σ = refl
decl_formals-renamed (PR at n fs b) σ = refl

-- what is no procedure has an empty body, in which nothing is renamed
pub decl_body-renamed : (d : Decl) (σ : Replacement)
    → decl_body (rename_decl d σ) ≡ rename_block (decl_body d) (without (formal_names (decl_formals d) ++ declared_names (decl_body d)) σ)
unfolding decl_body decl_formals rename_block
decl_body-renamed (VR at n) σ = refl
decl_body-renamed (LB at n i) σ = refl
decl_body-renamed (PR at n fs b) σ = refl

names-renamed : (ds : List Decl) (σ : Replacement) → map decl_name (map (λ d. rename_decl d σ) ds) ≡ map (renamed σ) (map decl_name ds)
names-renamed [] σ = refl
names-renamed (d ∷ ds) σ = ap₂ {C = List ℕ} ◌∷◌ (decl_name-renamed d σ) (names-renamed ds σ)

pub decl_names-renamed : (ds : Decls) (σ : Replacement) → map decl_name (decls (rename_decls ds σ)) ≡ map (renamed σ) (map decl_name (decls ds))
decl_names-renamed ds σ = ap (map decl_name) (decls-renamed ds σ) ∙ names-renamed (decls ds) σ

kinds-renamed : (ds : List Decl) (σ : Replacement) → map decl_kind (map (λ d. rename_decl d σ) ds) ≡ map decl_kind ds
kinds-renamed [] σ = refl
kinds-renamed (d ∷ ds) σ = ap₂ {C = List Kind} ◌∷◌ (decl_kind-renamed d σ) (kinds-renamed ds σ)

pub decl_kinds-renamed : (ds : Decls) (σ : Replacement) → map decl_kind (decls (rename_decls ds σ)) ≡ map decl_kind (decls ds)
decl_kinds-renamed ds σ = ap (map decl_kind) (decls-renamed ds σ) ∙ kinds-renamed (decls ds) σ

pub decls-length : (ds : Decls) (σ : Replacement) → length (decls (rename_decls ds σ)) ≡ length (decls ds)
decls-length ds σ = ap length (decls-renamed ds σ) ∙ length-map (decls ds) (λ d. rename_decl d σ)

pub stmts-length : (ss : Stmts) (σ : Replacement) → length (stmts (rename_stmts ss σ)) ≡ length (stmts ss)
stmts-length ss σ = ap length (stmts-renamed ss σ) ∙ length-map (stmts ss) (λ s. rename_stmt s σ)

pub declared_names-renamed : (b : Block) (σ : Replacement) → declared_names (rename_block b σ) ≡ map (renamed σ) (declared_names b)
unfolding declared_names
declared_names-renamed b σ = ap (map decl_name) (block_decls-renamed b σ) ∙ names-renamed (block_decls b) σ

-- every name of xs is a name of D
abbrev pub Within : List ℕ → List ℕ → Type 0
Within xs D = (n : ℕ) → among n xs ≡ true → among n D ≡ true

-- names that are dropped are kept as they are
pub names-kept : (xs D : List ℕ) (σ : Replacement) → Within xs D → map (renamed (without D σ)) xs ≡ xs
names-kept [] D σ h = refl
names-kept (x ∷ xs) D σ h =
    ap₂ {C = List ℕ} ◌∷◌ (renamed-own x D σ (h x (among_first x xs))) (names-kept xs D σ (λ n k. h n (among_later n x xs k)))

pub declared-kept : (b : Block) (D : List ℕ) (σ : Replacement) → Within (declared_names b) D → declared_names (rename_block b (without D σ)) ≡ declared_names b
declared-kept b D σ h = declared_names-renamed b (without D σ) ∙ names-kept (declared_names b) D σ h

-- Names paired with what they read as

pub names-alike : (xs : List ℕ) (σ τ : Replacement) → ((n : ℕ) → among n xs ≡ true → lookup n σ ≡ lookup n τ) → map (renamed σ) xs ≡ map (renamed τ) xs
names-alike [] σ τ h = refl
names-alike (x ∷ xs) σ τ h =
    ap₂ {C = List ℕ} ◌∷◌ (renamed-same σ τ x (h x (among_first x xs))) (names-alike xs σ τ (λ n k. h n (among_later n x xs k)))

-- distinct names read as what they are paired with, in order
pub renamed-zip : (ks ys : List ℕ) (σ : Replacement) → length ks ≡ length ys → Distinct ks → map (renamed (zip ks ys ++ σ)) ks ≡ ys
unfolding zip
renamed-zip [] [] σ l h = refl
renamed-zip [] (y ∷ ys) σ l h = absurd (omega arith)
renamed-zip (k ∷ ks) [] σ l h = absurd (omega arith)
renamed-zip (k ∷ ks) (y ∷ ys) σ l h =
    let τ : Replacement = zip ks ys ++ σ in
    ap₂ {C = List ℕ} ◌∷◌ (renamed-some ((k, y) ∷ τ) k y (lookup-here k (k, y) τ (eq-eqb k k refl)))
    (names-alike ks ((k, y) ∷ τ) τ (λ n m. lookup-there n (k, y) τ (ne_eqb n k (among-differ n k ks m (apart-among k ks h.0)))) ∙ renamed-zip ks ys σ (omega arith) h.1)

-- each formal reads as its argument, each declared name as its new one
module _ (fs args ns news : List ℕ) (σ : Replacement) (lf : length fs ≡ length args) (ln : length ns ≡ length news) (once : Distinct (fs ++ ns)) where
  own-all : map (renamed (zip fs args ++ zip ns news ++ σ)) fs ++ map (renamed (zip fs args ++ zip ns news ++ σ)) ns ≡ args ++ news
  own-all =
      sym (map-append (renamed (zip fs args ++ zip ns news ++ σ)) fs ns)
      ∙ ap (λ (τ : Replacement). map (renamed (τ ++ σ)) (fs ++ ns)) (zip-append fs args ns news lf)
      ∙ renamed-zip (fs ++ ns) (args ++ news) σ (lengths-append fs ns args news lf ln) once

  pub own_new : map (renamed (zip fs args ++ zip ns news ++ σ)) ns ≡ news
  own_new =
      let r : ℕ → ℕ = renamed (zip fs args ++ zip ns news ++ σ) in
      sym (drop_at (map r fs) (map r ns) (length args) (length-map fs r ∙ lf)) ∙ ap (drop (length args)) own-all ∙ drop_at args news (length args) refl

-- A text renamed by nothing is the text
names-nothing : (xs : List ℕ) → map (renamed []) xs ≡ xs
unfolding renamed lookup
names-nothing [] = refl
names-nothing (x ∷ xs) = ap (x ∷◌) (names-nothing xs)

action-nothing : (a : Action) → rename_action [] a ≡ a
unfolding rename_action renamed lookup
action-nothing (CL p xs) = ap (CL p) (names-nothing xs)
action-nothing (GO x) = refl
action-nothing (IF v x) = refl
action-nothing (KN x z) = refl
action-nothing (AR x o a b) = refl
action-nothing (AD g m) = refl
action-nothing (RM g m) = refl
action-nothing (QY x g m) = refl

mutual
  unfolding rename_block renamed lookup without

  pub rename-nothing : (b : Block) → rename_block b [] ≡ b
  rename-nothing (block at ds ss) = ap₂ (block at) (decls-nothing ds) (stmts-nothing ss)

  decl-nothing : (d : Decl) → rename_decl d [] ≡ d
  decl-nothing (VR at n) = refl
  decl-nothing (LB at n i) = refl
  decl-nothing (PR at n fs b) = ap (PR at n fs) (rename-nothing b)

  stmt-nothing : (x : Stmt) → rename_stmt x [] ≡ x
  stmt-nothing (BK b) = ap BK (rename-nothing b)
  stmt-nothing (DO at a) = ap (DO at) (action-nothing a)

  decls-nothing : (ds : Decls) → rename_decls ds [] ≡ ds
  decls-nothing no-decl = refl
  decls-nothing (decl d ds) = ap₂ decl (decl-nothing d) (decls-nothing ds)

  stmts-nothing : (ss : Stmts) → rename_stmts ss [] ≡ ss
  stmts-nothing no-stmt = refl
  stmts-nothing (stmt x ss) = ap₂ stmt (stmt-nothing x) (stmts-nothing ss)
