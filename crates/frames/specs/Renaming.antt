-- Laws of renaming text by the copy rule. Entering a block renames a text that was renamed before. The theorem here is that renaming
-- twice is renaming once, by the composite: new names lie above every name of a script, so that no name of a block captures one.
use Rattle.std.specs.Prelude.{ℕ, ◌+◌, ◌≤◌, ◌<◌, ◌≡◌, refl, Bool, true, false, List, [], ◌∷◌, ◌++◌, map, ◌⊎◌, length}
use Rattle.std.proofs.Common.{sym, ap, ap₂, subst, ◌∙◌, inl, inr}
use Rattle.std.proofs.Math.Option.{Option, none, some}
use Rattle.language.specs.Basics.{among, lookup, zip, up_from}
use Rattle.language.specs.Text.{Formal, Action, CL, GO, IF, KN, AR, AD, RM, QY, Block, block, Decl, VR, LB, PR, Stmt, BK, DO, Decls, no-decl, decl, Stmts, no-stmt, stmt, formal_names, declared_names}
use Rattle.language.specs.Copy.{Replacement, renamed, without, rename_action, rename_block, rename_decl, rename_stmt, rename_decls, rename_stmts}
use Rattle.language.specs.Machine.{own_names, activation}
use Rattle.laws.specs.Lists.{lengths-append}
use Rattle.laws.specs.Each.{each_append}
use Rattle.laws.specs.Distinct.{Distinct}
use Rattle.laws.specs.Lookup.{AllBelow, among-right, keys, keys_zip, length-up_from, lookup-among, lookup-left, lookup-not-among, lookup-right, new-not-among, zip-append}
use Rattle.laws.specs.Renaming.{Big, big-lookup, big-without, declared-kept, declared_names-renamed, own_new, renamed-big, renamed-none, renamed-other, renamed-own, renamed-same, renamed-some}
use Rattle.grammar.specs.Rules.{FormedAction, FormedFormals, FormedBlock, FormedDecl, FormedStmt, FormedDecls, FormedStmts}
use Rattle.grammar.specs.Formed.{formal-names, block-names}

-- Renaming by α and then by β is renaming by γ, as far as names of a script go; α leaves such a name or makes it a new one.
pub record Twice (α β γ : Replacement) : Type 0 where
  pub same : (n : ℕ) → n < 65536 → renamed β (renamed α n) ≡ renamed γ n
  pub big : (n : ℕ) → n < 65536 → (renamed α n ≡ n) ⊎ (65536 ≤ renamed α n)

module _ (α β γ : Replacement) (t : Twice α β γ) (E : List ℕ) (below : AllBelow E) (n : ℕ) (small : n < 65536) where
  -- what α makes of a name outside E is outside E
  renamed-outside : among n E ≡ false → (renamed α n ≡ n) ⊎ (65536 ≤ renamed α n) → among (renamed α n) E ≡ false
  renamed-outside h (inl q) = ap (λ (x : ℕ). among x E) q ∙ h
  renamed-outside h (inr l) = new-not-among (renamed α n) E l below

  without-same : (b : Bool) → among n E ≡ b → renamed (without E β) (renamed (without E α) n) ≡ renamed (without E γ) n
  without-same true h = rw (renamed-own n E α h, renamed-own n E β h, renamed-own n E γ h)
  without-same false h =
      rw (renamed-other n E α h, renamed-other (renamed α n) E β (renamed-outside h (t.big n small)), renamed-other n E γ h)
      (t.same n small)

  without-big : (b : Bool) → among n E ≡ b → (renamed (without E α) n ≡ n) ⊎ (65536 ≤ renamed (without E α) n)
  without-big true h = inl (renamed-own n E α h)
  without-big false h = rw (renamed-other n E α h) (t.big n small)

pub twice-without : (E : List ℕ) → AllBelow E → {α β γ : Replacement} → Twice α β γ → Twice (without E α) (without E β) (without E γ)
twice-without E k {α} {β} {γ} t =
    record { same = λ n h. without-same α β γ t E k n h (among n E) refl; big = λ n h. without-big α β γ t E k n h (among n E) refl }

-- Renaming twice is renaming once

module _ {α β γ : Replacement} (t : Twice α β γ) where
  pub names-twice : (xs : List ℕ) → AllBelow xs → map (renamed β) (map (renamed α) xs) ≡ map (renamed γ) xs
  names-twice [] h = refl
  names-twice (x ∷ xs) h = ap₂ {C = List ℕ} ◌∷◌ (t.same x h.0) (names-twice xs h.1)

  pub action-twice : (a : Action) → FormedAction a → rename_action β (rename_action α a) ≡ rename_action γ a
  unfolding FormedAction rename_action
  action-twice (CL p xs) h = rw (t.same p h.called, names-twice xs h.arguments)
  action-twice (GO l) h = rw (t.same l h)
  action-twice (IF v l) h = rw (t.same v h.0, t.same l h.1)
  action-twice (KN x z) h = rw (t.same x h.target)
  action-twice (AR x o l r) h = rw (t.same x h.0, t.same l h.1, t.same r h.2)
  action-twice (AD g m) h = rw (t.same g h.0, t.same m h.1)
  action-twice (RM g m) h = rw (t.same g h.0, t.same m h.1)
  action-twice (QY x g m) h = rw (t.same x h.0, t.same g h.1, t.same m h.2)

  -- a block within, whose own names and those of its formals are dropped; the names that it declares then stay
  within-twice : (b : Block) (fs : List ℕ)
      → rename_block (rename_block b (without (fs ++ declared_names b) α)) (without (fs ++ declared_names b) β) ≡ rename_block b (without (fs ++ declared_names b) γ)
      → rename_block (rename_block b (without (fs ++ declared_names b) α)) (without (fs ++ declared_names (rename_block b (without (fs ++ declared_names b) α))) β)
      ≡ rename_block b (without (fs ++ declared_names b) γ)
  within-twice b fs e = rw (declared-kept b (fs ++ declared_names b) α (λ n h. among-right n fs (declared_names b) h)) e

-- the names of a body, its formals' too
all-below : (fs : List Formal) (b : Block) (o level here : ℕ) → FormedFormals fs o → FormedBlock b level fs here → AllBelow (formal_names fs ++ declared_names b)
all-below fs b o level here f h = each_append (λ n. n < 65536) (formal_names fs) (declared_names b) (formal-names fs o f) (block-names level fs here b h)

mutual
  unfolding FormedBlock rename_block

  pub rename-twice : (b : Block) (level : ℕ) (fs : List Formal) (here : ℕ) → FormedBlock b level fs here → {α β γ : Replacement} → Twice α β γ →
      rename_block (rename_block b α) β ≡ rename_block b γ
  rename-twice (block at ds ss) level fs here h t =
      ap₂ {C = Block} (block at) (decls-twice ds level _ _ h.declarations t) (stmts-twice ss level _ h.statements t)

  decl-twice : (d : Decl) (level s here : ℕ) → FormedDecl d level s here → {α β γ : Replacement} → Twice α β γ → rename_decl (rename_decl d α) β ≡ rename_decl d γ
  decl-twice (VR at n) level s here h t = ap {B = Decl} (VR at) (t.same n h.name)
  decl-twice (LB at n i) level s here h t = ap {B = Decl} (λ m. LB at m i) (t.same n h.name)
  decl-twice (PR at n fs b) level s here h t =
      ap₂ {C = Decl} (λ m c. PR at m fs c) (t.same n h.name)
      (within-twice t b (formal_names fs) (rename-twice b _ fs _ h.body (twice-without (formal_names fs ++ declared_names b) (all-below fs b _ _ _ h.formals h.body) t)))

  stmt-twice : (x : Stmt) (level here : ℕ) → FormedStmt x level here → {α β γ : Replacement} → Twice α β γ → rename_stmt (rename_stmt x α) β ≡ rename_stmt x γ
  stmt-twice (BK b) level here h t =
      ap {B = Stmt} BK (within-twice t b [] (rename-twice b _ [] _ h (twice-without (declared_names b) (block-names _ [] _ b h) t)))
  stmt-twice (DO at a) level here h t = ap {B = Stmt} (DO at) (action-twice t a h.action)

  decls-twice : (ds : Decls) (level s here : ℕ) → FormedDecls ds level s here → {α β γ : Replacement} → Twice α β γ → rename_decls (rename_decls ds α) β ≡ rename_decls ds γ
  decls-twice no-decl level s here h t = refl
  decls-twice (decl d ds) level s here h t = ap₂ {C = Decls} decl (decl-twice d level s _ h.0 t) (decls-twice ds level s _ h.1 t)

  stmts-twice : (ss : Stmts) (level here : ℕ) → FormedStmts ss level here → {α β γ : Replacement} → Twice α β γ → rename_stmts (rename_stmts ss α) β ≡ rename_stmts ss γ
  stmts-twice no-stmt level here h t = refl
  stmts-twice (stmt x ss) level here h t = ap₂ {C = Stmts} stmt (stmt-twice x level _ h.0 t) (stmts-twice ss level _ h.1 t)

-- Entering a block whose text was renamed before

module _ (σ own : Replacement) (below : AllBelow (keys own)) (big : Big σ) (n : ℕ) where
  -- a name of the block is left for its own replacement
  own_in : among n (keys own) ≡ true → renamed own (renamed (without (keys own) σ) n) ≡ renamed (own ++ σ) n
  own_in h =
      let (x, q) = lookup-among n own h in
      rw (renamed-own n (keys own) σ h) (renamed-some own n x q ∙ sym (renamed-some (own ++ σ) n x (lookup-left n own σ x q)))

  -- any other is new already, or no name that is replaced
  own_out : among n (keys own) ≡ false → (o : Option ℕ) → lookup n σ ≡ o → renamed own (renamed σ n) ≡ renamed σ n
  own_out h none e = rw (renamed-none σ n e) (renamed-none own n (lookup-not-among n own h))
  own_out h (some x) e =
      rw (renamed-some σ n x e) (renamed-none own x (lookup-not-among x own (new-not-among x (keys own) (big-lookup n x σ big e) below)))

  own_same : (b : Bool) → among n (keys own) ≡ b → renamed own (renamed (without (keys own) σ) n) ≡ renamed (own ++ σ) n
  own_same true h = own_in h
  own_same false h =
      rw (renamed-other n (keys own) σ h)
      (own_out h (lookup n σ) refl ∙ sym (renamed-same (own ++ σ) σ n (lookup-right n own σ (lookup-not-among n own h))))

pub twice-own : (σ own : Replacement) → AllBelow (keys own) → Big σ → Twice (without (keys own) σ) own (own ++ σ)
twice-own σ own below big =
    record { same = λ n h. own_same σ own below big n (among n (keys own)) refl; big = λ n h. renamed-big (without (keys own) σ) (big-without (keys own) σ big) n }

pub enter-renamed : (b : Block) (level : ℕ) (fs : List Formal) (here : ℕ) → FormedBlock b level fs here → (D : List ℕ) (σ own : Replacement) → AllBelow D → keys own ≡ D → Big σ
    → rename_block (rename_block b (without D σ)) own ≡ rename_block b (own ++ σ)
enter-renamed b level fs here formed D σ own below e big =
    subst (λ (E : List ℕ). rename_block (rename_block b (without E σ)) own ≡ rename_block b (own ++ σ)) e
    (rename-twice b level fs here formed (twice-own σ own (subst AllBelow (sym e) below) big))

-- The names of an activation, and its text, said of the block as the script has it

module _ (formals arguments : List ℕ) (new : ℕ) (b : Block) where
  pub own-zip : length formals ≡ length arguments
      → own_names formals arguments new b ≡ zip (formals ++ declared_names b) (arguments ++ up_from new (length (declared_names b)))
  unfolding own_names
  own-zip l = zip-append formals arguments (declared_names b) (up_from new (length (declared_names b))) l

  pub own-lengths : length formals ≡ length arguments → length (formals ++ declared_names b) ≡ length (arguments ++ up_from new (length (declared_names b)))
  own-lengths l = lengths-append formals (declared_names b) arguments (up_from new (length (declared_names b))) l (sym (length-up_from new (length (declared_names b))))

  pub own_keys : length formals ≡ length arguments → keys (own_names formals arguments new b) ≡ formals ++ declared_names b
  own_keys l = ap keys (own-zip l) ∙ keys_zip (formals ++ declared_names b) (arguments ++ up_from new (length (declared_names b))) (own-lengths l)

  -- a block's names are its own however its text was renamed around it
  pub own-kept : (σ : Replacement) → own_names formals arguments new (rename_block b (without (formals ++ declared_names b) σ)) ≡ own_names formals arguments new b
  unfolding own_names
  own-kept σ = rw (declared-kept b (formals ++ declared_names b) σ (λ n h. among-right n formals (declared_names b) h))

  pub entered-text : (σ : Replacement) (encloser : ℕ) (around : List Replacement) (level : ℕ) (fs : List Formal) (here : ℕ) → FormedBlock b level fs here → AllBelow formals → length formals ≡ length arguments → Big σ
      → (activation formals arguments new (rename_block b (without (formals ++ declared_names b) σ)) encloser around).text
      ≡ rename_block b (own_names formals arguments new b ++ σ)
  unfolding activation
  entered-text σ encloser around level fs here formed below l big =
      rw (own-kept σ)
      (enter-renamed b level fs here formed (formals ++ declared_names b) σ (own_names formals arguments new b) (each_append (λ n. n < 65536) formals (declared_names b) below (block-names level fs here b formed)) (own_keys l) big)

  pub declared-new : (σ : Replacement) → length formals ≡ length arguments → Distinct (formals ++ declared_names b)
      → declared_names (rename_block b (own_names formals arguments new b ++ σ)) ≡ up_from new (length (declared_names b))
  unfolding own_names
  declared-new σ l once =
      declared_names-renamed b (own_names formals arguments new b ++ σ)
      ∙ own_new formals arguments (declared_names b) (up_from new (length (declared_names b))) σ l (sym (length-up_from new (length (declared_names b)))) once
