-- Renaming keeps text closed: a block within loses the names that it declares itself, and captures no new one.
use Rattle.std.specs.Prelude.{ℕ, ◌<◌, List, [], ◌∷◌, ◌++◌, map, ◌≡◌, refl, length}
use Rattle.std.proofs.Math.Option.{Option, none, some}
use Rattle.std.proofs.Common.{sym, ap, ◌∙◌}
use Rattle.std.proofs.lemmas.List.{length-map}
use Rattle.language.specs.Basics.{lookup, zip}
use Rattle.language.specs.Text.{Kind, procedure, Formal, Action, CL, GO, IF, KN, AR, AD, RM, QY, Block, block, Decl, VR, LB, PR, Stmt, BK, DO, Decls, no-decl, decl, Stmts, no-stmt, stmt, decls, stmts, block_decls, decl_name, decl_kind, formal_names, formal_kinds, declared_names}
use Rattle.language.specs.Copy.{Replacement, renamed, without, rename_action, rename_block, rename_decl, rename_stmt, rename_decls, rename_stmts}
use Rattle.laws.specs.Each.{each_append}
use Rattle.laws.specs.Lookup.{lookup-left, lookup-right, either, keys, lookup_absent, lookup-present, among-right, AllBelow, below-among, keys-append, keys_zip}
use Rattle.laws.specs.Renaming.{renamed-none, renamed-same, without-own, without_other, decl_kinds-renamed, decl_names-renamed, names-kept, stmts-length}
use Rattle.instances.specs.Statement.{uses_of}
use Rattle.instances.proofs.Closed.{Kinds, decl_kinds, own_kinds, LabelIn, LabelsIn, Written, AllUsed, InBlock, InDecl, InStmt, InDecls, InStmts}

-- what is visible stays visible under its new name with its kind, and no name comes to be a written one but itself
pub record Keeps (σ : Replacement) (K K' : Kinds) : Type 0 where
  pub carries : (n : ℕ) (k : Kind) → lookup n K ≡ some k → lookup (renamed σ n) K' ≡ some k
  pub high : (n : ℕ) → renamed σ n < 65536 → renamed σ n ≡ n

module _ (σ : Replacement) (K K' own : Kinds) (keeps : Keeps σ K K') (small : AllBelow (keys own)) where
  own_name : (n : ℕ) (k : Kind) → lookup n own ≡ some k → renamed (without (keys own) σ) n ≡ n
  own_name n k e = renamed-none (without (keys own) σ) n (without-own n (keys own) σ (lookup-present n own k e))

  other_name : (n : ℕ) → lookup n own ≡ none → renamed (without (keys own) σ) n ≡ renamed σ n
  other_name n e = renamed-same (without (keys own) σ) σ n (without_other n (keys own) σ (lookup_absent n own e))

  not-captured : (n : ℕ) → lookup n own ≡ none → lookup (renamed σ n) own ≡ none
  not-captured n e = by (lookup (renamed σ n) own) refl
    where
      by : (o : Option Kind) → lookup (renamed σ n) own ≡ o → lookup (renamed σ n) own ≡ none
      by none h = h
      by (some k) h =
          let same : renamed σ n ≡ n = keeps.high n (below-among (renamed σ n) (keys own) small (lookup-present (renamed σ n) own k h)) in
          rw same e

  inside-carries : (n : ℕ) (k : Kind) → lookup n (own ++ K) ≡ some k → lookup (renamed (without (keys own) σ) n) (own ++ K') ≡ some k
  inside-carries n k e =
      either n own K k e (λ h. rw (own_name n k h) (lookup-left n own K' k h))
      (λ h e'. rw (other_name n h) (lookup-right (renamed σ n) own K' (not-captured n h) ∙ keeps.carries n k e'))

  inside-high : (n : ℕ) → renamed (without (keys own) σ) n < 65536 → renamed (without (keys own) σ) n ≡ n
  inside-high n b = by (lookup n own) refl
    where
      by : (o : Option Kind) → lookup n own ≡ o → renamed (without (keys own) σ) n ≡ n
      by none h = other_name n h ∙ keeps.high n (rw (other_name n h) at b)
      by (some k) h = own_name n k h

  keeps-inside : Keeps (without (keys own) σ) (own ++ K) (own ++ K')
  keeps-inside = record { carries = inside-carries; high = inside-high }

-- the names of a block's own kinds
pub keys-images : {A : Type 0} (f : A → ℕ) (g : A → Kind) (xs : List A) → keys (zip (map f xs) (map g xs)) ≡ map f xs
keys-images f g xs = keys_zip (map f xs) (map g xs) (length-map xs f ∙ sym (length-map xs g))

pub keys-own : (fs : List Formal) (ds : Decls) → keys (own_kinds fs ds) ≡ formal_names fs ++ map decl_name (decls ds)
unfolding own_kinds decl_kinds formal_names formal_kinds
keys-own fs ds = rw (keys-append, keys-images (λ (f : Formal). f.name) (λ (f : Formal). f.kind) fs, keys-images decl_name decl_kind (decls ds))

-- a block within keeps its names
kept-names : (formals : List ℕ) (ds : Decls) (σ : Replacement) →
    map decl_name (decls (rename_decls ds (without (formals ++ map decl_name (decls ds)) σ))) ≡ map decl_name (decls ds)
kept-names formals ds σ =
    let names : List ℕ = map decl_name (decls ds) in
    decl_names-renamed ds (without (formals ++ names) σ) ∙ names-kept names (formals ++ names) σ (λ n t. among-right n formals names t)

kept-kinds : (fs : List Formal) (ds : Decls) (σ : Replacement) →
    own_kinds fs (rename_decls ds (without (formal_names fs ++ map decl_name (decls ds)) σ)) ≡ own_kinds fs ds
unfolding own_kinds decl_kinds
kept-kinds fs ds σ =
    rw (kept-names (formal_names fs) ds σ, decl_kinds-renamed ds (without (formal_names fs ++ map decl_name (decls ds)) σ))

renamed-labels-in : (s : ℕ) (ds : Decls) (σ : Replacement) → LabelsIn s ds → LabelsIn s (rename_decls ds σ)
unfolding LabelIn rename_block decls
renamed-labels-in s no-decl σ h = tt
renamed-labels-in s (decl (VR at n) ds) σ h = (tt, renamed-labels-in s ds σ h.1)
renamed-labels-in s (decl (LB at n i) ds) σ h = (h.0, renamed-labels-in s ds σ h.1)
renamed-labels-in s (decl (PR at n fs b) ds) σ h = (tt, renamed-labels-in s ds σ h.1)

pub renamed-labels : (ds : Decls) (ss : Stmts) (σ τ : Replacement) → LabelsIn (length (stmts ss)) ds → LabelsIn (length (stmts (rename_stmts ss σ))) (rename_decls ds τ)
renamed-labels ds ss σ τ h = rw (stmts-length ss σ) (renamed-labels-in (length (stmts ss)) ds τ h)

kept-written : (formals : List ℕ) (ds : Decls) (ss : Stmts) (σ : Replacement) → Written formals ds ss →
    Written formals (rename_decls ds (without (formals ++ map decl_name (decls ds)) σ)) (rename_stmts ss (without (formals ++ map decl_name (decls ds)) σ))
kept-written formals ds ss σ w =
    let τ : Replacement = without (formals ++ map decl_name (decls ds)) σ in
    record {
      formals-small = w.formals-small;
      small = rw (kept-names formals ds σ) w.small;
      once = rw (kept-names formals ds σ) w.once;
      labels = renamed-labels ds ss τ τ w.labels;
    }

-- the names that a statement uses are renamed one by one
renamed_use : Replacement → ℕ × Option Kind → ℕ × Option Kind
renamed_use σ u = (renamed σ u.0, u.1)

renamed-arguments : (σ : Replacement) (xs : List ℕ) →
    ◌≡◌ {A = List (ℕ × Option Kind)} (map (λ (x : ℕ). (x, none)) (map (renamed σ) xs)) (map (renamed_use σ) (map (λ (x : ℕ). (x, none)) xs))
unfolding renamed_use
renamed-arguments σ [] = refl
renamed-arguments σ (x ∷ xs) = ap {B = List (ℕ × Option Kind)} (λ r. (renamed σ x, none) ∷ r) (renamed-arguments σ xs)

renamed-uses : (σ : Replacement) (a : Action) → uses_of (rename_action σ a) ≡ map (renamed_use σ) (uses_of a)
unfolding uses_of rename_action renamed_use
renamed-uses σ (CL p xs) = ap {B = List (ℕ × Option Kind)} (λ r. (renamed σ p, some procedure) ∷ r) (renamed-arguments σ xs)
renamed-uses σ (GO l) = refl
renamed-uses σ (IF v l) = refl
renamed-uses σ (KN t z) = refl
renamed-uses σ (AR t o l r) = refl
renamed-uses σ (AD g m) = refl
renamed-uses σ (RM g m) = refl
renamed-uses σ (QY t g m) = refl

moved-uses : (σ : Replacement) (K K' : Kinds) → Keeps σ K K' → (us : List (ℕ × Option Kind)) → AllUsed K us → AllUsed K' (map (renamed_use σ) us)
unfolding renamed_use
moved-uses σ K K' keeps [] h = tt
moved-uses σ K K' keeps (u ∷ us) h =
    (record { kind = h.0.kind; seen = keeps.carries u.0 h.0.kind h.0.seen; serves = h.0.serves }, moved-uses σ K K' keeps us h.1)

keeps-block : (fs : List Formal) (ds : Decls) (ss : Stmts) (σ : Replacement) (K K' : Kinds) → Keeps σ K K' → Written (formal_names fs) ds ss →
    Keeps (without (formal_names fs ++ map decl_name (decls ds)) σ) (own_kinds fs ds ++ K) (own_kinds fs ds ++ K')
keeps-block fs ds ss σ K K' keeps w =
    rw (keys-own fs ds) at (keeps-inside σ K K' (own_kinds fs ds) keeps
    (rw (keys-own fs ds) (each_append (λ n. n < 65536) (formal_names fs) (map decl_name (decls ds)) w.formals-small w.small)))

-- renaming keeps text closed
mutual
  unfolding rename_block InBlock declared_names block_decls formal_names

  pub moved-block : (b : Block) (fs : List Formal) (σ : Replacement) (K K' : Kinds) → Keeps σ K K' → InBlock b fs K →
      InBlock (rename_block b (without (formal_names fs ++ declared_names b) σ)) fs K'
  moved-block (block at ds ss) fs σ K K' keeps h =
      let τ : Replacement = without (formal_names fs ++ map decl_name (decls ds)) σ in
      let within : Keeps τ (own_kinds fs ds ++ K) (own_kinds fs ds ++ K') = keeps-block fs ds ss σ K K' keeps h.0 in (
        kept-written (formal_names fs) ds ss σ h.0,
        rw (kept-kinds fs ds σ) (moved-decls ds τ (own_kinds fs ds ++ K) (own_kinds fs ds ++ K') within h.1),
        rw (kept-kinds fs ds σ) (moved-stmts ss τ (own_kinds fs ds ++ K) (own_kinds fs ds ++ K') within h.2),
      )

  moved-decl : (d : Decl) (σ : Replacement) (K K' : Kinds) → Keeps σ K K' → InDecl d K → InDecl (rename_decl d σ) K'
  moved-decl (VR at n) σ K K' keeps h = tt
  moved-decl (LB at n i) σ K K' keeps h = h
  moved-decl (PR at n fs b) σ K K' keeps h = moved-block b fs σ K K' keeps h

  moved-stmt : (s : Stmt) (σ : Replacement) (K K' : Kinds) → Keeps σ K K' → InStmt s K → InStmt (rename_stmt s σ) K'
  moved-stmt (BK b) σ K K' keeps h = moved-block b [] σ K K' keeps h
  moved-stmt (DO at a) σ K K' keeps h = rw (renamed-uses σ a) (moved-uses σ K K' keeps (uses_of a) h)

  pub moved-decls : (ds : Decls) (σ : Replacement) (K K' : Kinds) → Keeps σ K K' → InDecls ds K → InDecls (rename_decls ds σ) K'
  moved-decls no-decl σ K K' keeps h = tt
  moved-decls (decl d ds) σ K K' keeps h = (moved-decl d σ K K' keeps h.0, moved-decls ds σ K K' keeps h.1)

  pub moved-stmts : (ss : Stmts) (σ : Replacement) (K K' : Kinds) → Keeps σ K K' → InStmts ss K → InStmts (rename_stmts ss σ) K'
  moved-stmts no-stmt σ K K' keeps h = tt
  moved-stmts (stmt s ss) σ K K' keeps h = (moved-stmt s σ K K' keeps h.0, moved-stmts ss σ K K' keeps h.1)
