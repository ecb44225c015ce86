-- What the check accepts is closed: the rules that an accepted script keeps say so of each of its blocks.
use Rattle.std.specs.Prelude.{ℕ, List, [], ◌∷◌, ◌++◌, map, ◌≡◌, refl, eqb}
use Rattle.std.proofs.Common.{append_assoc, sym, ap, ◌∙◌}
use Rattle.std.proofs.Math.Option.{Option, none, some}
use Rattle.language.specs.Basics.{lookup, zip}
use Rattle.language.specs.Text.{Kind, variable, label, procedure, Formal, Action, CL, GO, IF, KN, AR, AD, RM, QY, Block, block, Decl, VR, LB, PR, Stmt, BK, DO, Decls, no-decl, decl, Stmts, no-stmt, stmt, decls, decl_name, decl_kind, formal_names, formal_kinds}
use Rattle.language.specs.Scope.{Meaning, Scope, formal_meaning, decl_meaning, inside}
use Rattle.language.specs.Check.{check, accepted}
use Rattle.laws.specs.Tests.{some_inj, split}
use Rattle.laws.specs.Each.{Each}
use Rattle.laws.specs.Lookup.{AllBelow, lookup-here, lookup-nil, lookup-there}
use Rattle.grammar.specs.Rules.{Bytes, Keeps, Visible, Is, ScopedAction, FormedBlock, FormedDecl, FormedStmt, FormedDecls, FormedStmts, ScopedBlock, ScopedDecl, ScopedStmt, ScopedDecls, ScopedStmts}
use Rattle.grammar.specs.Formed.{formal-names, decl-names}
use Rattle.grammar.proofs.Exact.{accepts-exactly}
use Rattle.instances.specs.Statement.{uses_of}
use Rattle.instances.proofs.Closed.{Kinds, decl_kinds, own_kinds, LabelIn, LabelsIn, Used, AllUsed, InBlock, InDecl, InStmt, InDecls, InStmts}

-- the kinds of a scope
unfoldable pub kinds_of : Scope → Kinds
kinds_of sc = map (λ (p : ℕ × Meaning). (p.0, p.1.kind)) sc

kinds_of-formals : (fs : List Formal) (sc : Scope) → kinds_of (map formal_meaning fs ++ sc) ≡ zip (formal_names fs) (formal_kinds fs) ++ kinds_of sc
unfolding kinds_of formal_meaning zip formal_names formal_kinds
kinds_of-formals [] sc = refl
kinds_of-formals (f ∷ fs) sc = ap {B = Kinds} (λ r. (f.name, f.kind) ∷ r) (kinds_of-formals fs sc)

kinds_of-decls : (ds : List Decl) (sc : Scope) → kinds_of (map decl_meaning ds ++ sc) ≡ decl_kinds ds ++ kinds_of sc
unfolding kinds_of decl_meaning zip decl_kinds decl_name decl_kind
kinds_of-decls [] sc = refl
kinds_of-decls (VR at n ∷ ds) sc = ap {B = Kinds} (λ r. (n, variable) ∷ r) (kinds_of-decls ds sc)
kinds_of-decls (LB at n i ∷ ds) sc = ap {B = Kinds} (λ r. (n, label) ∷ r) (kinds_of-decls ds sc)
kinds_of-decls (PR at n fs b ∷ ds) sc = ap {B = Kinds} (λ r. (n, procedure) ∷ r) (kinds_of-decls ds sc)

kinds_of-inside : (fs : List Formal) (ds : Decls) (sc : Scope) → kinds_of (inside fs ds sc) ≡ own_kinds fs ds ++ kinds_of sc
unfolding inside own_kinds
kinds_of-inside fs ds sc =
    kinds_of-formals fs (map decl_meaning (decls ds) ++ sc) ∙ ap {B = Kinds} (λ r. zip (formal_names fs) (formal_kinds fs) ++ r) (kinds_of-decls (decls ds) sc) ∙
    sym (append_assoc (zip (formal_names fs) (formal_kinds fs)) (decl_kinds (decls ds)) (kinds_of sc))

lookup-kinds_of : (n : ℕ) (sc : Scope) (m : Meaning) → lookup n sc ≡ some m → lookup n (kinds_of sc) ≡ some m.kind
unfolding kinds_of
lookup-kinds_of n [] m e = lookup-nil n m e
lookup-kinds_of n (p ∷ sc) m e =
    split (eqb n p.0)
    (λ t. lookup-here n (p.0, p.1.kind) (kinds_of sc) t ∙ ap {B = Option Kind} (λ x. some x.kind) (some_inj (sym (lookup-here n p sc t) ∙ e)))
    (λ d. lookup-there n (p.0, p.1.kind) (kinds_of sc) d ∙ lookup-kinds_of n sc m (sym (lookup-there n p sc d) ∙ e))

-- names used
is-used : (sc : Scope) (k : Kind) (n : ℕ) → Is k sc n → Used (kinds_of sc) (n, some k)
is-used sc k n h = record { kind = h.0.kind; seen = lookup-kinds_of n sc h.0 h.1; serves = sym h.2 }

all-visible : (sc : Scope) (xs : List ℕ) → Each (Visible sc) xs → AllUsed (kinds_of sc) (map (λ (x : ℕ). (x, none)) xs)
all-visible sc [] h = tt
all-visible sc (x ∷ xs) h =
    (record { kind = h.0.0.kind; seen = lookup-kinds_of x sc h.0.0 h.0.1; serves = tt }, all-visible sc xs h.1)

closed-action : (a : Action) (sc : Scope) → ScopedAction a sc → AllUsed (kinds_of sc) (uses_of a)
unfolding ScopedAction uses_of
closed-action (CL p xs) sc h = (is-used sc procedure p h.called, all-visible sc xs h.arguments)
closed-action (GO l) sc h = (is-used sc label l h, tt)
closed-action (IF v l) sc h = (is-used sc variable v h.0, (is-used sc label l h.1, tt))
closed-action (KN t z) sc h = (is-used sc variable t h, tt)
closed-action (AR t o l r) sc h = (is-used sc variable t h.0, (is-used sc variable l h.1, (is-used sc variable r h.2, tt)))
closed-action (AD g m) sc h = (is-used sc variable g h.0, (is-used sc variable m h.1, tt))
closed-action (RM g m) sc h = (is-used sc variable g h.0, (is-used sc variable m h.1, tt))
closed-action (QY t g m) sc h = (is-used sc variable t h.0, (is-used sc variable g h.1, (is-used sc variable m h.2, tt)))

label-in : (d : Decl) (level s here : ℕ) → FormedDecl d level s here → LabelIn s d
unfolding FormedBlock LabelIn
label-in (VR at n) level s here h = tt
label-in (LB at n i) level s here h = (h.first, h.last)
label-in (PR at n fs b) level s here h = tt

labels_in : (ds : Decls) (level s here : ℕ) → FormedDecls ds level s here → LabelsIn s ds
unfolding FormedBlock decls
labels_in no-decl level s here h = tt
labels_in (decl d ds) level s here h = (label-in d level s here h.0, labels_in ds level s _ h.1)

-- text that is formed and scoped is closed
mutual
  unfolding FormedBlock ScopedBlock InBlock formal_names

  closed_block : (b : Block) (level : ℕ) (fs : List Formal) (here : ℕ) (sc : Scope) → AllBelow (formal_names fs) → FormedBlock b level fs here → ScopedBlock b fs sc →
      InBlock b fs (kinds_of sc)
  closed_block (block at ds ss) level fs here sc small f h =
      let around : kinds_of (inside fs ds sc) ≡ own_kinds fs ds ++ kinds_of sc = kinds_of-inside fs ds sc in (
        record { formals-small = small; small = decl-names ds level _ _ f.declarations; once = f.once; labels = labels_in ds level _ _ f.declarations },
        rw around at (closed-decls ds level _ _ (inside fs ds sc) f.declarations h.0),
        rw around at (closed-stmts ss level _ (inside fs ds sc) f.statements h.1),
      )

  closed-decl : (d : Decl) (level s here : ℕ) (sc : Scope) → FormedDecl d level s here → ScopedDecl d sc → InDecl d (kinds_of sc)
  closed-decl (VR at n) level s here sc f h = tt
  closed-decl (LB at n i) level s here sc f h = tt
  closed-decl (PR at n fs b) level s here sc f h = closed_block b _ fs _ sc (formal-names fs _ f.formals) f.body h

  closed-stmt : (x : Stmt) (level here : ℕ) (sc : Scope) → FormedStmt x level here → ScopedStmt x sc → InStmt x (kinds_of sc)
  closed-stmt (BK b) level here sc f h = closed_block b _ [] _ sc tt f h
  closed-stmt (DO at a) level here sc f h = closed-action a sc h

  closed-decls : (ds : Decls) (level s here : ℕ) (sc : Scope) → FormedDecls ds level s here → ScopedDecls ds sc → InDecls ds (kinds_of sc)
  closed-decls no-decl level s here sc f h = tt
  closed-decls (decl d ds) level s here sc f h = (closed-decl d level s _ sc f.0 h.0, closed-decls ds level s _ sc f.1 h.1)

  closed-stmts : (ss : Stmts) (level here : ℕ) (sc : Scope) → FormedStmts ss level here → ScopedStmts ss sc → InStmts ss (kinds_of sc)
  closed-stmts no-stmt level here sc f h = tt
  closed-stmts (stmt x ss) level here sc f h = (closed-stmt x level _ sc f.0 h.0, closed-stmts ss level _ sc f.1 h.1)

pub rules-closed : (t : Block) → Keeps t → InBlock t [] []
unfolding kinds_of formal_names
rules-closed t k = closed_block t 1 [] 0 [] tt k.formed k.scoped

pub accepted-closed : (bs : List ℕ) (t : Block) → Bytes bs → check bs ≡ accepted t → InBlock t [] []
accepted-closed bs t bytes e = rules-closed t ((accepts-exactly bs bytes t).0 e).1
