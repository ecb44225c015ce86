-- The scope half: the check finds nothing wrong exactly where the scope rules hold.
use Rattle.std.specs.Prelude.{ℕ, Bool, true, false, List, [], ◌∷◌, map, ◌↔◌, ◌≡◌, refl}
use Rattle.std.proofs.Math.Option.{Option, none, some}
use Rattle.std.proofs.Common.{sym, arith}
use Rattle.language.specs.Basics.{lookup}
use Rattle.language.specs.Text.{Kind, variable, label, procedure, Formal, Action, CL, GO, IF, KN, AR, AD, RM, QY, Block, block, Decl, VR, LB, PR, Stmt, BK, DO, Decls, no-decl, decl, Stmts, no-stmt, stmt, same_kind}
use Rattle.language.specs.Scope.{Meaning, Scope, inside, Judgement, fine, wrong, ◌then◌, of_kind, uses, visible, all_visible, kind_in, agree, agrees, judge_action, judge_block, judge_decl, judge_stmt, judge_decls, judge_stmts}
use Rattle.language.specs.declared.Refusal.{Refusal}
use Rattle.language.specs.declared.Refusal.TheVariants.{NotVisible, WrongKind, CallMismatch}
use Rattle.laws.specs.Kinds.{same_kind_lem}
use Rattle.laws.specs.Each.{Each}
use Rattle.grammar.specs.Rules.{Visible, Is, ScopedAction, ScopedBlock, ScopedDecl, ScopedStmt, ScopedDecls, ScopedStmts}

abbrev pub Fine : Judgement → Type 0 → Type 0
Fine v A = (v ≡ fine) ↔ A

pub nothing : Fine fine (Unit {0})
nothing = (λ e. tt, λ u. refl)

pub then-first : (v w : Judgement) → ◌then◌ v w ≡ fine → v ≡ fine
unfolding ◌then◌
then-first fine w e = refl
then-first (wrong c o) w e = e

pub then-second : (v w : Judgement) → ◌then◌ v w ≡ fine → w ≡ fine
unfolding ◌then◌
then-second fine w e = e
then-second (wrong c o) w e = cc

pub then-both : (v w : Judgement) → v ≡ fine → w ≡ fine → ◌then◌ v w ≡ fine
unfolding ◌then◌
then-both v w e f = rw (e, ◌then◌) f

pub both : {A B : Type 0} {v w : Judgement} → Fine v A → Fine w B → Fine (◌then◌ v w) (A × B)
both {v = v} {w = w} a b =
    (λ e. (a.0 (then-first v w e), b.0 (then-second v w e)), λ k. then-both v w (a.1 k.0) (b.1 k.1))

three : {A B C : Type 0} {u v w : Judgement} → Fine u A → Fine v B → Fine w C → Fine (◌then◌ u (◌then◌ v w)) (A × B × C)
three {u = u} {v = v} {w = w} a b c = (
  λ e. let f : ◌then◌ v w ≡ fine = then-second u (◌then◌ v w) e in
      (a.0 (then-first u (◌then◌ v w) e), b.0 (then-first v w f), c.0 (then-second v w f)),
  λ k. then-both u (◌then◌ v w) (a.1 k.0) (then-both v w (b.1 k.1) (c.1 k.2)),
)

kind-same : (k : Kind) → same_kind k k ≡ true
unfolding same_kind
kind-same variable = refl
kind-same label = refl
kind-same procedure = refl

kind-same-as : (k l : Kind) → l ≡ k → same_kind k l ≡ true
kind-same-as k l e = rw e (kind-same k)

not-fine : {A : Type 0} (c : Refusal) (o : ℕ) → wrong c o ≡ fine → A
not-fine c o e = let z : ◌≡◌ {A = ℕ} 0 1 = cc in absurd (omega arith)

-- a name that is to be of a kind
of-kind-same : (k : Kind) (o : ℕ) (m : Meaning) (b : Bool) → same_kind k m.kind ≡ b → of_kind k o (some m) ≡ fine → m.kind ≡ k
unfolding of_kind
of-kind-same k o m true t e = sym (same_kind_lem k m.kind t)
of-kind-same k o m false t e = not-fine WrongKind o (rw (t, of_kind) at e)

of-kind : (k : Kind) (o : ℕ) (v : Option Meaning) → of_kind k o v ≡ fine → (m : Meaning) × (v ≡ some m) × (m.kind ≡ k)
unfolding of_kind
of-kind k o none e = not-fine NotVisible o e
of-kind k o (some m) e = (m, refl, of-kind-same k o m (same_kind k m.kind) refl e)

kind-of : (k : Kind) (o : ℕ) (v : Option Meaning) (m : Meaning) → v ≡ some m → m.kind ≡ k → of_kind k o v ≡ fine
unfolding of_kind
kind-of k o v m e f = rw (e, of_kind, kind-same-as k m.kind f)

pub used : (sc : Scope) (o : ℕ) (k : Kind) (n : ℕ) → Fine (uses sc o k n) (Is k sc n)
unfolding uses
used sc o k n = (λ e. of-kind k o (lookup n sc) e, λ h. kind-of k o (lookup n sc) h.0 h.1 h.2)

-- arguments
visible-some : (o : ℕ) (v : Option Meaning) → visible o v ≡ fine → (m : Meaning) × (v ≡ some m)
unfolding visible
visible-some o none e = not-fine NotVisible o e
visible-some o (some m) e = (m, refl)

some-visible : (o : ℕ) (v : Option Meaning) (m : Meaning) → v ≡ some m → visible o v ≡ fine
unfolding visible
some-visible o v m e = rw (e, visible)

pub seen : (sc : Scope) (o : ℕ) (n : ℕ) → Fine (visible o (lookup n sc)) (Visible sc n)
seen sc o n = (λ e. visible-some o (lookup n sc) e, λ h. some-visible o (lookup n sc) h.0 h.1)

all_seen : (sc : Scope) (o : ℕ) (ns : List ℕ) → Fine (all_visible sc o ns) (Each (Visible sc) ns)
unfolding all_visible
all_seen sc o [] = nothing
all_seen sc o (n ∷ ns) = both (seen sc o n) (all_seen sc o ns)

-- a call's agreement with what is called
abbrev Agreed : Option Meaning → List (Option Kind) → Type 0
Agreed v xs = (m : Meaning) (ks : List Kind) → v ≡ some m → m.takes ≡ some ks → agree ks xs ≡ true

agrees-takes : (o : ℕ) (m : Meaning) (xs : List (Option Kind)) (ks : List Kind) (b : Bool) → m.takes ≡ some ks → agree ks xs ≡ b
    → agrees o (some m) xs ≡ fine → b ≡ true
unfolding agrees
agrees-takes o m xs ks true t a e = refl
agrees-takes o m xs ks false t a e = not-fine CallMismatch o (rw (t, agrees, a) at e)

agrees-agreed : (o : ℕ) (v : Option Meaning) (xs : List (Option Kind)) → agrees o v xs ≡ fine → Agreed v xs
unfolding agrees
agrees-agreed o v xs e m ks f t =
    agrees-takes o m xs ks (agree ks xs) t refl (rw f at e)

agreed-takes : (o : ℕ) (m : Meaning) (xs : List (Option Kind)) (t : Option (List Kind)) → m.takes ≡ t
    → Agreed (some m) xs → agrees o (some m) xs ≡ fine
unfolding agrees
agreed-takes o m xs none e a = rw (e, agrees)
agreed-takes o m xs (some ks) e a = rw (e, agrees, a m ks refl e)

agreed-agrees : (o : ℕ) (v : Option Meaning) (xs : List (Option Kind)) → Agreed v xs → agrees o v xs ≡ fine
unfolding agrees
agreed-agrees o none xs a = refl
agreed-agrees o (some m) xs a = agreed-takes o m xs m.takes refl a

agreeing : (sc : Scope) (o : ℕ) (p : ℕ) (xs : List ℕ) → Fine (agrees o (lookup p sc) (map (kind_in sc) xs)) (Agreed (lookup p sc) (map (kind_in sc) xs))
agreeing sc o p xs = (λ e. agrees-agreed o (lookup p sc) (map (kind_in sc) xs) e, λ a. agreed-agrees o (lookup p sc) (map (kind_in sc) xs) a)

-- statements and declarations
pub action-scoped : (a : Action) (sc : Scope) (o : ℕ) → Fine (judge_action sc o a) (ScopedAction a sc)
unfolding judge_action ScopedAction
action-scoped (CL p xs) sc o =
    let k = three (used sc o procedure p) (all_seen sc o xs) (agreeing sc o p xs) in
    (λ e. let h = k.0 e in record { called = h.0; arguments = h.1; agreed = h.2 }, λ h. k.1 (h.called, h.arguments, h.agreed))
action-scoped (GO l) sc o = used sc o label l
action-scoped (IF v l) sc o = both (used sc o variable v) (used sc o label l)
action-scoped (KN t z) sc o = used sc o variable t
action-scoped (AR t p l r) sc o = three (used sc o variable t) (used sc o variable l) (used sc o variable r)
action-scoped (AD g m) sc o = both (used sc o variable g) (used sc o variable m)
action-scoped (RM g m) sc o = both (used sc o variable g) (used sc o variable m)
action-scoped (QY t g m) sc o = three (used sc o variable t) (used sc o variable g) (used sc o variable m)

mutual
  unfolding judge_block ScopedBlock

  pub block-scoped : (t : Block) (fs : List Formal) (sc : Scope) → Fine (judge_block t fs sc) (ScopedBlock t fs sc)
  block-scoped (block at ds ss) fs sc = both (decls-scoped ds (inside fs ds sc)) (stmts-scoped ss (inside fs ds sc))

  decl-scoped : (d : Decl) (sc : Scope) → Fine (judge_decl d sc) (ScopedDecl d sc)
  decl-scoped (VR at n) sc = nothing
  decl-scoped (LB at n i) sc = nothing
  decl-scoped (PR at n fs b) sc = block-scoped b fs sc

  stmt-scoped : (s : Stmt) (sc : Scope) → Fine (judge_stmt s sc) (ScopedStmt s sc)
  stmt-scoped (BK b) sc = block-scoped b [] sc
  stmt-scoped (DO at a) sc = action-scoped a sc at

  decls-scoped : (ds : Decls) (sc : Scope) → Fine (judge_decls ds sc) (ScopedDecls ds sc)
  decls-scoped no-decl sc = nothing
  decls-scoped (decl d ds) sc = both (decl-scoped d sc) (decls-scoped ds sc)

  stmts-scoped : (ss : Stmts) (sc : Scope) → Fine (judge_stmts ss sc) (ScopedStmts ss sc)
  stmts-scoped no-stmt sc = nothing
  stmts-scoped (stmt s ss) sc = both (stmt-scoped s sc) (stmts-scoped ss sc)
