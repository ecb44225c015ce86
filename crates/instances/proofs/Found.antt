-- A name's instance has the kind that the live activations declare it with, and what is found in a closed copy is closed.
use Rattle.std.specs.Prelude.{ℕ, zero, suc, ◌+◌, ◌≤◌, ◌<◌, true, false, List, [], ◌∷◌, ◌++◌, ◌≡◌, refl, eqb, length}
use Rattle.std.proofs.Common.{arith, sym, ap, subst, ◌∙◌}
use Rattle.std.proofs.Math.Option.{Option, none, some}
use Rattle.std.proofs.Math.ListN.{get_elem?}
use Rattle.language.specs.Basics.{lookup, zip}
use Rattle.language.specs.Text.{Kind, Decl, Stmt, Decls, no-decl, decl, Stmts, no-stmt, stmt, decls, stmts, block_decls, decl_name, decl_kind}
use Rattle.language.specs.Machine.{Activation, State, Instance, declared_at, instance_from, instance, kind_at}
use Rattle.laws.specs.Tests.{split, none≢some, eqb_swap, some_inj}
use Rattle.laws.specs.Lookup.{lookup-here, lookup-there, lookup-left, lookup-right}
use Rattle.laws.specs.Instances.{declared-here, declared-there, declared_by, instance-here, instance-there, found_at}
use Rattle.laws.specs.Rising.{rising-name}
use Rattle.instances.proofs.Closed.{Kinds, decl_kinds, InDecl, InStmt, InDecls, InStmts}
use Rattle.instances.proofs.Invariant.{kinds_in, live_kinds, Invariant}

kind_found : Option (ℕ × Decl) → Option Kind
kind_found o = elim o [ none ↦ none | some p ↦ some (decl_kind p.1) ]

declared-kind : (x j : ℕ) (ds : List Decl) → kind_found (declared_at x j ds) ≡ lookup x (decl_kinds ds)
unfolding kind_found decl_kinds zip declared_at lookup
declared-kind x j [] = refl
declared-kind x j (d ∷ ds) =
    let others : Kinds = decl_kinds ds in
    split (eqb (decl_name d) x)
    (λ t. ap kind_found (declared-here x j d ds t) ∙ sym (lookup-here x (decl_name d, decl_kind d) others (eqb_swap (decl_name d) x true t)))
    (λ f. ap kind_found (declared-there x j d ds f) ∙ declared-kind x (suc j) ds ∙ sym (lookup-there x (decl_name d, decl_kind d) others (eqb_swap (decl_name d) x false f)))

-- the machine's kind of a name is what the live activations declare
kind_is : Option Instance → Option Kind
kind_is o = elim o [ none ↦ none | some i ↦ some (decl_kind i.decl) ]

own-kind : (x : ℕ) (a : Activation) (o : Option (ℕ × Decl)) → declared_by x a ≡ o → lookup x (kinds_in a.text) ≡ kind_found o
unfolding kinds_in
own-kind x a o e = sym (declared-kind x (suc (length a.arguments)) (block_decls a.text)) ∙ ap kind_found e

instance-kind : (x n : ℕ) (as' : List Activation) → kind_is (instance_from x n as') ≡ lookup x (live_kinds as')
unfolding kind_is kind_found instance_from live_kinds lookup
instance-kind x n [] = refl
instance-kind x n (a ∷ rest) = by (declared_by x a) refl (instance-kind x (suc n) rest)
  where
    by : (o : Option (ℕ × Decl)) → declared_by x a ≡ o → kind_is (instance_from x (suc n) rest) ≡ lookup x (live_kinds rest) →
        kind_is (instance_from x n (a ∷ rest)) ≡ lookup x (kinds_in a.text ++ live_kinds rest)
    by none e h = ap kind_is (instance-there x n a rest e) ∙ h ∙ sym (lookup-right x (kinds_in a.text) (live_kinds rest) (own-kind x a none e))
    by (some p) e h =
        ap kind_is (instance-here x n a rest p e) ∙ sym (lookup-left x (kinds_in a.text) (live_kinds rest) (decl_kind p.1) (own-kind x a (some p) e))

pub kind_at-live : (s : State) (x : ℕ) → kind_at s x ≡ lookup x (live_kinds s.live)
unfolding kind_at instance kind_is
kind_at-live s x = instance-kind x 1 s.live

-- a name that is declared has an instance, of its kind
pub instance-of : (s : State) (x : ℕ) (k : Kind) → lookup x (live_kinds s.live) ≡ some k →
    (i : Instance) × (instance s x ≡ some i) × (decl_kind i.decl ≡ k)
unfolding instance kind_is
instance-of s x k e = by (instance s x) refl
  where
    by : (o : Option Instance) → instance s x ≡ o → (i : Instance) × (instance s x ≡ some i) × (decl_kind i.decl ≡ k)
    by none h = none≢some (sym (ap kind_is h) ∙ instance-kind x 1 s.live ∙ e)
    by (some i) h = (i, h, some_inj (sym (ap kind_is h) ∙ instance-kind x 1 s.live ∙ e))

-- and is one of the new names
pub between : (s : State) → Invariant s → (x : ℕ) (k : Kind) → lookup x (live_kinds s.live) ≡ some k → (65536 ≤ x) × (x < s.fresh)
between s inv x k e =
    let i = instance-of s x k e in
    let f = found_at s x i.0 i.1 in
    let n = f.name-is in
    let r = rising-name 65536 s.live s.fresh f.depth f.index i.0.home i.0.decl inv.rising f.home_at f.decl-at in
    omega arith

-- what is found in a closed copy is closed
pub decl-in : (ds : Decls) (j : ℕ) (K : Kinds) (d : Decl) → get_elem? (decls ds) j ≡ some d → InDecls ds K → InDecl d K
unfolding decls InDecls
decl-in no-decl j K d e h = none≢some e
decl-in (decl c ds) zero K d e h = subst (λ (x : Decl). InDecl x K) (some_inj e) h.0
decl-in (decl c ds) (suc j) K d e h = decl-in ds j K d e h.1

pub stmt-in : (ss : Stmts) (i : ℕ) (K : Kinds) (x : Stmt) → get_elem? (stmts ss) i ≡ some x → InStmts ss K → InStmt x K
unfolding stmts InStmts
stmt-in no-stmt i K x e h = none≢some e
stmt-in (stmt s ss) zero K x e h = subst (λ (y : Stmt). InStmt y K) (some_inj e) h.0
stmt-in (stmt s ss) (suc i) K x e h = stmt-in ss i K x e h.1
