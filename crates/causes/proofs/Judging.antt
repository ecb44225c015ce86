-- A text is judged fine exactly where every action seen in it keeps the rules of Scope, and wrong exactly where the first that does not is at fault.
use Rattle.std.specs.Prelude.{ℕ, suc, ◌+◌, ◌*◌, ◌≤◌, ◌<◌, List, [], ◌⊎◌, ◌↔◌, ◌≡◌, refl, length}
use Rattle.std.proofs.Common.{arith, inl, inr, sym, ◌∙◌, subst}
use Rattle.language.specs.Text.{Formal, Action, Block, block, Decl, VR, LB, PR, Stmt, BK, DO, Decls, no-decl, decl, Stmts, no-stmt, stmt, stmts}
use Rattle.language.specs.Encoding.{formals_fields, decl_fields, stmt_fields, decls_fields}
use Rattle.language.specs.Scope.{Scope, inside, Judgement, fine, wrong, ◌then◌, judge_action, judge_block, judge_decl, judge_stmt, judge_decls, judge_stmts}
use Rattle.language.specs.declared.Refusal.{Refusal}
use Rattle.grammar.specs.Rules.{FormedBlock, FormedDecl, FormedStmt, FormedDecls, FormedStmts, ScopedAction}
use Rattle.grammar.specs.Scoped.{then-first, then-second, then-both, action-scoped}
use Rattle.causes.specs.Sites.{Sees, SeesDecl, SeesStmt, SeesDecls, SeesStmts}
use Rattle.causes.proofs.Seeing.{decl-lies, stmt-lies, decls-lie, stmts-lie}
use Rattle.causes.specs.Faults.{Misuse}
use Rattle.causes.proofs.Misusing.{judged-wrong, wrong-then, fine-then, action-misused, misuse-wrong}

-- where actions stand, and which
abbrev Site : Type 1
Site = ℕ → Action → Scope → Type 0

-- the first action at fault
pub record FirstWrong (S : Site) (c : Refusal) (o : ℕ) : Type 0 where
  pub action : Action
  pub scope : Scope
  pub sees : S o action scope
  pub earlier : (p : ℕ) (a : Action) (sc : Scope) → S p a sc → p < o → ScopedAction a sc
  pub fault : Misuse c action scope

pub record Judges (v : Judgement) (S : Site) : Type 0 where
  pub right : (v ≡ fine) ↔ ((o : ℕ) (a : Action) (sc : Scope) → S o a sc → ScopedAction a sc)
  pub first : (c : Refusal) (o : ℕ) → (v ≡ wrong c o) ↔ FirstWrong S c o

not-wrong : {A : Type 0} (c : Refusal) (o : ℕ) → fine ≡ wrong c o → A
not-wrong c o e = let z : ◌≡◌ {A = ℕ} 0 1 = cc in absurd (omega arith)

judges-nothing : (S : Site) → ((o : ℕ) (a : Action) (sc : Scope) → S o a sc → ⊥) → Judges fine S
judges-nothing S empty =
    record {
      right = (λ e o a sc h. absurd (empty o a sc h), λ h. refl);
      first = λ c o. (λ e. not-wrong c o e, λ h. absurd (empty o h.action h.scope h.sees));
    }

-- two texts, one after the other
module _ (S T : Site) (mid : ℕ) (before : (o : ℕ) (a : Action) (sc : Scope) → S o a sc → o < mid) (after : (o : ℕ) (a : Action) (sc : Scope) → T o a sc → mid ≤ o) where
  abbrev Either : Site
  Either o a sc = S o a sc ⊎ T o a sc

  first-wrong : (c : Refusal) (o : ℕ) → FirstWrong S c o → FirstWrong Either c o
  first-wrong c o h =
      record {
        action = h.action;
        scope = h.scope;
        sees = inl h.sees;
        earlier = λ p a sc k l. go p a sc l k;
        fault = h.fault;
      }
    where
      go : (p : ℕ) (a : Action) (sc : Scope) → p < o → Either p a sc → ScopedAction a sc
      go p a sc l (inl k) = h.earlier p a sc k l
      go p a sc l (inr k) = absurd (omega (arith, before o h.action h.scope h.sees, after p a sc k))

  second-wrong : (c : Refusal) (o : ℕ) → ((p : ℕ) (a : Action) (sc : Scope) → S p a sc → ScopedAction a sc) → FirstWrong T c o → FirstWrong Either c o
  second-wrong c o right h =
      record {
        action = h.action;
        scope = h.scope;
        sees = inr h.sees;
        earlier = λ p a sc k l. go p a sc l k;
        fault = h.fault;
      }
    where
      go : (p : ℕ) (a : Action) (sc : Scope) → p < o → Either p a sc → ScopedAction a sc
      go p a sc l (inl k) = right p a sc k
      go p a sc l (inr k) = h.earlier p a sc k l

  module _ (v w : Judgement) (j : Judges v S) (k : Judges w T) where
    to-first : (c : Refusal) (o : ℕ) (u : Judgement) → v ≡ u → ◌then◌ v w ≡ wrong c o → FirstWrong Either c o
    to-first c o fine q e = second-wrong c o (j.right.0 q) ((k.first c o).0 (sym (fine-then v w q) ∙ e))
    to-first c o (wrong d p) q e =
        let s : wrong d p ≡ wrong c o = sym (wrong-then v w d p q) ∙ e in
        first-wrong c o ((j.first c o).0 (q ∙ s))

    from_first : (c : Refusal) (o : ℕ) (a : Action) (sc : Scope) → Misuse c a sc → ((p : ℕ) (b : Action) (s : Scope) → Either p b s → p < o → ScopedAction b s)
        → Either o a sc → ◌then◌ v w ≡ wrong c o
    from_first c o a sc m e (inl h) =
        wrong-then v w c o ((j.first c o).1 (record { action = a; scope = sc; sees = h; earlier = λ p b s g l. e p b s (inl g) l; fault = m }))
    from_first c o a sc m e (inr h) =
        let f : v ≡ fine = j.right.1 (λ p b s g. e p b s (inl g) (omega (arith, before p b s g, after o a sc h))) in
        fine-then v w f ∙ (k.first c o).1 (record { action = a; scope = sc; sees = h; earlier = λ p b s g l. e p b s (inr g) l; fault = m })

    either-right : ((p : ℕ) (b : Action) (s : Scope) → S p b s → ScopedAction b s) → ((p : ℕ) (b : Action) (s : Scope) → T p b s → ScopedAction b s)
        → (p : ℕ) (b : Action) (s : Scope) → Either p b s → ScopedAction b s
    either-right f g p b s (inl h) = f p b s h
    either-right f g p b s (inr h) = g p b s h

    judges-both : Judges (◌then◌ v w) Either
    judges-both =
        record {
          right = (
            λ e. either-right (j.right.0 (then-first v w e)) (k.right.0 (then-second v w e)),
            λ h. then-both v w (j.right.1 (λ p b s g. h p b s (inl g))) (k.right.1 (λ p b s g. h p b s (inr g))),
          );
          first = λ c o. (λ e. to-first c o v refl e, λ h. from_first c o h.action h.scope h.fault h.earlier h.sees);
        }

-- one action
module _ (sc : Scope) (at : ℕ) (x : Action) where
  abbrev Here : Site
  Here o a s = record { stands : at ≡ o; does : x ≡ a; visible : sc ≡ s }

  here-first : (c : Refusal) (o : ℕ) → judge_action sc at x ≡ wrong c o → FirstWrong Here c o
  here-first c o e =
      let k = judged-wrong (λ c p. (p ≡ at) × Misuse c x sc) (judge_action sc at x) c o (action-misused sc at x) e in
      record {
        action = x;
        scope = sc;
        sees = record { stands = sym k.0; does = refl; visible = refl };
        earlier = λ p a s h l. absurd (omega (arith, h.stands, k.0));
        fault = k.1;
      }

  first-here : (c : Refusal) (o : ℕ) → FirstWrong Here c o → judge_action sc at x ≡ wrong c o
  first-here c o h = (λ i. judge_action (h.sees.visible i) (h.sees.stands i) (h.sees.does i)) ∙ misuse-wrong c h.scope o h.action h.fault

  judges-action : Judges (judge_action sc at x) Here
  judges-action =
      record {
        right = (
          λ e o a s h. subst (λ (T : Type 0). T) (λ i. ScopedAction (h.does i) (h.visible i)) ((action-scoped x sc at).0 e),
          λ h. (action-scoped x sc at).1 (h at x sc (record { stands = refl; does = refl; visible = refl })),
        );
        first = λ c o. (here-first c o, first-here c o);
      }

mutual
  unfolding judge_block Sees FormedBlock

  pub judges-block : (t : Block) (level here : ℕ) (fs : List Formal) (sc : Scope) → FormedBlock t level fs here → Judges (judge_block t fs sc) (Sees t fs sc)
  judges-block (block at ds ss) level here fs sc f =
      judges-both (SeesDecls ds (inside fs ds sc)) (SeesStmts ss (inside fs ds sc)) (here + 6 + 2 * length (decls_fields ds))
      (λ o a s h. (decls-lie ds level (length (stmts ss)) (here + 6) (inside fs ds sc) o a s f.declarations h).1)
      (λ o a s h. (stmts-lie ss level (here + 6 + 2 * length (decls_fields ds)) (inside fs ds sc) o a s f.statements h).0) _ _
      (judges-decls ds level (length (stmts ss)) (here + 6) (inside fs ds sc) f.declarations)
      (judges-stmts ss level (here + 6 + 2 * length (decls_fields ds)) (inside fs ds sc) f.statements)

  judges-decl : (d : Decl) (level n here : ℕ) (sc : Scope) → FormedDecl d level n here → Judges (judge_decl d sc) (SeesDecl d sc)
  judges-decl (VR at x) level n here sc f = judges-nothing (SeesDecl (VR at x) sc) (λ o a s h. h)
  judges-decl (LB at x i) level n here sc f = judges-nothing (SeesDecl (LB at x i) sc) (λ o a s h. h)
  judges-decl (PR at x fs b) level n here sc f = judges-block b (suc level) (here + 6 + 2 * length (formals_fields fs)) fs sc f.body

  judges-stmt : (x : Stmt) (level here : ℕ) (sc : Scope) → FormedStmt x level here → Judges (judge_stmt x sc) (SeesStmt x sc)
  judges-stmt (BK b) level here sc f = judges-block b (suc level) here [] sc f
  judges-stmt (DO at a) level here sc f = judges-action sc at a

  judges-decls : (ds : Decls) (level n here : ℕ) (sc : Scope) → FormedDecls ds level n here → Judges (judge_decls ds sc) (SeesDecls ds sc)
  judges-decls no-decl level n here sc f = judges-nothing (SeesDecls no-decl sc) (λ o a s h. h)
  judges-decls (decl d ds) level n here sc f =
      judges-both (SeesDecl d sc) (SeesDecls ds sc) (here + 2 * length (decl_fields d)) (λ o a s h. (decl-lies d level n here sc o a s f.0 h).1)
      (λ o a s h. (decls-lie ds level n (here + 2 * length (decl_fields d)) sc o a s f.1 h).0) _ _ (judges-decl d level n here sc f.0)
      (judges-decls ds level n (here + 2 * length (decl_fields d)) sc f.1)

  judges-stmts : (ss : Stmts) (level here : ℕ) (sc : Scope) → FormedStmts ss level here → Judges (judge_stmts ss sc) (SeesStmts ss sc)
  judges-stmts no-stmt level here sc f = judges-nothing (SeesStmts no-stmt sc) (λ o a s h. h)
  judges-stmts (stmt x ss) level here sc f =
      judges-both (SeesStmt x sc) (SeesStmts ss sc) (here + 2 * length (stmt_fields x)) (λ o a s h. (stmt-lies x level here sc o a s f.0 h).1)
      (λ o a s h. (stmts-lie ss level (here + 2 * length (stmt_fields x)) sc o a s f.1 h).0) _ _ (judges-stmt x level here sc f.0)
      (judges-stmts ss level (here + 2 * length (stmt_fields x)) sc f.1)
