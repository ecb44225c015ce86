-- One action in a scope: it is judged wrong exactly where a name that it uses, or the call as a whole, is at fault (9 to 11), and with its own offset.
use Rattle.std.specs.Prelude.{ℕ, Bool, ◌≢◌, ◌≡◌}
use Rattle.std.proofs.Math.Bool.{true, false}
use mathlib.Core.List.{List, [], ◌∷◌, ◌++◌, map}
use Rattle.std.proofs.Math.Option.{Option, none, some}
use Rattle.std.proofs.Math.Path.{refl}
use Rattle.std.proofs.Common.{sym, ap, ◌∙◌, subst}
use Rattle.language.specs.Basics.{lookup}
use Rattle.language.specs.Text.{Kind, variable, label, procedure, same_kind, Action, CL, GO, IF, KN, AR, AD, RM, QY}
use Rattle.language.specs.Scope.{Meaning, Scope, Judgement, fine, wrong, ◌then◌, of_kind, uses, visible, all_visible, kind_in, agree, agrees, judge_action}
use Rattle.language.specs.declared.Refusal.{Refusal}
use Rattle.language.specs.declared.Refusal.TheVariants.{NotVisible, WrongKind, CallMismatch}
use Rattle.laws.specs.Tests.{split, never}
use Rattle.laws.specs.Each.{Each}
use Rattle.laws.specs.Kinds.{same_kind_lem, agree-false, differs_false}
use Rattle.grammar.specs.Scoped.{Fine, nothing, both}
use Rattle.grammar.specs.Scoped.{used as of-kind, seen as of-any}
use Rattle.causes.specs.Faults.{used, Suits, Uses, Mismatch, Misuse, not_seen, of-another-kind, not-matched}

-- what holds of a refusal and its offset, if there is one
abbrev pub Judged : (Refusal → ℕ → Type 0) → Judgement → Type 0
Judged P fine = Unit {0}
Judged P (wrong c o) = P c o

pub judged-then : (P : Refusal → ℕ → Type 0) (v w : Judgement) → Judged P v → (v ≡ fine → Judged P w) → Judged P (◌then◌ v w)
unfolding ◌then◌
judged-then P fine w a b = b refl
judged-then P (wrong c o) w a b = a

pub judged-map : (P Q : Refusal → ℕ → Type 0) (v : Judgement) → ((c : Refusal) (o : ℕ) → v ≡ wrong c o → P c o → Q c o) → Judged P v → Judged Q v
judged-map P Q fine f h = tt
judged-map P Q (wrong c o) f h = f c o refl h

pub judged-wrong : (P : Refusal → ℕ → Type 0) (v : Judgement) (c : Refusal) (o : ℕ) → Judged P v → v ≡ wrong c o → P c o
judged-wrong P v c o h e = subst (Judged P) e h

pub wrong-then : (v w : Judgement) (c : Refusal) (o : ℕ) → v ≡ wrong c o → ◌then◌ v w ≡ wrong c o
unfolding ◌then◌
wrong-then v w c o e = rw (e, ◌then◌)

pub fine-then : (v w : Judgement) → v ≡ fine → ◌then◌ v w ≡ w
unfolding ◌then◌
fine-then v w e = rw (e, ◌then◌)

then-fine : (v : Judgement) → v ≡ ◌then◌ v fine
unfolding ◌then◌
then-fine fine = refl
then-fine (wrong c o) = refl

then-assoc : (u v w : Judgement) → ◌then◌ u (◌then◌ v w) ≡ ◌then◌ (◌then◌ u v) w
unfolding ◌then◌
then-assoc fine v w = refl
then-assoc (wrong c o) v w = refl

-- the names used, one after the other
judge_use : Scope → ℕ → ℕ × Option Kind → Judgement
judge_use sc o (n, none) = visible o (lookup n sc)
judge_use sc o (n, some k) = uses sc o k n

judge_uses : Scope → ℕ → List (ℕ × Option Kind) → Judgement
judge_uses sc o [] = fine
judge_uses sc o (u ∷ us) = ◌then◌ (judge_use sc o u) (judge_uses sc o us)

-- and then the call
agreement : Scope → ℕ → Action → Judgement
agreement sc o (CL p xs) = agrees o (lookup p sc) (map (kind_in sc) xs)
agreement sc o (GO l) = fine
agreement sc o (IF v l) = fine
agreement sc o (KN t z) = fine
agreement sc o (AR t p l r) = fine
agreement sc o (AD g m) = fine
agreement sc o (RM g m) = fine
agreement sc o (QY t g m) = fine

any-kind : (sc : Scope) (o : ℕ) (xs : List ℕ) → all_visible sc o xs ≡ judge_uses sc o (map (λ (x : ℕ). (x, none)) xs)
unfolding all_visible judge_uses judge_use
any-kind sc o [] = refl
any-kind sc o (x ∷ xs) = ap (◌then◌ (visible o (lookup x sc))) (any-kind sc o xs)

one : (v : Judgement) → v ≡ ◌then◌ (◌then◌ v fine) fine
one v = then-fine v ∙ then-fine (◌then◌ v fine)

by-uses : (sc : Scope) (o : ℕ) (a : Action) → judge_action sc o a ≡ ◌then◌ (judge_uses sc o (used a)) (agreement sc o a)
unfolding judge_action used judge_uses judge_use agreement
by-uses sc o (CL p xs) =
    then-assoc (uses sc o procedure p) (all_visible sc o xs) (agrees o (lookup p sc) (map (kind_in sc) xs))
    ∙ ap (λ (v : Judgement). ◌then◌ (◌then◌ (uses sc o procedure p) v) (agrees o (lookup p sc) (map (kind_in sc) xs))) (any-kind sc o xs)
by-uses sc o (GO l) = one (uses sc o label l)
by-uses sc o (IF v l) = ap (◌then◌ (uses sc o variable v)) (then-fine (uses sc o label l)) ∙ then-fine _
by-uses sc o (KN t z) = one (uses sc o variable t)
by-uses sc o (AR t p l r) = ap (λ (v : Judgement). ◌then◌ (uses sc o variable t) (◌then◌ (uses sc o variable l) v)) (then-fine (uses sc o variable r)) ∙ then-fine _
by-uses sc o (AD g m) = ap (◌then◌ (uses sc o variable g)) (then-fine (uses sc o variable m)) ∙ then-fine _
by-uses sc o (RM g m) = ap (◌then◌ (uses sc o variable g)) (then-fine (uses sc o variable m)) ∙ then-fine _
by-uses sc o (QY t g m) = ap (λ (v : Judgement). ◌then◌ (uses sc o variable t) (◌then◌ (uses sc o variable g) v)) (then-fine (uses sc o variable m)) ∙ then-fine _

-- where nothing is wrong
use-fine : (sc : Scope) (o : ℕ) (u : ℕ × Option Kind) → Fine (judge_use sc o u) (Suits sc u)
unfolding judge_use
use-fine sc o (n, none) = of-any sc o n
use-fine sc o (n, some k) = of-kind sc o k n

uses-fine : (sc : Scope) (o : ℕ) (us : List (ℕ × Option Kind)) → Fine (judge_uses sc o us) (Each (Suits sc) us)
unfolding judge_uses
uses-fine sc o [] = nothing
uses-fine sc o (u ∷ us) = both (use-fine sc o u) (uses-fine sc o us)

-- two kinds
same-as : (k l : Kind) → l ≡ k → same_kind k l ≡ true
unfolding same_kind
same-as k l e = rw e (itself k)
  where
    itself : (j : Kind) → same_kind j j ≡ true
    itself variable = refl
    itself label = refl
    itself procedure = refl

differs : (k l : Kind) → l ≢ k → same_kind k l ≡ false
differs k l h = split (same_kind k l) (λ e. absurd (h (sym (same_kind_lem k l e)))) (λ e. e)

-- what is wrong with one name
data Bad (sc : Scope) (n : ℕ) : Option Kind → Refusal → Type 0 where
  bad-unseen : {want : Option Kind} → lookup n sc ≡ none → Bad sc n want NotVisible
  bad_kind : {k : Kind} (m : Meaning) → lookup n sc ≡ some m → m.kind ≢ k → Bad sc n (some k) WrongKind

-- the first of the names with which something is wrong
record FirstBad (sc : Scope) (us : List (ℕ × Option Kind)) (c : Refusal) : Type 0 where
  name : ℕ
  want : Option Kind
  left : List (ℕ × Option Kind)
  right : List (ℕ × Option Kind)
  order : us ≡ left ++ ((name, want) ∷ right)
  fine : Each (Suits sc) left
  bad : Bad sc name want c

-- From the judgement to the cause

any-bad : (sc : Scope) (o n : ℕ) → Judged (λ c p. (p ≡ o) × Bad sc n none c) (visible o (lookup n sc))
unfolding visible
any-bad sc o n = go (lookup n sc) refl
  where
    go : (v : Option Meaning) → lookup n sc ≡ v → Judged (λ c p. (p ≡ o) × Bad sc n none c) (visible o v)
    go none e = (refl, bad-unseen e)
    go (some m) e = tt

kind-bad : (sc : Scope) (o n : ℕ) (k : Kind) → Judged (λ c p. (p ≡ o) × Bad sc n (some k) c) (uses sc o k n)
unfolding uses of_kind
kind-bad sc o n k = go (lookup n sc) refl
  where
    same : (m : Meaning) → lookup n sc ≡ some m → (t : Bool) → same_kind k m.kind ≡ t → Judged (λ c p. (p ≡ o) × Bad sc n (some k) c) (elim t [ true ↦ fine | false ↦ wrong WrongKind o ])
    same m e true q = tt
    same m e false q = (refl, bad_kind m e (λ t. never (same-as k m.kind t) q))

    go : (v : Option Meaning) → lookup n sc ≡ v → Judged (λ c p. (p ≡ o) × Bad sc n (some k) c) (of_kind k o v)
    go none e = (refl, bad-unseen e)
    go (some m) e = same m e (same_kind k m.kind) refl

use-bad : (sc : Scope) (o n : ℕ) (want : Option Kind) → Judged (λ c p. (p ≡ o) × Bad sc n want c) (judge_use sc o (n, want))
unfolding judge_use
use-bad sc o n none = any-bad sc o n
use-bad sc o n (some k) = kind-bad sc o n k

uses-bad : (sc : Scope) (o : ℕ) (us : List (ℕ × Option Kind)) → Judged (λ c p. (p ≡ o) × FirstBad sc us c) (judge_uses sc o us)
unfolding judge_uses
uses-bad sc o [] = tt
uses-bad sc o ((n, want) ∷ us) =
    judged-then (λ c p. (p ≡ o) × FirstBad sc ((n, want) ∷ us) c) (judge_use sc o (n, want)) (judge_uses sc o us)
    (judged-map (λ c p. (p ≡ o) × Bad sc n want c) _ (judge_use sc o (n, want))
    (λ c p e h. (h.0, record { name = n; want = want; left = []; right = us; order = refl; fine = tt; bad = h.1 })) (use-bad sc o n want))
    (λ e.
    judged-map (λ c p. (p ≡ o) × FirstBad sc us c) _ (judge_uses sc o us)
    (λ c p q h. (
      h.0,
      record {
        name = h.1.name;
        want = h.1.want;
        left = (n, want) ∷ h.1.left;
        right = h.1.right;
        order = ap ((n, want) ∷◌) h.1.order;
        fine = ((use-fine sc o (n, want)).0 e, h.1.fine);
        bad = h.1.bad;
      },
    )) (uses-bad sc o us))

bad-misuse : (sc : Scope) (a : Action) (c : Refusal) (n : ℕ) (want : Option Kind) → Uses sc a n want → Bad sc n want c → Misuse c a sc
bad-misuse sc a c n want u (bad-unseen e) = not_seen (record { name = n; want = want; uses = u; unseen = e })
bad-misuse sc a c n want u (bad_kind {k = k} m e q) = of-another-kind (record { name = n; want = k; meaning = m; uses = u; seen = e; other = q })

first-misuse : (sc : Scope) (a : Action) (c : Refusal) → FirstBad sc (used a) c → Misuse c a sc
first-misuse sc a c h = bad-misuse sc a c h.name h.want (record { left = h.left; right = h.right; order = h.order; fine = h.fine }) h.bad

module _ (sc : Scope) (o p : ℕ) (xs : List ℕ) (h : Each (Suits sc) (used (CL p xs))) where
  mismatch : (v : Option Meaning) → lookup p sc ≡ v → Judged (λ c q. (q ≡ o) × Misuse c (CL p xs) sc) (agrees o v (map (kind_in sc) xs))
  unfolding agrees
  mismatch none e = tt
  mismatch (some m) e = takes m.takes refl
    where
      differ : (ks : List Kind) → m.takes ≡ some ks → (t : Bool) → agree ks (map (kind_in sc) xs) ≡ t
          → Judged (λ c q. (q ≡ o) × Misuse c (CL p xs) sc) (elim t [ true ↦ fine | false ↦ wrong CallMismatch o ])
      differ ks e' true q = tt
      differ ks e' false q = (refl, not-matched (record { called = p; arguments = xs; meaning = m; takes = ks; call = refl; fine = h; seen = e; declared = e'; differ = agree-false ks (map (kind_in sc) xs) q }))

      takes : (t : Option (List Kind)) → m.takes ≡ t
          → Judged (λ c q. (q ≡ o) × Misuse c (CL p xs) sc) (elim t [ none ↦ fine | some ks ↦ elim (agree ks (map (kind_in sc) xs)) [ true ↦ fine | false ↦ wrong CallMismatch o ] ])
      takes none e' = tt
      takes (some ks) e' = differ ks e' (agree ks (map (kind_in sc) xs)) refl

agreement-bad : (sc : Scope) (o : ℕ) (a : Action) → Each (Suits sc) (used a) → Judged (λ c q. (q ≡ o) × Misuse c a sc) (agreement sc o a)
unfolding agreement
agreement-bad sc o (CL p xs) h = mismatch sc o p xs h (lookup p sc) refl
agreement-bad sc o (GO l) h = tt
agreement-bad sc o (IF v l) h = tt
agreement-bad sc o (KN t z) h = tt
agreement-bad sc o (AR t p l r) h = tt
agreement-bad sc o (AD g m) h = tt
agreement-bad sc o (RM g m) h = tt
agreement-bad sc o (QY t g m) h = tt

pub action-misused : (sc : Scope) (o : ℕ) (a : Action) → Judged (λ c p. (p ≡ o) × Misuse c a sc) (judge_action sc o a)
action-misused sc o a =
    subst (Judged (λ c p. (p ≡ o) × Misuse c a sc)) (sym (by-uses sc o a))
    (judged-then (λ c p. (p ≡ o) × Misuse c a sc) (judge_uses sc o (used a)) (agreement sc o a)
    (judged-map (λ c p. (p ≡ o) × FirstBad sc (used a) c) _ (judge_uses sc o (used a)) (λ c p e h. (h.0, first-misuse sc a c h.1)) (uses-bad sc o (used a)))
    (λ e. agreement-bad sc o a ((uses-fine sc o (used a)).0 e)))

-- From the cause to the judgement

bad-use : (sc : Scope) (o n : ℕ) (want : Option Kind) (c : Refusal) → Bad sc n want c → judge_use sc o (n, want) ≡ wrong c o
unfolding judge_use visible uses of_kind
bad-use sc o n none c (bad-unseen e) = rw (e, visible)
bad-use sc o n (some k) c (bad-unseen e) = rw (e, of_kind)
bad-use sc o n (some k) c (bad_kind m e q) = rw (e, differs k m.kind q, of_kind)

bad-uses : (sc : Scope) (o n : ℕ) (want : Option Kind) (c : Refusal) (left right : List (ℕ × Option Kind)) → Each (Suits sc) left → Bad sc n want c
    → judge_uses sc o (left ++ ((n, want) ∷ right)) ≡ wrong c o
unfolding judge_uses
bad-uses sc o n want c [] right h b = wrong-then _ _ c o (bad-use sc o n want c b)
bad-uses sc o n want c (u ∷ left) right h b =
    fine-then (judge_use sc o u) _ ((use-fine sc o u).1 h.0) ∙ bad-uses sc o n want c left right h.1 b

bad-action : (sc : Scope) (o : ℕ) (a : Action) (n : ℕ) (want : Option Kind) (c : Refusal) → Uses sc a n want → Bad sc n want c → judge_action sc o a ≡ wrong c o
bad-action sc o a n want c u b =
    by-uses sc o a ∙ wrong-then (judge_uses sc o (used a)) _ c o (ap (judge_uses sc o) u.order ∙ bad-uses sc o n want c u.left u.right u.fine b)

mismatch-wrong : (sc : Scope) (o : ℕ) (a : Action) → Mismatch a sc → judge_action sc o a ≡ wrong CallMismatch o
unfolding agreement agrees
mismatch-wrong sc o a h =
    by-uses sc o a ∙ fine-then (judge_uses sc o (used a)) _ ((uses-fine sc o (used a)).1 h.fine) ∙ ap (agreement sc o) h.call
    ∙ rw (h.seen, agrees, h.declared, differs_false h.takes (map (kind_in sc) h.arguments) h.differ)

pub misuse-wrong : (c : Refusal) (sc : Scope) (o : ℕ) (a : Action) → Misuse c a sc → judge_action sc o a ≡ wrong c o
misuse-wrong c sc o a (not_seen h) = bad-action sc o a h.name h.want NotVisible h.uses (bad-unseen h.unseen)
misuse-wrong c sc o a (of-another-kind h) = bad-action sc o a h.name (some h.want) WrongKind h.uses (bad_kind h.meaning h.seen h.other)
misuse-wrong c sc o a (not-matched h) = mismatch-wrong sc o a h
